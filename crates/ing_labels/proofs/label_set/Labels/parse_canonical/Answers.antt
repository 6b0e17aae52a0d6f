use Rattle.std.proofs.Common.{◌≡◌, sym, ap, subst, ◌∙◌}
use Rattle.std.specs.FinMap.{from_sorted}
use Rattle.ing_labels.specs.Labels.{texts, AreLabels}
use Rattle.ing_labels.specs.Canonical.{canonical_of}
use Rattle.ing_labels.specs.Texts.{entry_texts}
use Rattle.ing_labels.proofs.Tested.{whole_labels}
use Rattle.ing_labels.proofs.label_set.Labels.parse_canonical.Goals as goal

pub in_order-requires : goal.in_order-requires
in_order-requires c =
    let labels = c.in_ok-values.ensures.pairs.labels in
    let is : texts c.deref.result.now ≡ entry_texts c.in_ok-values.values.entries = ap texts c.deref.ensures.value ∙ c.in_ok-pairs.ensures in
    subst AreLabels (sym (whole_labels _ _ labels is)) labels

pub returns-clause-text : goal.returns-clause-text
returns-clause-text c =
    let is : texts c.deref.result.now ≡ entry_texts c.in_ok-values.values.entries = ap texts c.deref.ensures.value ∙ c.in_ok-pairs.ensures in
    c.in_ok-values.ensures.pairs.spelt
    ∙ ap canonical_of (sym (c.in_ok-in_order.ensures ∙ ap from_sorted (whole_labels _ _ c.in_ok-values.ensures.pairs.labels is)))
