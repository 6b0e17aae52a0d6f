use Rattle.std.proofs.Common.{rules, tests, sym, ◌∙◌}
use Rattle.std.proofs.lemmas.Iterator.{YieldsList-from_slice}
use Rattle.std.proofs.lemmas.Iterator.Consumers.{YieldsList-from_filter, count_from_yields_List}
use Rattle.ing_labels.specs.Labels.{has_value}
use Rattle.ing_labels.proofs.Places.{length-filter-map}
use Rattle.ing_labels.proofs.checks.value_count.Goals as goal

pub returns : goal.returns
returns c =
    count_from_yields_List c.filter.result _ c.count.ensures.ran (YieldsList-from_filter _ (λ p. has_value (p.0.now, p.1.now)) (YieldsList-from_slice c.args.pairs.now cc) c.filter.ensures.closure (λ x b q k. search (rules, tests)))
    ∙ sym (length-filter-map has_value (λ p. (p.0.now, p.1.now)) c.args.pairs.now)
