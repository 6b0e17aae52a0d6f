use Rattle.std.proofs.Common.{refl, sym, ◌∙◌}
use Rattle.std.proofs.lemmas.Result.{IfOk-weaker}
use Rattle.ing_labels.specs.Labels.{texts, HoldsPairs, KeepsLimits}
use Rattle.ing_labels.proofs.Tested.{in_order, labels_in_order, labels_of-kept, made_in_order, tested, not_both}
use Rattle.ing_labels.proofs.label_set.Labels.of_pairs.Goals as goal

pub returns-in-Some-kept_fault-clause-fault : goal.returns-in-Some-kept_fault-clause-fault
returns-in-Some-kept_fault-clause-fault c = λ _.
    labels_of-kept c.args.limits.now (texts c.args.pairs.now) _ (sym c.first_bad_name.ensures ∙ c.in_default.is) (in_order (texts c.args.pairs.now) (sym c.names_rise.ensures ∙ c.if-names_rise.true)).apart c.in-Some-kept_fault.ensures

pub returns-in-Some-kept_fault-clause-rising : goal.returns-in-Some-kept_fault-clause-rising
returns-in-Some-kept_fault-clause-rising c = λ _ e said.
    sym (labels_of-kept c.args.limits.now (texts c.args.pairs.now) _ (sym c.first_bad_name.ensures ∙ c.in_default.is) (in_order (texts c.args.pairs.now) (sym c.names_rise.ensures ∙ c.if-names_rise.true)).apart c.in-Some-kept_fault.ensures) ∙ said

pub in_order-requires : goal.in_order-requires
in_order-requires c =
    labels_in_order c.args.limits.now (texts c.args.pairs.now) (sym c.first_bad_name.ensures ∙ c.in_default.is) (sym c.names_rise.ensures ∙ c.if-names_rise.true) c.in_default-kept_fault.ensures

pub returns-in_err-in_order-clause-rising : goal.returns-in_err-in_order-clause-rising
returns-in_err-in_order-clause-rising c = λ _ e said.
    absurd (not_both _ e (made_in_order c.args.limits.now (texts c.args.pairs.now) _ (sym c.first_bad_name.ensures ∙ c.in_default.is) (sym c.names_rise.ensures ∙ c.if-names_rise.true) c.in_default-kept_fault.ensures refl) said)

pub returns-then-names_rise-clause-labels : goal.returns-then-names_rise-clause-labels
returns-then-names_rise-clause-labels c =
    made_in_order c.args.limits.now (texts c.args.pairs.now) _ (sym c.first_bad_name.ensures ∙ c.in_default.is) (sym c.names_rise.ensures ∙ c.if-names_rise.true) c.in_default-kept_fault.ensures c.in_ok-in_order.ensures

pub returns-then-names_rise-clause-rising : goal.returns-then-names_rise-clause-rising
returns-then-names_rise-clause-rising c = λ _ e said. absurd (not_both _ e (returns-then-names_rise-clause-labels c) said)

pub returns-then-names_rise-clause-pairs : goal.returns-then-names_rise-clause-pairs
returns-then-names_rise-clause-pairs c = (tested c.args.limits.now (texts c.args.pairs.now) _ (returns-then-names_rise-clause-labels c)).pairs

pub returns-then-names_rise-clause-limits : goal.returns-then-names_rise-clause-limits
returns-then-names_rise-clause-limits c = (tested c.args.limits.now (texts c.args.pairs.now) _ (returns-then-names_rise-clause-labels c)).kept

pub returns-clause-pairs : goal.returns-clause-pairs
returns-clause-pairs c = IfOk-weaker c.of_unordered.result _ (HoldsPairs (texts c.args.pairs.now)) (λ m said. (tested _ _ m said).pairs) c.of_unordered.ensures.labels

pub returns-clause-limits : goal.returns-clause-limits
returns-clause-limits c = IfOk-weaker c.of_unordered.result _ (KeepsLimits c.args.limits.now) (λ m said. (tested c.args.limits.now (texts c.args.pairs.now) m said).kept) c.of_unordered.ensures.labels
