use Rattle.std.proofs.Common.{◌≡◌, All, IfNone, IfSome, false, sym, subst, ◌∙◌}
use Rattle.std.proofs.lemmas.List.{take_all}
use Rattle.ing_labels.specs.Selectors.{asks_for_value}
use Rattle.ing_postings.specs.Index.{IsNoLonger}
use Rattle.ing_postings.proofs.Chosen.{shortest_skips, shortest_more}
use Rattle.ing_postings.proofs.postings.shortest_list.Goals as goal
use Rattle.ing_postings.proofs.postings.shortest_list.Goals.{then-asks_for_value, else-asks_for_value}

pub loop-matcher-preserved : goal.loop-matcher-preserved
loop-matcher-preserved c =
    elim c.if-asks_for_value.branch [
      | then-asks_for_value w ↦ rw w.shortest-is (shortest_more _ _ _ _ _ w.list_at-list.result w.shorter.result c.loop-matcher.invariant c.loop-matcher-test.true c.matcher-item.is (sym c.asks_for_value.ensures ∙ w.if-asks_for_value.true) (cc (w.list_at-list.ensures, w.name.ensures, w.value.ensures)) w.shorter.ensures.one w.shorter.ensures.not_longer w.shorter.ensures.shortest)
      | else-asks_for_value w ↦ rw w.shortest-is (shortest_skips _ _ _ _ _ c.loop-matcher.invariant c.loop-matcher-test.true c.matcher-item.is (sym c.asks_for_value.ensures ∙ w.if-asks_for_value.false))
    ]

pub returns-clause-shortest : goal.returns-clause-shortest
returns-clause-shortest c = subst (λ ms. IfSome c.loop-matcher.shortest (λ list. All (IsNoLonger c.args.index.now list.now) ms)) (take_all c.loop-matcher.matcher-index c.args.matchers.now c.loop-matcher-test.false) c.loop-matcher.invariant.shortest

pub returns-clause-none : goal.returns-clause-none
returns-clause-none c = subst (λ ms. IfNone c.loop-matcher.shortest (All (λ m. asks_for_value m ≡ false) ms)) (take_all c.loop-matcher.matcher-index c.args.matchers.now c.loop-matcher-test.false) c.loop-matcher.invariant.none
