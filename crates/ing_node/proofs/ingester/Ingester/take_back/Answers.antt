use Rattle.std.proofs.Common.{◌≡◌, ◌∙◌, Some, ap, arith, sym, vec_len}
use Rattle.std.proofs.lemmas.List.Elements.{All-pop}
use Rattle.ing_tally.specs.Books.{ShareState}
use Rattle.ing_node.proofs.ClosingLaws.{left_get, popped_get}
use Rattle.ing_node.proofs.ingester.Ingester.take_back.Goals as goal

pub take_back_push-requires-clause-own : goal.take_back_push-requires-clause-own
take_back_push-requires-clause-own g c =
    let rest = c.pop.new.self in
    let at = popped_get c.loop-last.told.items rest.items c.in-Some.last c.in-Some.ensures.items (vec_len rest) (sym rest.ok.0) in
    ap (λ (s : ShareState). s.book) c.last.view_is ∙ c.loop-last.invariant.own (vec_len rest) c.in-Some.last at
    ∙ ap (λ n. (g.N.NodeName.books n).accepted) (sym c.len-place.ensures)

pub loop-last-preserved : goal.loop-last-preserved
loop-last-preserved g c =
    let at = c.loop-last.invariant in
    let rest = c.pop.new.self in
    let all = at.all in
    record {
      all = omega (arith, all, c.in-Some.ensures.len);
      own = λ i s there. at.own i s (left_get c.loop-last.told.items rest.items c.in-Some.last c.in-Some.ensures.items i s there);
      zero = (All-pop (λ (s : ShareState). s.amount ≡ 0) c.loop-last.told.items rest.items (Some c.in-Some.last) c.in-Some.ensures.items at.zero).0;
    }
