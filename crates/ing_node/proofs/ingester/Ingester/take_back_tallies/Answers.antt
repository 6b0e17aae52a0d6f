use Rattle.std.proofs.Common.{◌≡◌, ◌∙◌, Some, ap, arith, sym, vec_len}
use Rattle.std.proofs.lemmas.List.Elements.{All-pop}
use Rattle.ing_tally.specs.Books.{ShareState}
use Rattle.ing_node.proofs.ClosingLaws.{left_get, popped_get}
use Rattle.ing_node.proofs.ingester.Ingester.take_back_tallies.Goals as goal

pub take_back_tally-requires-clause-own : goal.take_back_tally-requires-clause-own
take_back_tally-requires-clause-own g c =
    let rest = c.pop.new.self in
    let at = popped_get c.loop-share.shares.items rest.items c.in-Some.share c.in-Some.ensures.items (vec_len rest) (sym rest.ok.0) in
    c.loop-share.invariant.own (vec_len rest) c.in-Some.share at ∙ ap (λ n. (g.N.NodeName.books n).stored) (sym c.len-place.ensures)

pub loop-share-preserved : goal.loop-share-preserved
loop-share-preserved g c =
    let at = c.loop-share.invariant in
    let rest = c.pop.new.self in
    let all = at.all in
    record {
      all = omega (arith, all, c.in-Some.ensures.len);
      own = λ i s there. at.own i s (left_get c.loop-share.shares.items rest.items c.in-Some.share c.in-Some.ensures.items i s there);
      zero = (All-pop (λ (s : ShareState). s.amount ≡ 0) c.loop-share.shares.items rest.items (Some c.in-Some.share) c.in-Some.ensures.items at.zero).0;
    }
