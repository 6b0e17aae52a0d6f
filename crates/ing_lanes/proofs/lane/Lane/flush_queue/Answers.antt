use Rattle.std.proofs.Common.{◌≡◌, ◌++◌, ◌∙◌, ap, length, subst, sym}
use Rattle.std.proofs.lemmas.Slice.Zip.{AllZip-long}
use Rattle.std.specs.Prelude.{drop, take}
use Rattle.ing_tally.specs.Books.{amount_of}
use Rattle.ing_node.specs.Rounds.{IsRound, worker_of}
use Rattle.ing_lanes.specs.Counted.{RisesBy, counted_by}
use Rattle.ing_lanes.proofs.CountLaws.{sum_same, written_back}
use Rattle.ing_lanes.proofs.lane.Lane.flush_queue.Goals as goal

-- the flushers' counts rose by the round that they made
pub returns-clause-rises : goal.returns-clause-rises
returns-clause-rises g c =
    let before = c.as_mut_slice-workers.result.now in
    let news = c.flush_round.new.workers in
    let size = c.args.self.now.workers.len in
    let same : before ≡ c.args.self.now.workers.items = c.as_mut_slice-workers.ensures.value in
    let long : length news ≡ length before =
    AllZip-long (λ old new. IsRound (worker_of g.F.StoreEnd.failure_count old) (worker_of g.F.StoreEnd.failure_count new)) before news c.flush_round.ensures.rounds in
    let left : take size (news ++ drop (length news) before) ≡ news =
    ap (λ n. take n (news ++ drop (length news) before)) (c.args.self.now.workers.ok.0 ∙ ap length (sym same)) ∙ written_back news before long in
    subst (λ olds. RisesBy c.flush_round.result.stored (counted_by olds) (counted_by (take size (news ++ drop (length news) olds)))) same
    (subst (λ ws. RisesBy c.flush_round.result.stored (counted_by before) (counted_by ws)) (sym left) (record {
      least = c.flush_round.ensures.risen;
      none = λ none. sum_same (λ worker. worker.flusher.tally) amount_of before news (c.flush_round.ensures.none none);
    }))
