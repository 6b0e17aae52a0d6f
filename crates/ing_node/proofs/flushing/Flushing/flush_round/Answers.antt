use Rattle.std.proofs.Common.{◌≡◌, ◌<◌, arith, length, slice_index_or}
use Rattle.ing_flush.specs.declared.worker.Worker.{Worker}
use Rattle.ing_flush.specs.Rounds.{IsRound, worker_of}
use Rattle.ing_node.specs.Names.{IsTallyOf}
use Rattle.ing_begun.proofs.Lists.{of_same}
use Rattle.ing_node.proofs.RoundLaws.{all_rose, none_rose, zip_of}
use Rattle.ing_node.proofs.flushing.Flushing.flush_round.Goals as goal

pub returns-clause-own : goal.returns-clause-own
returns-clause-own g c k d below =
    let W = Worker g.row.S.Denot g.row.G.Denot g.row.R.Denot in
    let there : k < length c.args.workers.now = omega (arith, below, c.for_each_mut.auto.s) in
    let at = (c.for_each_mut.ensures k d there).1 in
    let P = λ (old new : W). IsTallyOf g.N.NodeName.settings.shards g.N.NodeName.books new.flusher.tally in
    of_same P at.argument.now at.after_call.now (slice_index_or c.args.workers.now k d) (slice_index_or c.for_each_mut.new.s k d) at.argument_is at.left at.call.1.0

pub returns-clause-rounds : goal.returns-clause-rounds
returns-clause-rounds g c =
    let W = Worker g.row.S.Denot g.row.G.Denot g.row.R.Denot in
    let count = g.S.StoreEnd.failure_count in
    let P = λ (old new : W). IsRound (worker_of count old) (worker_of count new) in
    zip_of P c.args.workers.now c.for_each_mut.new.s c.for_each_mut.auto.s
    (λ i d below.
    let at = (c.for_each_mut.ensures i d below).1 in
    of_same P at.argument.now at.after_call.now (slice_index_or c.args.workers.now i d) (slice_index_or c.for_each_mut.new.s i d) at.argument_is at.left at.call.1.1.0)

pub returns-clause-sure : goal.returns-clause-sure
returns-clause-sure g c =
    let W = Worker g.row.S.Denot g.row.G.Denot g.row.R.Denot in
    let count = g.S.StoreEnd.failure_count in
    let sure = g.S.StoreEnd.never_fails in
    let P = λ (old new : W). sure old.flusher.end.end → (sure new.flusher.end.end) × (count new.flusher.end.end ≡ count old.flusher.end.end) in
    zip_of P c.args.workers.now c.for_each_mut.new.s c.for_each_mut.auto.s
    (λ i d below.
    let at = (c.for_each_mut.ensures i d below).1 in
    of_same P at.argument.now at.after_call.now (slice_index_or c.args.workers.now i d) (slice_index_or c.for_each_mut.new.s i d) at.argument_is at.left at.call.1.1.1)

pub returns-clause-risen : goal.returns-clause-risen
returns-clause-risen g c =
    let W = Worker g.row.S.Denot g.row.G.Denot g.row.R.Denot in
    let all = all_rose (λ (w : W). worker_of g.S.StoreEnd.failure_count w) c.args.workers.now c.for_each_mut.new.s (returns-clause-rounds g c) in
    omega (arith, all, c.sum_of.ensures.stored)

pub returns-clause-none : goal.returns-clause-none
returns-clause-none g c none =
    let W = Worker g.row.S.Denot g.row.G.Denot g.row.R.Denot in
    none_rose (λ (w : W). worker_of g.S.StoreEnd.failure_count w) c.args.workers.now c.for_each_mut.new.s (returns-clause-rounds g c)
    (omega (arith, none, c.sum_of.ensures.stored))
