use Rattle.std.proofs.Common.{◌≡◌, ap, length, sym, subst, slice_set, ◌∙◌}
use Rattle.ing_chunk.specs.Chunks.{in_blocks}
use Rattle.ing_shard.specs.Flights.{entries_in}
use Rattle.ing_flush.specs.Flushes.{RisesBy}
use Rattle.ing_flush.proofs.Risen.{back_own, back_risen, lent, lent_book, whole_count}
use Rattle.ing_flush.proofs.flush.finish.Goals as goal

pub finish-requires-clause-own : goal.finish-requires-clause-own
finish-requires-clause-own g c =
    let at = c.shard-place.ensures ∙ ap (λ f. f.shard) c.claimed-2.ensures in
    let is = lent g.D.Door.books c.tally.inside.shares.items c.args.tally.now g.D.Door.shards c.args.ticket.claimed.shard c.shard-place.result c.index_mut.result.now c.tally.view_is c.requires.own c.requires.all c.requires.shard at c.index_mut.ensures.value in
    lent_book g.D.Door.books c.tally.inside.shares.items c.args.ticket.claimed.shard c.shard-place.result c.index_mut.result.now is

pub returns-in_err-finish-clause-own : goal.returns-in_err-finish-clause-own
returns-in_err-finish-clause-own g c =
    let at = c.shard-place.ensures ∙ ap (λ f. f.shard) c.claimed-2.ensures in
    let is = lent g.D.Door.books c.tally.inside.shares.items c.args.tally.now g.D.Door.shards c.args.ticket.claimed.shard c.shard-place.result c.index_mut.result.now c.tally.view_is c.requires.own c.requires.all c.requires.shard at c.index_mut.ensures.value in
    back_own g.D.Door.books c.tally.inside.shares.items c.args.ticket.claimed.shard c.shard-place.result c.index_mut.result.now is c.finish.new.tally
    (ap (λ s. s.book) c.in_err-finish.ensures.err)

pub returns-clause-own : goal.returns-clause-own
returns-clause-own g c =
    let at = c.shard-place.ensures ∙ ap (λ f. f.shard) c.claimed-2.ensures in
    let is = lent g.D.Door.books c.tally.inside.shares.items c.args.tally.now g.D.Door.shards c.args.ticket.claimed.shard c.shard-place.result c.index_mut.result.now c.tally.view_is c.requires.own c.requires.all c.requires.shard at c.index_mut.ensures.value in
    back_own g.D.Door.books c.tally.inside.shares.items c.args.ticket.claimed.shard c.shard-place.result c.index_mut.result.now is c.finish.new.tally
    (ap (λ s. s.book) c.in_ok-finish.ensures.told)

pub returns-clause-stored : goal.returns-clause-stored
returns-clause-stored g c =
    let at = c.shard-place.ensures ∙ ap (λ f. f.shard) c.claimed-2.ensures in
    let is = lent g.D.Door.books c.tally.inside.shares.items c.args.tally.now g.D.Door.shards c.args.ticket.claimed.shard c.shard-place.result c.index_mut.result.now c.tally.view_is c.requires.own c.requires.all c.requires.shard at c.index_mut.ensures.value in
    let count : c.count-entries.result ≡ entries_in c.args.ticket.claimed =
    c.count-entries.ensures.value ∙ whole_count c.chunk.result.now c.chunk.ensures.whole
    ∙ ap (λ x. length (in_blocks x.blocks)) (c.chunk.ensures.value ∙ ap (λ f. f.chunk) c.claimed.ensures) in
    subst (λ n. RisesBy n c.args.ticket.claimed.shard c.args.tally.now (slice_set c.tally.inside.shares.items c.shard-place.result c.finish.new.tally)) (sym count)
    (back_risen g.D.Door.books c.tally.inside.shares.items c.args.ticket.claimed.shard c.shard-place.result c.index_mut.result.now is (entries_in c.args.ticket.claimed) c.args.tally.now c.finish.new.tally c.tally.view_is
    (ap (λ s. s.amount) c.in_ok-finish.ensures.told) c.requires.some)
