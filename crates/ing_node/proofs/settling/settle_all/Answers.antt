use Rattle.std.proofs.Common.{◌∙◌, ℕ, List, arith, subst, sym}
use Rattle.ing_rows.specs.Rows.{Row, StreamKey}
use Rattle.ing_diary.specs.Faults.{NamesOther}
use Rattle.ing_diary.specs.Fronts.{front_in, rows_since}
use Rattle.ing_diary.specs.Notes.{AreNoted, HaveNotedPlaces}
use Rattle.ing_node.specs.Diaries.{notes_at}
use Rattle.ing_node.specs.Earlier.{had_at}
use Rattle.ing_node.proofs.ClosingLaws.{get_below, had_there, next_too, so_there, stands_there}
use Rattle.ing_node.proofs.settling.settle_all.Goals as goal

pub returns-in-Err-clause-differs : goal.returns-in-Err-clause-differs
returns-in-Err-clause-differs g c honest =
    let helds = c.args.helds.now in
    let place = c.loop-place.place in
    let one = c.index-helds-place.result in
    let shards = g.N.NodeName.settings.shards in
    let had = had_there c.args.fronts.now g.N.NodeName.earlier place c.index-fronts-place.result c.requires.fronts (omega (arith, c.loop-place-test.true, c.requires.each)) c.index-fronts-place.is in
    let F = λ (rows : List Row) (n k : ℕ). NamesOther (rows_since (front_in c.index-fronts-place.result) rows) (notes_at n k c.args.pushers.now) c.in-Err.why in (
      one,
      stands_there helds place one c.loop-place-test.true c.index-helds-place.is,
      subst (λ (f : StreamKey → ℕ). NamesOther (rows_since f one.shard.memory.state.rows) (notes_at shards place c.args.pushers.now) c.in-Err.why) (sym had)
          (so_there (λ h. h.shard.memory) helds place one c.memory.result.now shards F c.loop-place-test.true c.index-helds-place.is c.memory.ensures c.requires.placed c.requires.all
          (c.in-Err.ensures.differs honest)),
    )

pub loop-place-preserved : goal.loop-place-preserved
loop-place-preserved g c =
    let helds = c.args.helds.now in
    let place = c.loop-place.place in
    let one = c.index-helds-place.result in
    let shards = g.N.NodeName.settings.shards in
    let pushers = c.args.pushers.now in
    let earlier = g.N.NodeName.earlier in
    let front = front_in c.index-fronts-place.result in
    let had = had_there c.args.fronts.now earlier place c.index-fronts-place.result c.requires.fronts (omega (arith, c.loop-place-test.true, c.requires.each)) c.index-fronts-place.is in
    let F = λ (rows : List Row) (n k : ℕ). AreNoted (rows_since front rows) (notes_at n k pushers) in
    let G = λ (rows : List Row) (n k : ℕ). HaveNotedPlaces (rows_since front rows) (notes_at n k pushers) in
    record {
      settled = λ honest. next_too (λ k h. AreNoted (rows_since (had_at earlier k) h.shard.memory.state.rows) (notes_at shards k pushers)) helds place one c.loop-place-test.true c.index-helds-place.is
          (subst (λ (f : StreamKey → ℕ). AreNoted (rows_since f one.shard.memory.state.rows) (notes_at shards place pushers)) (sym had)
          (so_there (λ h. h.shard.memory) helds place one c.memory.result.now shards F c.loop-place-test.true c.index-helds-place.is c.memory.ensures c.requires.placed c.requires.all
          (c.in_default.ensures.settled honest)))
          (c.loop-place.invariant.settled honest);
      places = next_too (λ k h. HaveNotedPlaces (rows_since (had_at earlier k) h.shard.memory.state.rows) (notes_at shards k pushers)) helds place one c.loop-place-test.true c.index-helds-place.is
          (subst (λ (f : StreamKey → ℕ). HaveNotedPlaces (rows_since f one.shard.memory.state.rows) (notes_at shards place pushers)) (sym had)
          (so_there (λ h. h.shard.memory) helds place one c.memory.result.now shards G c.loop-place-test.true c.index-helds-place.is c.memory.ensures c.requires.placed c.requires.all
          c.in_default.ensures.places))
          c.loop-place.invariant.places;
      count = c.in_default.ensures.count ∙ c.loop-place.invariant.count;
      sure = λ never. (c.settle.ensures.sure (c.loop-place.invariant.sure never)).0;
    }

pub returns-clause-settled : goal.returns-clause-settled
returns-clause-settled g c honest i held at =
    let there = get_below c.args.helds.now i held at in
    c.loop-place.invariant.settled honest i held (omega (arith, there, c.loop-place-test.false)) at

pub returns-clause-places : goal.returns-clause-places
returns-clause-places g c i held at =
    let there = get_below c.args.helds.now i held at in
    c.loop-place.invariant.places i held (omega (arith, there, c.loop-place-test.false)) at
