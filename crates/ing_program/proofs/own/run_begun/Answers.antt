use Rattle.std.proofs.Common.{◌∙◌, Err, ap, map, refl, reverse, subst, sym}
use Rattle.std.proofs.lemmas.List.{length-reverse}
use Rattle.ing_lanes.specs.Kept.{DurableContents, whose}
use Rattle.ing_lanes.specs.Ending.TheVariants.{NoMemory}
use Rattle.ing_lanes.proofs.RunsLaws.{no_room}
use Rattle.ing_service.specs.ByShards.{by_shards}
use Rattle.ing_service.specs.Clocks.{heard_by}
use Rattle.ing_service.specs.Ends.{failures_in}
use Rattle.ing_service.specs.Held.{AreShardsOf, shard_held}
use Rattle.ing_program.proofs.OwnLaws.{are_shards, made_alike, own_shares}
use Rattle.ing_program.proofs.own.run_begun.Goals as goal

pub seats_of-seats-requires-clause-own : goal.seats_of-seats-requires-clause-own
seats_of-seats-requires-clause-own g c = own_shares c.args.shards.settings 0 (reverse c.into_parts-settings.result.1.items) c.into_parts-settings.ensures.placed

pub run_own-requires-clause-shards : goal.run_own-requires-clause-shards
run_own-requires-clause-shards g c κs lives =
    let parts = c.into_parts-settings.result in
    let said = c.into_parts-settings.ensures in
    let bs = reverse parts.1.items in
    subst (λ s. AreShardsOf s (map (λ seat. whose seat.shard.memory) c.seats_of-seats.result.items)) (sym said.same.0)
    (made_alike (λ seat. seat.shard) (λ begun. begun.shard) (λ (d : DurableContents _). whose d.memory) c.seats_of-seats.result.items bs c.seats_of-seats.ensures
    ∙ are_shards c.args.shards.settings bs (length-reverse parts.1.items ∙ sym parts.1.ok.0 ∙ said.all) said.placed)

pub run_own-requires-clause-held : goal.run_own-requires-clause-held
run_own-requires-clause-held g c κs lives =
    let parts = c.into_parts-settings.result in
    let bs = reverse parts.1.items in
    c.requires.held ∙ ap (λ v. map (λ begun. shard_held begun.shard) (reverse v.items)) (sym c.into_parts-settings.ensures.same.1)
    ∙ sym (made_alike (λ seat. seat.shard) (λ begun. begun.shard) (λ (d : DurableContents _). shard_held d) c.seats_of-seats.result.items bs c.seats_of-seats.ensures)

-- there was no room for the list of shards
pub returns-in_default-clause-written : goal.returns-in_default-clause-written
returns-in_default-clause-written g c =
    let input = g.I.Read.remaining c.args.reader.now in
    let failed = failures_in g.S.StoreEnd.failure_count c.args.ends.now in
    let written = g.W.Write.contents c.args.writer.now in
    no_room {T = Unit {0}} (by_shards g.S.StoreEnd.is_honest g.N.Beginning.begun) c.args.shards.settings record {
      input = input;
      rest = input;
      ticks = heard_by c.args.shards.settings (g.P.Ticker.said c.args.ticker.now);
      before = failed;
      after = failed;
      old = written;
      new = written;
    } (Err NoMemory) NoMemory refl refl refl refl
