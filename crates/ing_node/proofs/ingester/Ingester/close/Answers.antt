use Rattle.std.proofs.Common.{◌≡◌, ◌<◌, ◌+◌, ap, arith, List, length, refl, sym, subst, ◌∙◌, slice_get, vec_len}
use Rattle.std.specs.Prelude.{All, sum_by}
use Rattle.ing_tally.specs.Books.{amount_of}
use Rattle.std.proofs.lemmas.List.{length-map}
use Rattle.ing_begun.specs.Closed.{closed_of}
use Rattle.ing_flush.specs.Tallies.{amount_at}
use Rattle.ing_node.specs.Closing.{shares_at}
use Rattle.ing_node.proofs.ClosingLaws.{closed_by, closed_as, closed_counted, closed_placed, complete_as, gathered_as, get_below}
use Rattle.ing_diary.specs.Fronts.{rows_since}
use Rattle.ing_diary.specs.Notes.{AreNoted, HaveNotedPlaces}
use Rattle.ing_node.specs.Earlier.{had_at}
use Rattle.ing_node.specs.Diaries.{KeepsDiary, PusherState, notes_at}
use Rattle.ing_node.proofs.ingester.Ingester.close.Goals as goal

pub hand_out_pushers-requires-clause-room : goal.hand_out_pushers-requires-clause-room
hand_out_pushers-requires-clause-room g c i list at = let room = c.in-Ok.ensures.pushing.2 i list at in omega (arith, room)

pub hand_out_tallies-requires-clause-room : goal.hand_out_tallies-requires-clause-room
hand_out_tallies-requires-clause-room g c i list at = let room = c.in-Ok.ensures.stored.2 i list at in omega (arith, room)

pub hand_out_earlier-requires-clause-pushing_room : goal.hand_out_earlier-requires-clause-pushing_room
hand_out_earlier-requires-clause-pushing_room g c = c.hand_out_pushers.ensures.room 1 (λ i list at. let room = c.in-Ok.ensures.pushing.2 i list at in omega (arith, room, c.len.ensures))

pub hand_out_earlier-requires-clause-stored_room : goal.hand_out_earlier-requires-clause-stored_room
hand_out_earlier-requires-clause-stored_room g c = c.hand_out_tallies.ensures.room 1 (λ i list at. let room = c.in-Ok.ensures.stored.2 i list at in omega (arith, room, c.len-2.ensures))

pub gather_all-requires-clause-recovered : goal.gather_all-requires-clause-recovered
gather_all-requires-clause-recovered g c i below =
    let here : i < g.N.NodeName.settings.shards = omega (arith, below, c.note-reports.result.ok.0, c.note-reports.ensures.all) in
    let noted = c.note-reports.ensures.noted i here in
    let told = c.hand_out_earlier.ensures.pushing_sum i in
    omega (arith, noted, told)

pub gather_all-requires-clause-complete : goal.gather_all-requires-clause-complete
gather_all-requires-clause-complete g c i held at =
    let helds = c.into_shards-helds.result in
    let below : i < g.N.NodeName.settings.shards = omega (arith, get_below helds.items i held at, helds.ok.0, c.into_shards-helds.ensures, c.args.self.all) in
    let pushers : length c.deref-2.result.now ≡ vec_len c.args.pushers = ap length c.deref-2.ensures.value ∙ sym c.args.pushers.ok.0 in
    let told : length c.deref-2.result.now + 1 ≡ length (shares_at i c.hand_out_earlier.new.pushing.items) =
    omega (arith, pushers, c.hand_out_pushers.ensures.count i below, c.hand_out_earlier.ensures.pushing_count i below) in
    let counted : c.len-2.result + 1 ≡ length (shares_at i c.hand_out_earlier.new.stored.items) =
    omega (arith, c.len-2.ensures, c.hand_out_tallies.ensures.count i below, c.hand_out_earlier.ensures.stored_count i below) in
    complete_as i i (length c.deref-2.result.now + 1) (c.len-2.result + 1) (length (shares_at i c.hand_out_earlier.new.pushing.items)) (length (shares_at i c.hand_out_earlier.new.stored.items)) held.shard.memory refl
    told counted (c.in_default-is_closable.ensures.complete i held (ap (λ l. slice_get l i) c.deref.ensures.value ∙ at))

pub returns-clause-all : goal.returns-clause-all
returns-clause-all g c =
    let helds = c.into_shards-helds.result in
    let made = ap length c.gather_all.ensures.shards ∙ length-map helds.items (λ held. closed_of held.shard.memory) in (
      omega (arith, c.gather_all.ensures.all, c.note-reports.ensures.all),
      omega (arith, made, c.gather_all.result.shards.ok.0, helds.ok.0, c.into_shards-helds.ensures, c.args.self.all),
    )

pub returns-clause-closed : goal.returns-clause-closed
returns-clause-closed g c i report at =
    let reports = c.gather_all.result.report.shards in
    let here : i < g.N.NodeName.settings.shards = omega (arith, get_below reports.items i report at, reports.ok.0, c.gather_all.ensures.all, c.note-reports.ensures.all) in
    closed_by (amount_at i g.N.NodeName.earlier.told) (amount_at i g.N.NodeName.earlier.stored) (sum_by (λ p. amount_at i p.told) c.args.pushers.items) (sum_by (amount_at i) c.args.tallies.items)
    (amount_of (shares_at i c.hand_out_earlier.new.pushing.items)) (amount_of (shares_at i c.hand_out_earlier.new.stored.items)) report
    (c.hand_out_earlier.ensures.pushing_sum i ∙ ap (λ n. n + amount_at i g.N.NodeName.earlier.told) (c.hand_out_pushers.ensures.sum i))
    (c.hand_out_earlier.ensures.stored_sum i ∙ ap (λ n. n + amount_at i g.N.NodeName.earlier.stored) (c.hand_out_tallies.ensures.sum i))
    (gathered_as _ _ _ _ _ _ report (c.note-reports.ensures.noted i here) refl refl (c.gather_all.ensures.closed i report at))

pub returns-clause-placed : goal.returns-clause-placed
returns-clause-placed g c =
    let helds = c.into_shards-helds.result in
    closed_placed (λ held. held.shard.memory) helds.items c.gather_all.result.shards.items c.gather_all.ensures.shards g.N.NodeName.settings
    (λ held. held.judges)
    (λ i held at. (c.in_default-is_closable.ensures.complete i held (ap (λ l. slice_get l i) c.deref.ensures.value ∙ at)).number)

pub returns-clause-rows : goal.returns-clause-rows
returns-clause-rows g c =
    closed_counted (λ held. held.shard.memory) c.into_shards-helds.result.items c.gather_all.result.shards.items c.gather_all.ensures.shards
    c.gather_all.result.report.shards.items c.gather_all.ensures.rows

pub returns-clause-settled : goal.returns-clause-settled
returns-clause-settled g c honest diaries keep =
    let shards = g.N.NodeName.settings.shards in
    let had = had_at g.N.NodeName.earlier in
    let noted = c.in_default-is_closable.ensures.settled honest diaries (subst (All KeepsDiary) (sym c.deref-2.ensures.value) keep) in
    closed_as (λ held. held.shard.memory) c.into_shards-helds.result.items c.gather_all.result.shards.items c.gather_all.ensures.shards
    (λ i rows. AreNoted (rows_since (had i) rows) (notes_at shards i c.args.pushers.items))
    (λ i held at. subst (λ (ps : List PusherState). AreNoted (rows_since (had i) held.shard.memory.state.rows) (notes_at shards i ps)) c.deref-2.ensures.value
    (noted i held (ap (λ l. slice_get l i) c.deref.ensures.value ∙ at)))

pub returns-clause-places : goal.returns-clause-places
returns-clause-places g c diaries keep =
    let shards = g.N.NodeName.settings.shards in
    let had = had_at g.N.NodeName.earlier in
    let noted = c.in_default-is_closable.ensures.places diaries (subst (All KeepsDiary) (sym c.deref-2.ensures.value) keep) in
    closed_as (λ held. held.shard.memory) c.into_shards-helds.result.items c.gather_all.result.shards.items c.gather_all.ensures.shards
    (λ i rows. HaveNotedPlaces (rows_since (had i) rows) (notes_at shards i c.args.pushers.items))
    (λ i held at. subst (λ (ps : List PusherState). HaveNotedPlaces (rows_since (had i) held.shard.memory.state.rows) (notes_at shards i ps)) c.deref-2.ensures.value
    (noted i held (ap (λ l. slice_get l i) c.deref.ensures.value ∙ at)))
