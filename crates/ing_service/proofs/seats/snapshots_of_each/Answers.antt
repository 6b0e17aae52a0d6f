use Rattle.std.proofs.Common.{◌++◌, ◌∷◌, [], filter, map, subst, sym, take}
use Rattle.ing_durable.specs.Contents.{Contents}
use Rattle.ing_query.specs.Questions.{question_view}
use Rattle.ing_query.specs.Parts.{HasRows}
use Rattle.ing_rows.specs.Rows.{IsSame, Row}
use Rattle.ing_service.specs.Held.{shard_held}
use Rattle.ing_service.specs.Snapshots.{AreAsked, IsAsked}
use Rattle.ing_service.proofs.AskLaws.{one_asked}
use Rattle.ing_service.proofs.EachLaws.{first_more}
use Rattle.ing_service.proofs.FlushLaws.{same_refl}
use Rattle.ing_service.proofs.seats.snapshots_of_each.Goals as goal

-- a snapshot more
pub loop-seat-preserved : goal.loop-seat-preserved
loop-seat-preserved g c =
    let tenant = c.args.tenant.now in
    let ms = c.args.selector.now in
    let q = question_view c.args.question in
    let i = c.loop-seat.seat-index in
    let seat = c.seat-item.result in
    let state = seat.shard.memory.state in
    let held = take i (map (λ seat. shard_held seat.shard) c.args.seats.now) in
    let said = c.in_ok-snapshot.ensures in
    let stands = subst (λ (m : Contents). IsSame m.state state) (sym c.memory-memory.ensures) (same_refl state) in
    let asked : IsAsked tenant ms q c.in_ok-snapshot.field-0 (shard_held seat.shard) = record { front = said.front state stands; range = said.range; order = said.best.0; limit = said.best.1; rows = λ picked picks. subst (λ (m : Contents). HasRows (filter (λ (r : Row). picked r.stream) m.state.rows) c.in_ok-snapshot.field-0) c.memory-memory.ensures (said.rows picked picks) } in
    subst (AreAsked tenant ms q c.push.new.self.items) (sym (first_more (λ seat. shard_held seat.shard) c.args.seats.now i seat seat c.loop-seat-test.true c.seat-item.is))
    (subst (λ l. AreAsked tenant ms q l (held ++ shard_held seat.shard ∷ [])) (sym c.in_ok-push.ensures.items)
    (one_asked tenant ms q c.loop-seat.snapshots.items held _ (shard_held seat.shard) c.loop-seat.invariant asked))
