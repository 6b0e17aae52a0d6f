use Rattle.std.proofs.Common.{◌≡◌, ◌∙◌, ◌+◌, ◌++◌, ◌∷◌, [], ap, arith, map, replicate, sym}
use Rattle.std.proofs.lemmas.List.{map-append, replicate_more}
use Rattle.ing_durable.specs.Kept.{whose}
use Rattle.ing_service.specs.Held.{new_shard, shard_held, whose_from}
use Rattle.ing_service.proofs.WhoseLaws.{whose_more}
use Rattle.ing_service.proofs.runs.new_seats.Goals as goal

-- a shard more
pub loop-number-preserved : goal.loop-number-preserved
loop-number-preserved g c =
    let settings = c.args.settings.now in
    let n = c.loop-number.number in
    let before = c.loop-number.seats.items in
    let seat = c.in-Ok.seat in
    let so_far = c.loop-number.invariant in
    let first : n ≡ 0 + n = omega arith in
    record {
      shards = ap (map (λ seat. whose seat.shard.memory)) c.push_reserved.ensures.items ∙ map-append (λ seat. whose seat.shard.memory) before (seat ∷ [])
          ∙ ap (λ l. l ++ whose seat.shard.memory ∷ []) so_far.shards ∙ ap (λ w. whose_from settings 0 n ++ w ∷ []) c.in-Ok.ensures.same ∙ (λ k. whose_from settings 0 n ++ record { settings = settings; number = first k } ∷ []) ∙ sym (whose_more settings 0 n);
      held = ap (map (λ seat. shard_held seat.shard)) c.push_reserved.ensures.items ∙ map-append (λ seat. shard_held seat.shard) before (seat ∷ [])
          ∙ ap (λ l. l ++ shard_held seat.shard ∷ []) so_far.held ∙ ap (λ h. replicate n new_shard ++ h ∷ []) c.in-Ok.ensures.held ∙ replicate_more n new_shard;
      count = c.push_reserved.ensures.len ∙ ap (λ k. k + 1) so_far.count;
      room = omega (arith, so_far.room, c.push_reserved.ensures.capacity);
    }
