use Rattle.std.proofs.Common.{◌≡◌, arith}
use Rattle.ing_node.proofs.ClosingLaws.{get_below, misplaced_tells, next_missing, next_too}
use Rattle.ing_node.specs.Closing.{IsComplete}
use Rattle.ing_node.proofs.closing.are_complete.Goals as goal

pub loop-place-preserved : goal.loop-place-preserved
loop-place-preserved g c = record {
  complete = λ accepted flight stored i held below at.
      let m = c.in_ok-missing.ensures in
      let found = c.in_ok-missing.missing in
      let none_a : c.loop-place.all.accepted ≡ 0 = omega (arith, accepted, c.saturating_add.ensures) in
      let none_f : c.loop-place.all.flight ≡ 0 = omega (arith, flight, c.saturating_add-in-loop-place.ensures) in
      let none_s : c.loop-place.all.stored ≡ 0 = omega (arith, stored, c.saturating_add-in-loop-place-2.ensures) in
      let no_a : found.accepted ≡ 0 = omega (arith, accepted, c.saturating_add.ensures) in
      let no_f : found.flight ≡ 0 = omega (arith, flight, c.saturating_add-in-loop-place.ensures) in
      let no_s : found.stored ≡ 0 = omega (arith, stored, c.saturating_add-in-loop-place-2.ensures) in
      let is_a = m.accepted in
      let is_f = m.flight in
      let is_s = m.stored in
      next_too (λ n h. IsComplete n c.args.pushers c.args.tallies h.shard.memory) c.args.helds.now c.loop-place.place c.index-helds-place.result c.loop-place-test.true c.index-helds-place.is
      (record { number = m.number; accepted = omega (arith, no_a, is_a); flight = omega (arith, no_f, is_f); stored = omega (arith, no_s, is_s) })
      (c.loop-place.invariant.complete none_a none_f none_s) i held below at;
  missing =
      let m = c.in_ok-missing.ensures in
      let before = c.loop-place.invariant.missing in
      record {
        accepted_are = next_missing _ c.args.helds.now c.loop-place.place c.index-helds-place.result _ _ _ c.loop-place-test.true c.index-helds-place.is m.accepted before.accepted_are c.saturating_add.ensures;
        flight_are = next_missing _ c.args.helds.now c.loop-place.place c.index-helds-place.result _ _ _ c.loop-place-test.true c.index-helds-place.is m.flight before.flight_are c.saturating_add-in-loop-place.ensures;
        stored_are = next_missing _ c.args.helds.now c.loop-place.place c.index-helds-place.result _ _ _ c.loop-place-test.true c.index-helds-place.is m.stored before.stored_are c.saturating_add-in-loop-place-2.ensures;
      };
}

-- the shard that is looked at stands at another place than its own
pub returns-in_err-missing-clause-told : goal.returns-in_err-missing-clause-told
returns-in_err-missing-clause-told g c =
    misplaced_tells (λ held. held.shard.memory) c.args.pushers c.args.tallies c.args.helds.now c.loop-place.place c.index-helds-place.result c.in_err-missing.field-0.0
    c.from_residual.result c.loop-place-test.true c.index-helds-place.is c.in_err-missing.ensures.other c.in_err-missing.ensures.fault c.from_residual.ensures.1

pub returns-clause-complete : goal.returns-clause-complete
returns-clause-complete g c i held at =
    let none_a : c.loop-place.all.accepted ≡ 0 = omega (arith, c.if-all-gt0.false) in
    let none_f : c.loop-place.all.flight ≡ 0 = omega (arith, c.if-all-gt0-2.false) in
    let none_s : c.loop-place.all.stored ≡ 0 = omega (arith, c.if-all-gt0-3.false) in
    let there = get_below c.args.helds.now i held at in
    c.loop-place.invariant.complete none_a none_f none_s i held (omega (arith, there, c.loop-place-test.false)) at
