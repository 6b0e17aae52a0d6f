use Rattle.std.proofs.Common.{◌≡◌, ◌≤◌, All, vec_len, vec_capacity}
use Rattle.ing_places.specs.Slots.{IsOwn}
use Rattle.ing_places.proofs.places.Places.new.Given as goal

abbrev pub invariant-loop : goal.invariant-loop
invariant-loop l = (vec_len l.slots ≡ l.counter) × (l.count ≤ vec_capacity l.slots)
    × All (IsOwn l.shards) l.slots.items
