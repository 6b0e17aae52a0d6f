use Rattle.std.proofs.Common.{◌≡◌, ◌+◌, ◌≤◌, ◌++◌, length, map}
use Rattle.std.specs.Prelude.{vec_len, vec_capacity}
use Rattle.std.specs.Vec.Iter.{into_iter_items}
use Rattle.ing_sealed.specs.declared.sealed_chunks.Held.TheVariants.{Waiting}
use Rattle.ing_sealed.proofs.sealed_chunks.put_all.Given as goal

-- with those that are left they are all, and there is room for them
abbrev pub invariant-loop-chunk : goal.invariant-loop-chunk
invariant-loop-chunk g l =
    (l.slots.items ++ map Waiting (into_iter_items l.chunk-iterator) ≡ l.initial.slots.items ++ map Waiting l.fn.chunks.items)
    × (vec_len l.slots + length (into_iter_items l.chunk-iterator) ≤ vec_capacity l.slots)
