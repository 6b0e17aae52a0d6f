use Rattle.std.proofs.Common.{◌≡◌, ◌++◌, map}
use Rattle.std.specs.Prelude.{string_bytes}
use Rattle.ing_shard.proofs.catalog.Texts.into_vec.Given as goal

-- the texts so far, and those that are left, are all of them
abbrev pub invariant-loop-text : goal.invariant-loop-text
invariant-loop-text l = map string_bytes (l.list.items ++ l.text-iterator) ≡ l.fn.self
