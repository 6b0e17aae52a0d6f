-- Kinds of numbers of 32 bits.
use Rattle.std.specs.Prelude.{◌<◌, Option, Some}
use Rattle.ing_limits.specs.declared.keys.Kind.{Kind}
use Rattle.ing_limits.specs.declared.keys.Kind.TheVariants.{Whole}

-- whole numbers below 2^32
abbrev pub IsSmall : Option Kind → Type 0
IsSmall (Some (Whole most)) = most < 4294967296
IsSmall _ = ⊥
