-- What a writer holds, where it may have failed on the way.
use Rattle.std.specs.Prelude.{◌≡◌, ℕ, List, ◌++◌, Option}
use Rattle.std.specs.Io.KnownBytes.{Appends}

-- known bytes grow by a front of a text, which may be nothing and may be all of it
pub record AppendsFront (old new : Option (List ℕ)) (text : List ℕ) : Type 0 where
  pub front : List ℕ
  pub rest : List ℕ
  pub whole : front ++ rest ≡ text
  pub added : Appends old new front

-- known bytes stay, and others may stand behind them
pub record Grows (old new : Option (List ℕ)) : Type 0 where
  pub more : List ℕ
  pub added : Appends old new more
