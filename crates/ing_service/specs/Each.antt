-- Shards that go on side by side, each from what it held to what it holds.
use Rattle.std.specs.Prelude.{◌≡◌, ⊤, ℕ, List, [], ◌∷◌, set, Some, slice_get}
use Rattle.ing_service.specs.Held.{ShardHeld}

-- Each shard goes on so with the value at its place; there are as many values as shards.
abbrev pub Each : {X : Type 0} → (X → ShardHeld → ShardHeld → Type 0) → List X → List ShardHeld → List ShardHeld → Type 0
Each GoesOn [] [] [] = ⊤
Each GoesOn (x ∷ xs) (old ∷ olds) (new ∷ news) = GoesOn x old new × Each GoesOn xs olds news
Each GoesOn [] [] (new ∷ news) = ⊥
Each GoesOn [] (old ∷ olds) news = ⊥
Each GoesOn (x ∷ xs) [] news = ⊥
Each GoesOn (x ∷ xs) (old ∷ olds) [] = ⊥

-- The shard at this place goes on so, and each other stays as it was.
pub record GoesAt (GoesOn : ShardHeld → ShardHeld → Type 0) (place : ℕ) (olds news : List ShardHeld) : Type 0 where
  pub old : ShardHeld
  pub new : ShardHeld
  pub there : slice_get olds place ≡ Some old
  pub goes_on : GoesOn old new
  pub left : news ≡ set olds place new
