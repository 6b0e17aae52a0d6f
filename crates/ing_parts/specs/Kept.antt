-- What is kept of entries, and when it is enough (own).
use Rattle.std.specs.Prelude.{◌≡◌, ℕ, ◌+◌, ◌*◌, ◌<◌, ◌≤◌, ◌≢◌, Bool, false, List, get_or, length, sum_by, if◌then◌else◌}
use Rattle.ing_parts.specs.declared.found.Found.{Found}
use Rattle.ing_rows.specs.declared.order.Order.{Order}
use Rattle.ing_parts.specs.Answers.{precedes}

-- how many of these an answer may have ahead of this one: it stands before none of them
abbrev pub ahead : {X : Type 0} → (X → X → Bool) → X → List X → ℕ
ahead before f gs = sum_by (λ g. if before f g then 0 else 1) gs

-- Right below the index p are the indices from 2 p + 1 to 2 p + 2.

-- none goes before one right below it
abbrev pub IsHeap : {X : Type 0} → (X → X → Bool) → List X → Type 0
IsHeap {X} before l = (p k : ℕ) (d : X) → p * 2 + 1 ≤ k → k ≤ p * 2 + 2 → k < length l → before (get_or l p d) (get_or l k d) ≡ false

-- the same were the one at an index taken out: of all others, and of that right above it and those right below it
abbrev pub IsHeapBut : {X : Type 0} → (X → X → Bool) → ℕ → List X → Type 0
IsHeapBut {X} before at l =
    ((p k : ℕ) (d : X) → p * 2 + 1 ≤ k → k ≤ p * 2 + 2 → k < length l → p ≢ at → k ≢ at → before (get_or l p d) (get_or l k d) ≡ false)
    × ((p k : ℕ) (d : X) → p * 2 + 1 ≤ at → at ≤ p * 2 + 2 → at * 2 + 1 ≤ k → k ≤ at * 2 + 2 → k < length l → before (get_or l p d) (get_or l k d) ≡ false)

-- the one at an index goes before none of those right below another index
abbrev pub IsLastBelow : {X : Type 0} → (X → X → Bool) → ℕ → ℕ → List X → Type 0
IsLastBelow {X} before at last l = (k : ℕ) (d : X) → at * 2 + 1 ≤ k → k ≤ at * 2 + 2 → k < length l → before (get_or l last d) (get_or l k d) ≡ false

-- a heap of as many as an answer may have at most, the last of them on top
pub record IsKept (order : Order) (limit : ℕ) (held : List Found) : Type 0 where
  pub few : length held ≤ limit
  pub heap : IsHeap (precedes order) held
