-- What is said of claims, finishes and gives back: they go chunk by chunk, whatever the order of rows and marks.
-- What names no section of the Loki documentation is own.
use Rattle.std.specs.Prelude.{◌≡◌, ◌⊎◌, ℕ, ◌≤◌, false, List, All, length}
use Rattle.ing_rows.specs.Rows.{StreamKey, Row, State, IsSame, is_flight, is_of_chunk, has_stream, live_streams}
use Rattle.ing_rows.specs.Facts.{Facts, facts_of}
use Rattle.ing_rows.specs.Sound.{IsSound}
use Rattle.ing_rows.specs.Steps.{is_mark_of, IsClaimable, Claims, ClaimsNone, Finishes, GivesBack}
use Rattle.ing_rows.specs.Turns.{beside, IsMarked}

-- no row is of the chunk
abbrev pub NoneOfChunk : StreamKey → ℕ → State → Type 0
NoneOfChunk s chunk st = All (λ r. is_of_chunk s chunk r ≡ false) st.rows

-- no row is in the flight
abbrev pub NoneFlies : ℕ → State → Type 0
NoneFlies f st = All (λ r. is_flight f r.place ≡ false) st.rows

-- no chunk of the stream that can be claimed is older
abbrev pub NoneOlder : StreamKey → ℕ → State → Type 0
NoneOlder s chunk st = (other : ℕ) → IsClaimable st s other → chunk ≤ other

-- the chunk has no mark
abbrev pub NoneMarks : StreamKey → ℕ → State → Type 0
NoneMarks s chunk st = All (λ m. is_mark_of s chunk m ≡ false) st.marks

-- the facts of a stream, but for which streams are live, which these rows give
abbrev pub facts_live : List Row → StreamKey → Facts → Facts
facts_live rows t facts =
    let live = live_streams rows t.tenant in
    record facts { is_live = has_stream t live; live = length live }

-- What is done in one part of a state is done in the whole, where the rest has no row of the chunk or of the flight, and no
-- older chunk to claim; the part may stand in front or behind.
pub record FlushesAreApart : Type 0 where
  pub claims : (s : StreamKey) (chunk f : ℕ) (a b others : State) → Claims s chunk f a b
      → NoneOfChunk s chunk others → NoneFlies f others → NoneOlder s chunk others
      → Claims s chunk f (beside a others) (beside b others) × Claims s chunk f (beside others a) (beside others b)
  pub parts : (s : StreamKey) (a b : State) (chunk : ℕ) → IsClaimable (beside a b) s chunk
      → IsClaimable a s chunk ⊎ IsClaimable b s chunk
  pub none : (s : StreamKey) (a b others : State) → ClaimsNone s a b
      → ((other : ℕ) → IsClaimable others s other → ⊥)
      → ClaimsNone s (beside a others) (beside b others) × ClaimsNone s (beside others a) (beside others b)
  pub finishes : (s : StreamKey) (chunk f : ℕ) (key : List ℕ) (a b others : State) → Finishes s chunk f key a b
      → NoneOfChunk s chunk others → NoneFlies f others → NoneMarks s chunk others
      → Finishes s chunk f key (beside a others) (beside b others)
      × Finishes s chunk f key (beside others a) (beside others b)
  pub backs : (f : ℕ) (a b others : State) → GivesBack f a b → NoneFlies f others
      → GivesBack f (beside a others) (beside b others) × GivesBack f (beside others a) (beside others b)

-- states that are the same but for the order of their rows and marks are flushed alike
pub record FlushesHaveNoOrder : Type 0 where
  pub claims : (s : StreamKey) (chunk f : ℕ) (a b c d : State) → IsSame a c → IsSame b d
      → Claims s chunk f a b → Claims s chunk f c d
  pub none : (s : StreamKey) (a b c d : State) → IsSame a c → IsSame b d → ClaimsNone s a b → ClaimsNone s c d
  pub finishes : (s : StreamKey) (chunk f : ℕ) (key : List ℕ) (a b c d : State) → IsSame a c → IsSame b d
      → Finishes s chunk f key a b → Finishes s chunk f key c d
  pub backs : (f : ℕ) (a b c d : State) → IsSame a c → IsSame b d → GivesBack f a b → GivesBack f c d

-- what is known of a state and of each stream goes on
pub record KeepsFacts (a b : State) : Type 0 where
  pub marked : IsMarked a → IsMarked b
  pub sound : IsSound a → IsSound b
  pub facts : (t : StreamKey) → IsSound a → facts_of b.rows t ≡ facts_of a.rows t

-- but for which streams are live
pub record KeepsEntries (a b : State) : Type 0 where
  pub marked : IsMarked a → IsMarked b
  pub sound : IsSound a → IsSound b
  pub facts : (t : StreamKey) → IsSound a → facts_of b.rows t ≡ facts_live b.rows t (facts_of a.rows t)

pub record FlushesKeepFacts : Type 0 where
  pub claims : (s : StreamKey) (chunk f : ℕ) (a b : State) → Claims s chunk f a b → KeepsFacts a b
  pub backs : (f : ℕ) (a b : State) → GivesBack f a b → KeepsFacts a b
  pub finishes : (s : StreamKey) (chunk f : ℕ) (key : List ℕ) (a b : State)
      → Finishes s chunk f key a b → KeepsEntries a b
