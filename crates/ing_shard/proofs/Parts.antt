-- The rows and marks of a stream's chunks are that stream's.
use Rattle.std.proofs.Common.{◌≡◌, ℕ, List, [], ◌∷◌, false, All}
use Rattle.std.proofs.lemmas.List.Elements.{All-append, All-cons, All-nil}
use Rattle.ing_rows.specs.declared.place.Place.{Place}
use Rattle.ing_rows.specs.declared.place.Place.TheVariants.{Head, Block}
use Rattle.ing_rows.specs.Rows.{StreamKey, Row, Mark, is_stored}
use Rattle.ing_chunk.specs.declared.numbered.Numbered.{Numbered}
use Rattle.ing_chunk.specs.Chunks.{ChunkContents, row_in, mark_of, stream_state}
use Rattle.ing_checkpoint.specs.Slots.{Slot, slots_state}
use Rattle.ing_checkpoint.specs.Contents.{StreamContents, whole_state}
use Rattle.ing_checkpoint.proofs.StreamRows.{memory_all, memory_marked, slots_all, slots_marked}

pub all_of_all : {X : Type 0} (P : X → Type 0) → ((x : X) → P x) → (xs : List X) → All P xs
all_of_all P h [] = All-nil P
all_of_all P h (x ∷ xs) = All-cons P x xs (h x) (all_of_all P h xs)

-- what holds of each row of the stream, wherever it stands, holds of all
pub all_rows : (s : StreamKey) (Q : Row → Type 0) → ((first block : ℕ) (place : Place) (e : Numbered) → Q (row_in s first block place e)) → (c : StreamContents) → All Q (whole_state s c).rows
all_rows s Q any c =
    All-append Q (stream_state s c.memory).rows (slots_state s c.sealed).rows
    (memory_all s Q c.memory (λ k. (λ b e. any k.first b Head e, λ b e. any k.first b Block e)))
    (slots_all s Q c.sealed (all_of_all (λ (x : Slot). (block : ℕ) (e : Numbered) → Q (row_in s x.first block x.place e)) (λ x b e. any x.first b x.place e) c.sealed))

-- what holds of each mark of the stream holds of all
pub all_marks : (s : StreamKey) (Q : Mark → Type 0) → ((c : ChunkContents) → Q (mark_of s c)) → (c : StreamContents) → All Q (whole_state s c).marks
all_marks s Q each c =
    All-append Q (stream_state s c.memory).marks (slots_state s c.sealed).marks
    (memory_marked s Q c.memory each)
    (slots_marked s Q c.sealed (all_of_all (λ (x : Slot). is_stored x.place ≡ false → Q (record { stream = s; chunk = x.first; last_update = x.last_update; reason = x.reason }))
    (λ x unstored. each (record { first = x.first; blocks = []; head = []; last_update = x.last_update; reason = x.reason })) c.sealed))
