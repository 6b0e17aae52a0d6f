-- What a query finds of sealed chunks is what it finds of their rows.
use Rattle.std.proofs.Common.{◌≡◌, refl, ℕ, List, [], ◌∷◌, ◌++◌, map, ap, sym, ◌∙◌, append-nil, append_assoc}
use Rattle.std.proofs.lemmas.List.{map-append}
use Rattle.ing_rows.specs.declared.place.Place.{Place}
use Rattle.ing_rows.specs.Rows.{StreamKey, Row}
use Rattle.ing_chunk.specs.Chunks.{block_rows}
use Rattle.ing_parts.specs.Parts.{RowsAreFound, found_at}
use Rattle.ing_sealed.specs.Slots.{Slot, at_place, slot_rows, slots_state, found_at_slot, found_at_slots}

placed : (place : Place) (rs : List Row) → map found_at (map (at_place place) rs) ≡ map found_at rs
placed place [] = refl
placed place (r ∷ rs) = ap (λ l. found_at r ∷ l) (placed place rs)

module _ (found : RowsAreFound) where
  pub slots_found : (s : StreamKey) (xs : List Slot) → map found_at (slots_state s xs).rows ≡ found_at_slots s.name xs
  slots_found s [] = refl
  slots_found s (x ∷ xs) =
      map-append found_at (slot_rows s x) (slots_state s xs).rows
      ∙ ap (λ l. l ++ map found_at (slots_state s xs).rows) (placed x.place (block_rows s x.first 0 x.blocks) ∙ found.blocks s x.first 0 x.blocks)
      ∙ ap (λ l. found_at_slot s.name x ++ l) (slots_found s xs)

pub slots_more : (name : List ℕ) (xs : List Slot) (x : Slot) → found_at_slots name (xs ++ x ∷ []) ≡ found_at_slots name xs ++ found_at_slot name x
slots_more name [] x = append-nil (found_at_slot name x)
slots_more name (y ∷ xs) x = ap (λ l. found_at_slot name y ++ l) (slots_more name xs x) ∙ sym (append_assoc (found_at_slot name y) (found_at_slots name xs) (found_at_slot name x))
