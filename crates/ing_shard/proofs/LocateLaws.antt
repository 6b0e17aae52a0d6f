-- A stream of a name stands in one place at most, so a chunk that is in flight is found there.
use Rattle.std.proofs.Common.{◌≡◌, ℕ, zero, suc, List, [], ◌∷◌, ◌++◌, length, map, Some, None, refl, ap, sym, ◌∙◌, arith, slice_get}
use Rattle.std.proofs.lemmas.Bool.{true≢false}
use Rattle.std.proofs.lemmas.List.Elements.{All-head, All-tail}
use Rattle.std.proofs.lemmas.Option.{same_Some, slice_get-map}
use Rattle.std.specs.Option.{option_map}
use Rattle.ing_rows.specs.declared.place.Place.TheVariants.{Flight}
use Rattle.ing_rows.specs.Rows.{StreamKey, same_stream}
use Rattle.ing_checkpoint.specs.Slots.{slot_at}
use Rattle.ing_shard.specs.OneStream.{Stream}
use Rattle.ing_shard.specs.Flights.{Flown, IsAt, key_in}
use Rattle.ing_shard.specs.Streams.{AreDistinct, FliesAmong, key_of, position_of, slots_of}
use Rattle.ing_shard.proofs.CountLaws.{same_self}
use Rattle.ing_shard.proofs.PositionLaws.{none_others, position_splits}
use Rattle.ing_shard.proofs.WholeLaws.{AreOthers, IsOther}

not_other : (s : StreamKey) (st : Stream) → IsOther s st → Some (key_of st) ≡ Some s → ⊥
not_other s st other is =
    true≢false (sym (same_self s) ∙ ap (λ k. same_stream k s) (sym (same_Some (key_of st) s is)) ∙ other)

-- a stream of another name than all of them stands in no place
absent : (s : StreamKey) (sts : List Stream) → AreOthers s sts → (n : ℕ) → slice_get (map key_of sts) n ≡ Some s → ⊥
absent s [] others n is = absurd (cc)
absent s (st ∷ sts) others zero is = not_other s st (All-head (IsOther s) st sts others) is
absent s (st ∷ sts) others (suc n) is = absent s sts (All-tail (IsOther s) st sts others) n is

only_there : (s : StreamKey) (front : List Stream) (st : Stream) (back : List Stream) → AreOthers s (front ++ back) → (n : ℕ)
    → slice_get (map key_of (front ++ st ∷ back)) n ≡ Some s → n ≡ length front
only_there s [] st back others zero is = refl
only_there s [] st back others (suc n) is = absurd (absent s back others n is)
only_there s (g ∷ front) st back others zero is = absurd (not_other s g (All-head (IsOther s) g (front ++ back) others) is)
only_there s (g ∷ front) st back others (suc n) is =
    let rest = only_there s front st back (All-tail (IsOther s) g (front ++ back) others) n is in
    omega (arith, rest)

-- a claimed chunk of a stream that is not listed is not in flight
pub flies_nowhere : (f : Flown) (sts : List Stream) → position_of (key_in f) sts ≡ None → FliesAmong f sts → ⊥
flies_nowhere f sts none flies = absent (key_in f) sts (none_others (key_in f) sts none) flies.0 flies.2.stream

-- one of a listed stream is in flight there
pub flies_there : (f : Flown) (sts : List Stream) (i : ℕ) → AreDistinct sts → position_of (key_in f) sts ≡ Some i → (flies : FliesAmong f sts) → flies.0 ≡ i
flies_there f sts i distinct listed flies =
    let split = position_splits (key_in f) sts i distinct listed in
    only_there (key_in f) split.front split.st split.back split.others flies.0 (ap (λ l. slice_get (map key_of l) flies.0) (sym split.is) ∙ flies.2.stream)
    ∙ split.at

module _ (f : Flown) (sts : List Stream) (i : ℕ) (st : Stream) (read : slice_get sts i ≡ Some st) where
  slots_here : slice_get (map slots_of sts) i ≡ Some st.chunks.sealed
  slots_here = slice_get-map slots_of sts i ∙ ap (option_map slots_of) read

  -- the place of a chunk that is found in a stream
  pub is_at : (index : ℕ) → key_of st ≡ key_in f → slice_get st.chunks.sealed index ≡ Some (slot_at (Flight f.flight) f.chunk) → IsAt f i index (map key_of sts) (map slots_of sts)
  is_at index key stands = record {
    stream = slice_get-map key_of sts i ∙ ap (option_map key_of) read ∙ ap Some key;
    slots = st.chunks.sealed;
    listed = slots_here;
    stands = stands;
  }

  -- and the stream has a chunk that is in flight at this place
  pub stands_in : (index : ℕ) → IsAt f i index (map key_of sts) (map slots_of sts) → slice_get st.chunks.sealed index ≡ Some (slot_at (Flight f.flight) f.chunk)
  stands_in index at = ap (λ xs. slice_get xs index) (same_Some st.chunks.sealed at.slots (sym slots_here ∙ at.listed)) ∙ at.stands
