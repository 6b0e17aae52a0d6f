-- A field that is read is the field that was written, and what was written is read again.
use Rattle.std.proofs.Common.{◌≡◌, ℕ, suc, ◌+◌, ◌^◌, ◌<◌, ◌≤◌, false, ltb, List, [], ◌∷◌, ◌++◌, length, get_or, take, drop, Result, Ok, refl, sym, ap, subst, ◌∙◌, append_assoc, arith, inl, inr}
use Rattle.std.specs.Int.{Width, w32, w64, byte_len, from_be_bytes, to_be_bytes}
use Rattle.std.proofs.lemmas.Bool.{cases_lt, ltb-false, le-ltb}
use Rattle.std.proofs.lemmas.List.{take_at, drop_at, take-append-drop, length-append, length-take, get_or-drop, get_or-take, get_or_past}
use Rattle.std.proofs.lemmas.Nat.{be_bytes_4, be_bytes_8, from_be_bytes-to_be_bytes_4, from_be_bytes-to_be_bytes_8}
use Rattle.ing_codec.specs.declared.fault.CodecFault.{CodecFault}
use Rattle.ing_codec.specs.declared.fault.CodecFault.TheVariants.{Truncated}
use Rattle.ing_codec.specs.Fields.{Rest, skip, read_bytes, read_number, first_byte, read_byte}
use Rattle.ing_codec.proofs.Binds.{not_stopped, ok_is}

abbrev pub IsBytes : List ℕ → Type 0
IsBytes bytes = (i : ℕ) → get_or bytes i 0 < 256

IsBytes-drop : (n : ℕ) (bytes : List ℕ) → IsBytes bytes → IsBytes (drop n bytes)
IsBytes-drop n bytes h i = rw get_or-drop (h (n + i))

IsBytes-take : (n : ℕ) (bytes : List ℕ) → IsBytes bytes → IsBytes (take n bytes)
IsBytes-take n bytes h i =
    elim (cases_lt i n) [
      | inl lt ↦ rw (get_or-take n bytes i 0 lt) (h i)
      | inr le ↦ rw (get_or_past (take n bytes) i 0 (omega (arith, length-take n bytes))) (omega arith)
    ]

-- what was taken from the front, and what is left
pub record Takes (r : Rest) (text : List ℕ) (after : Rest) : Type 0 where
  pub parts : r.bytes ≡ text ++ after.bytes
  pub fits : IsBytes after.bytes

pub then_takes : (a : Rest) (x : List ℕ) (b : Rest) (y : List ℕ) (c : Rest) → Takes a x b → Takes b y c → Takes a (x ++ y) c
then_takes a x b y c p q = record { parts = p.parts ∙ ap (λ (t : List ℕ). x ++ t) q.parts ∙ sym (append_assoc x y c.bytes); fits = q.fits }

abbrev pub rest : ℕ → List ℕ → Rest
rest at bytes = record { at = at; bytes = bytes }

-- what was written, with anything after it, is read again
abbrev pub Again : {A : Type 0} → (Rest → Result (A × Rest) CodecFault) → List ℕ → A → Type 0
Again read text x = (at : ℕ) (more : List ℕ) → (after : ℕ) × (read (rest at (text ++ more)) ≡ Ok (x, rest after more))

-- ---- bytes and numbers

pub bytes_take : (n : ℕ) (r : Rest) (x : List ℕ × Rest) → IsBytes r.bytes → read_bytes n r ≡ Ok x → Takes r x.0 x.1 × (length x.0 ≡ n) × IsBytes x.0
bytes_take n r x fits e =
    let g = not_stopped (ltb (length r.bytes) n) Truncated (Ok (take n r.bytes, skip n r)) x e in
    let long : n ≤ length r.bytes = ltb-false _ _ g.0 in
    subst (λ (y : List ℕ × Rest). Takes r y.0 y.1 × (length y.0 ≡ n) × IsBytes y.0) (ok_is (take n r.bytes, skip n r) x g.1) (
      record { parts = sym (take-append-drop n r.bytes); fits = IsBytes-drop n r.bytes fits },
      omega (arith, length-take n r.bytes),
      IsBytes-take n r.bytes fits,
    )

pub bytes_again : (text : List ℕ) (n : ℕ) → length text ≡ n → Again (read_bytes n) text text
bytes_again text n len at more =
    let long : ltb (length (text ++ more)) n ≡ false = le-ltb _ _ (omega (arith, length-append text more)) in
    (at + n, rw (long, take_at text more n len, drop_at text more n len) refl)

pub record IsWide (w : Width) (limit : ℕ) : Type 0 where
  pub len : (n : ℕ) → length (to_be_bytes w n) ≡ byte_len w
  pub back : (bytes : List ℕ) → length bytes ≡ byte_len w → IsBytes bytes → to_be_bytes w (from_be_bytes w bytes) ≡ bytes
  pub again : (n : ℕ) → n < limit → from_be_bytes w (to_be_bytes w n) ≡ n
  pub below : (bytes : List ℕ) → IsBytes bytes → from_be_bytes w bytes < limit

pub wide32 : IsWide w32 (2 ^ 32)
wide32 = record {
  len = λ n. refl;
  back = λ bytes len fits. be_bytes_4 bytes _ len fits refl;
  again = λ n lt. from_be_bytes-to_be_bytes_4 n lt;
  below = λ bytes fits. omega (arith, fits 0, fits 1, fits 2, fits 3);
}

pub wide64 : IsWide w64 (2 ^ 64)
wide64 = record {
  len = λ n. refl;
  back = λ bytes len fits. be_bytes_8 bytes _ len fits refl;
  again = λ n lt. from_be_bytes-to_be_bytes_8 n lt;
  below = λ bytes fits. omega (arith, fits 0, fits 1, fits 2, fits 3, fits 4, fits 5, fits 6, fits 7);
}

pub number_takes : (w : Width) (limit : ℕ) → IsWide w limit → (r : Rest) (x : ℕ × Rest) → IsBytes r.bytes → read_number w r ≡ Ok x → Takes r (to_be_bytes w x.0) x.1 × (x.0 < limit)
number_takes w limit wide r x fits e =
    let n = byte_len w in
    let g = not_stopped (ltb (length r.bytes) n) Truncated (Ok (from_be_bytes w (take n r.bytes), skip n r)) x e in
    let long : n ≤ length r.bytes = ltb-false _ _ g.0 in
    let few = IsBytes-take n r.bytes fits in
    let front : to_be_bytes w (from_be_bytes w (take n r.bytes)) ≡ take n r.bytes = wide.back (take n r.bytes) (omega (arith, length-take n r.bytes)) few in
    subst (λ (y : ℕ × Rest). Takes r (to_be_bytes w y.0) y.1 × (y.0 < limit)) (ok_is (from_be_bytes w (take n r.bytes), skip n r) x g.1) (
      record { parts = sym (take-append-drop n r.bytes) ∙ ap (λ (t : List ℕ). t ++ drop n r.bytes) (sym front); fits = IsBytes-drop n r.bytes fits },
      wide.below (take n r.bytes) few,
    )

pub number_again : (w : Width) (limit : ℕ) → IsWide w limit → (n : ℕ) → n < limit → Again (read_number w) (to_be_bytes w n) n
number_again w limit wide n lt at more =
    let len = wide.len n in
    let long : ltb (length (to_be_bytes w n ++ more)) (byte_len w) ≡ false = le-ltb _ _ (omega (arith, length-append (to_be_bytes w n) more)) in
    (at + byte_len w, rw (long, take_at (to_be_bytes w n) more (byte_len w) len, drop_at (to_be_bytes w n) more (byte_len w) len, wide.again n lt) refl)

first_takes : (at : ℕ) (bytes : List ℕ) (x : ℕ × Rest) → IsBytes bytes → first_byte at bytes ≡ Ok x → (bytes ≡ x.0 ∷ x.1.bytes) × IsBytes x.1.bytes
first_takes at [] x fits e = absurd cc
first_takes at (b ∷ bs) x fits e = subst (λ (y : ℕ × Rest). (b ∷ bs ≡ y.0 ∷ y.1.bytes) × IsBytes y.1.bytes) (ok_is (b, rest (at + 1) bs) x e) (refl, λ i. fits (suc i))

pub byte_takes : (r : Rest) (x : ℕ × Rest) → IsBytes r.bytes → read_byte r ≡ Ok x → Takes r (x.0 ∷ []) x.1
byte_takes r x fits e = let both = first_takes r.at r.bytes x fits e in record { parts = both.0; fits = both.1 }
