-- The bytes of a character are read as the character is.
use Rattle.std.proofs.Common.{◌≡◌, ℕ, suc, ◌<◌, ◌≤◌, length, get_or, false, ◌==◌, inl, inr, List, [], ◌∷◌, ◌++◌, Option, Some, None, refl, sym, ap, ◌∙◌, append_assoc, append-nil, arith}
use lib.Utf8.{encode}
use Rattle.std.proofs.lemmas.Str.{encode_ascii, inside_one, length-encode}
use Rattle.std.proofs.lemmas.Bool.{cases_lt}
use Rattle.ing_labels.specs.Names.{is_name_start, is_name_byte}
use Rattle.ing_labels.specs.declared.selector.MatchOp.{MatchOp}
use Rattle.ing_labels.specs.Selectors.{Match, is_space}
use Rattle.ing_labels.specs.Reading.{Reading, Start, Opened, InName, Named, Bang, Compared, InValue, Escaped, Matched, Comma, Closed, step, step_with, step_char, run_from}

-- what no byte of ASCII is read as: only a value has others
abbrev pub far : List ℕ → Reading → Option Reading
far bytes (InValue ms n op v) = Some (InValue ms n op (v ++ bytes))
far bytes _ = None

pub far_start : (c : ℕ) → 128 ≤ c → is_name_start c ≡ false
far_start c h = grind arith

pub far_name : (c : ℕ) → 128 ≤ c → is_name_byte c ≡ false
far_name c h = grind arith

far_space : (c : ℕ) → 128 ≤ c → is_space c ≡ false
far_space c h = grind arith

pub far_byte : (c k : ℕ) → 128 ≤ c → k < 128 → (c == k) ≡ false
far_byte c k h small = grind arith

far-step : (bytes : List ℕ) (r : Reading) (c : ℕ) → 128 ≤ c → step_with bytes r c ≡ far bytes r
far-step bytes Start c h = simp (far_byte c 123 h (omega arith), far_space c h)
far-step bytes Opened c h = simp (far_start c h, far_byte c 125 h (omega arith), far_space c h)
far-step bytes (InName ms n) c h = simp (far_name c h, far_byte c 61 h (omega arith), far_byte c 33 h (omega arith), far_space c h)
far-step bytes (Named ms n) c h = simp (far_byte c 61 h (omega arith), far_byte c 33 h (omega arith), far_space c h)
far-step bytes (Bang ms n) c h = simp (far_byte c 61 h (omega arith))
far-step bytes (Compared ms n op) c h = simp (far_byte c 34 h (omega arith), far_space c h)
far-step bytes (InValue ms n op v) c h = simp (far_byte c 34 h (omega arith), far_byte c 92 h (omega arith), far_byte c 10 h (omega arith))
far-step bytes (Escaped ms n op v) c h = simp (far_byte c 92 h (omega arith), far_byte c 34 h (omega arith), far_byte c 110 h (omega arith))
far-step bytes (Matched ms) c h = simp (far_byte c 44 h (omega arith), far_byte c 125 h (omega arith), far_space c h)
far-step bytes (Comma ms) c h = simp (far_start c h, far_space c h)
far-step bytes (Closed ms) c h = simp (far_space c h)

far_bytes : (ms : List Match) (n : List ℕ) (op : MatchOp) (v bs : List ℕ) → ((k : ℕ) → k < length bs → 128 ≤ get_or bs k 0) → run_from (Some (InValue ms n op v)) bs ≡ Some (InValue ms n op (v ++ bs))
far_bytes ms n op v [] all = ap (λ x. Some (InValue ms n op x)) (sym (append-nil v))
far_bytes ms n op v (b ∷ bs) all =
    ap (λ o. run_from o bs) (far-step (b ∷ []) (InValue ms n op v) b (all 0 (omega arith)))
    ∙ far_bytes ms n op (v ++ b ∷ []) bs (λ k h. all (suc k) (omega arith))
    ∙ ap (λ x. Some (InValue ms n op x)) (append_assoc v (b ∷ []) bs)

-- each byte of a character that is not ASCII
pub all_far : (c : ℕ) → 128 ≤ c → (k : ℕ) → k < length (encode c) → 128 ≤ get_or (encode c) k 0
all_far c h k within =
    elim (cases_lt (get_or (encode c) k 0) 128) [
      | inl small ↦ let same = inside_one c [] (encode c) k (sym (append-nil (encode c))) within small in absurd (omega arith)
      | inr big ↦ big
    ]

far_char : (r t : Reading) (c : ℕ) → 128 ≤ c → far (encode c) r ≡ Some t → run_from (Some r) (encode c) ≡ Some t
far_char Start t c h e = absurd (cc)
far_char Opened t c h e = absurd (cc)
far_char (InName ms n) t c h e = absurd (cc)
far_char (Named ms n) t c h e = absurd (cc)
far_char (Bang ms n) t c h e = absurd (cc)
far_char (Compared ms n op) t c h e = absurd (cc)
far_char (InValue ms n op v) t c h e = far_bytes ms n op v (encode c) (all_far c h) ∙ e
far_char (Escaped ms n op v) t c h e = absurd (cc)
far_char (Matched ms) t c h e = absurd (cc)
far_char (Comma ms) t c h e = absurd (cc)
far_char (Closed ms) t c h e = absurd (cc)

pub char_read : (r t : Reading) (c : ℕ) → step_char r c ≡ Some t → run_from (Some r) (encode c) ≡ Some t
char_read r t c e =
    elim (cases_lt c 128) [
      | inl h ↦ ap (run_from (Some r)) (encode_ascii c h) ∙ ap (λ bytes. step_with bytes r c) (sym (encode_ascii c h)) ∙ e
      | inr h ↦ far_char r t c h (sym (far-step (encode c) r c h) ∙ e)
    ]

far_none : (xs ys : List ℕ) (r : Reading) → far xs r ≡ None → far ys r ≡ None
far_none xs ys Start e = refl
far_none xs ys Opened e = refl
far_none xs ys (InName ms n) e = refl
far_none xs ys (Named ms n) e = refl
far_none xs ys (Bang ms n) e = refl
far_none xs ys (Compared ms n op) e = refl
far_none xs ys (InValue ms n op v) e = absurd (cc)
far_none xs ys (Escaped ms n op v) e = refl
far_none xs ys (Matched ms) e = refl
far_none xs ys (Comma ms) e = refl
far_none xs ys (Closed ms) e = refl

first_far : (r : Reading) (bs : List ℕ) → 0 < length bs → 128 ≤ get_or bs 0 0 → far bs r ≡ None → (b : ℕ) × (rest : List ℕ) × (bs ≡ b ∷ rest) × (step r b ≡ None)
first_far r [] some big e = absurd (omega arith)
first_far r (b ∷ bs) some big e = (b, bs, refl, far-step (b ∷ []) r b big ∙ far_none (b ∷ bs) (b ∷ []) r e)

pub some_bytes : (c : ℕ) → 0 < length (encode c)
some_bytes c = grind (arith, length-encode c)

-- where a character can not follow, its first byte can not
pub char_stuck : (r : Reading) (c : ℕ) → 0 < length (encode c) → step_char r c ≡ None → (b : ℕ) × (rest : List ℕ) × (encode c ≡ b ∷ rest) × (step r b ≡ None)
char_stuck r c some e =
    elim (cases_lt c 128) [
      | inl h ↦ (c, [], encode_ascii c h, ap (λ bytes. step_with bytes r c) (sym (encode_ascii c h)) ∙ e)
      | inr h ↦ first_far r (encode c) some (all_far c h 0 some) (sym (far-step (encode c) r c h) ∙ e)
    ]
