-- The bytes of a character of a canonical name are read as the character is.
use Rattle.std.proofs.Common.{◌≡◌, ℕ, suc, ◌<◌, ◌≤◌, length, get_or, Bool, true, false, cond, ◌&&◌, ◌==◌, inl, inr, List, [], ◌∷◌, ◌++◌, Option, Some, None, refl, sym, ap, ◌∙◌, append_assoc, append-nil, arith}
use lib.Utf8.{encode}
use Rattle.std.proofs.lemmas.Str.{encode_ascii}
use Rattle.std.proofs.lemmas.Bool.{cases_lt}
use Rattle.ing_labels.specs.Labels.{Pair}
use Rattle.ing_labels.specs.CanonicalReading.{Reading, Start, Next, InName, Compared, InValue, Escaped, Matched, Comma, Closed, in_name, above_with, last_name, step, step_with, step_char, run_from}
use Rattle.ing_labels.proofs.Chars.{far_start, far_name, far_byte, all_far}

-- what no byte of ASCII is read as: only a value has others
abbrev pub far : List ℕ → Reading → Option Reading
far bytes (InValue ps n v) = Some (InValue ps n (v ++ bytes))
far bytes _ = None

no_test : (above s : Bool) (x : Option Reading) → s ≡ false → cond (above && s) x None ≡ None
no_test true s x e = ap (λ t. cond t x None) e
no_test false s x e = refl

far-step : (bytes : List ℕ) (r : Reading) (c : ℕ) → 128 ≤ c → step_with bytes r c ≡ far bytes r
far-step bytes Start c h = simp (far_byte c 123 h (omega arith))
far-step bytes (Next ps) c h = simp (far_start c h)
far-step bytes (InName ps n above) c h =
    ap (λ t. cond t (in_name ps (n ++ bytes) (above_with above (last_name ps) (length n) c)) (cond (above && (c == 61)) (Some (Compared ps n)) None)) (far_name c h)
    ∙ no_test above (c == 61) (Some (Compared ps n)) (far_byte c 61 h (omega arith))
far-step bytes (Compared ps n) c h = simp (far_byte c 34 h (omega arith))
far-step bytes (InValue ps n v) c h = simp (far_byte c 34 h (omega arith), far_byte c 92 h (omega arith), far_byte c 10 h (omega arith))
far-step bytes (Escaped ps n v) c h = simp (far_byte c 92 h (omega arith), far_byte c 34 h (omega arith), far_byte c 110 h (omega arith))
far-step bytes (Matched ps) c h = simp (far_byte c 44 h (omega arith), far_byte c 125 h (omega arith))
far-step bytes (Comma ps) c h = simp (far_byte c 32 h (omega arith))
far-step bytes (Closed ps) c h = refl

far_bytes : (ps : List Pair) (n v bs : List ℕ) → ((k : ℕ) → k < length bs → 128 ≤ get_or bs k 0) → run_from (Some (InValue ps n v)) bs ≡ Some (InValue ps n (v ++ bs))
far_bytes ps n v [] all = ap (λ x. Some (InValue ps n x)) (sym (append-nil v))
far_bytes ps n v (b ∷ bs) all =
    ap (λ o. run_from o bs) (far-step (b ∷ []) (InValue ps n v) b (all 0 (omega arith)))
    ∙ far_bytes ps n (v ++ b ∷ []) bs (λ k h. all (suc k) (omega arith))
    ∙ ap (λ x. Some (InValue ps n x)) (append_assoc v (b ∷ []) bs)

far_char : (r t : Reading) (c : ℕ) → 128 ≤ c → far (encode c) r ≡ Some t → run_from (Some r) (encode c) ≡ Some t
far_char Start t c h e = absurd (cc)
far_char (Next ps) t c h e = absurd (cc)
far_char (InName ps n above) t c h e = absurd (cc)
far_char (Compared ps n) t c h e = absurd (cc)
far_char (InValue ps n v) t c h e = far_bytes ps n v (encode c) (all_far c h) ∙ e
far_char (Escaped ps n v) t c h e = absurd (cc)
far_char (Matched ps) t c h e = absurd (cc)
far_char (Comma ps) t c h e = absurd (cc)
far_char (Closed ps) t c h e = absurd (cc)

pub char_read : (r t : Reading) (c : ℕ) → step_char r c ≡ Some t → run_from (Some r) (encode c) ≡ Some t
char_read r t c e =
    elim (cases_lt c 128) [
      | inl h ↦ ap (run_from (Some r)) (encode_ascii c h) ∙ ap (λ bytes. step_with bytes r c) (sym (encode_ascii c h)) ∙ e
      | inr h ↦ far_char r t c h (sym (far-step (encode c) r c h) ∙ e)
    ]

far_none : (xs ys : List ℕ) (r : Reading) → far xs r ≡ None → far ys r ≡ None
far_none xs ys Start e = refl
far_none xs ys (Next ps) e = refl
far_none xs ys (InName ps n above) e = refl
far_none xs ys (Compared ps n) e = refl
far_none xs ys (InValue ps n v) e = absurd (cc)
far_none xs ys (Escaped ps n v) e = refl
far_none xs ys (Matched ps) e = refl
far_none xs ys (Comma ps) e = refl
far_none xs ys (Closed ps) e = refl

first_far : (r : Reading) (bs : List ℕ) → 0 < length bs → 128 ≤ get_or bs 0 0 → far bs r ≡ None → (b : ℕ) × (rest : List ℕ) × (bs ≡ b ∷ rest) × (step r b ≡ None)
first_far r [] some big e = absurd (omega arith)
first_far r (b ∷ bs) some big e = (b, bs, refl, far-step (b ∷ []) r b big ∙ far_none (b ∷ bs) (b ∷ []) r e)

-- where a character can not follow, its first byte can not
pub char_stuck : (r : Reading) (c : ℕ) → 0 < length (encode c) → step_char r c ≡ None → (b : ℕ) × (rest : List ℕ) × (encode c ≡ b ∷ rest) × (step r b ≡ None)
char_stuck r c some e =
    elim (cases_lt c 128) [
      | inl h ↦ (c, [], encode_ascii c h, ap (λ bytes. step_with bytes r c) (sym (encode_ascii c h)) ∙ e)
      | inr h ↦ first_far r (encode c) some (all_far c h 0 some) (sym (far-step (encode c) r c h) ∙ e)
    ]
