-- A value as it is written, character by character.
use Rattle.std.specs.List.{list_any}
use Rattle.std.proofs.Common.{◌≡◌, ◌≢◌, ℕ, suc, ◌<◌, length, get_or, List, [], ◌∷◌, ◌++◌, refl, sym, ap, ◌∙◌, arith, append-nil, false}
use lib.Utf8.{encode}
use Rattle.std.proofs.lemmas.List.Concat.{flat_map-append}
use Rattle.std.proofs.lemmas.Str.{encode_ascii, inside_one}
use Rattle.std.proofs.lemmas.Bool.{or_parts}
use Rattle.ing_labels.specs.Canonical.{written_byte, is_escaped, written_value}

plain_byte : (b : ℕ) → b ≢ 92 → b ≢ 34 → b ≢ 10 → written_byte b ≡ b ∷ []
plain_byte b not_backslash not_quote not_line_feed = grind arith

-- bytes that are not escaped are written as they are
plain_bytes : (bs : List ℕ) → ((k : ℕ) → k < length bs → (get_or bs k 0 ≢ 92) × (get_or bs k 0 ≢ 34) × (get_or bs k 0 ≢ 10)) → written_value bs ≡ bs
plain_bytes [] plain = refl
plain_bytes (b ∷ bs) plain =
    let first = plain 0 (omega arith) in
    let rest = plain_bytes bs (λ k h. plain (suc k) (omega arith)) in
    ap (λ s. s ++ written_value bs) (plain_byte b first.0 first.1 first.2) ∙ ap (λ s. b ∷ s) rest

-- a character that is not escaped
pub written-encode : (c : ℕ) → c ≢ 92 → c ≢ 34 → c ≢ 10 → written_value (encode c) ≡ encode c
written-encode c not_backslash not_quote not_line_feed =
    plain_bytes (encode c) (λ k h.
    let same = λ (b : ℕ) (small : b < 128) (e : get_or (encode c) k 0 ≡ b). inside_one c [] (encode c) k (sym (append-nil (encode c))) h (omega arith) ∙ e in
    (λ e. not_backslash (same 92 (omega arith) e), λ e. not_quote (same 34 (omega arith) e), λ e. not_line_feed (same 10 (omega arith) e)))

-- a value whose first character is c
pub written_char : (c : ℕ) (rest : List ℕ) → c ≢ 92 → c ≢ 34 → c ≢ 10 → written_value (encode c ++ rest) ≡ encode c ++ written_value rest
written_char c rest not_backslash not_quote not_line_feed =
    flat_map-append written_byte (encode c) rest ∙ ap (λ s. s ++ written_value rest) (written-encode c not_backslash not_quote not_line_feed)

-- a value whose first character is the byte b
pub written_ascii : (b : ℕ) (rest : List ℕ) → b < 128 → written_value (encode b ++ rest) ≡ written_byte b ++ written_value rest
written_ascii b rest small = ap (λ s. written_value (s ++ rest)) (encode_ascii b small)

plain_from_test : (b : ℕ) → is_escaped b ≡ false → (b ≢ 92) × (b ≢ 34) × (b ≢ 10)
plain_from_test b h = grind arith

-- a value with no byte that is escaped
pub written-plain : (value : List ℕ) → list_any is_escaped value ≡ false → written_value value ≡ value
written-plain [] none = refl
written-plain (b ∷ bs) none =
    let parts = or_parts _ _ none in
    let plain = plain_from_test b parts.0 in
    ap (λ s. s ++ written_value bs) (plain_byte b plain.0 plain.1 plain.2) ∙ ap (λ s. b ∷ s) (written-plain bs parts.1)
