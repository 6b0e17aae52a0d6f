-- The time of a line, as it is found.
use Rattle.std.proofs.Common.{◌≡◌, ℕ, ◌<◌, ◌≤◌, true, false, List, length, take, get_or, Option, Some, None, Ok, Err, sym, ap, ◌∙◌}
use Rattle.std.specs.Option.{ok_or}
use Rattle.std.specs.Str.{IsUtf8, is_utf8}
use Rattle.std.proofs.lemmas.Bool.{false_from_ne_true}
use Rattle.std.proofs.lemmas.List.Sums.{position_or_len_is}
use Rattle.std.proofs.lemmas.Str.{IsUtf8-from_is_utf8, is_utf8-from_IsUtf8}
use Rattle.ing_rows.specs.Texts.{stamp_of}
use Rattle.ctl_feed.specs.Times.{first_word, instant_in, is_blank, month_in, month_named, time_in}

pub word_until : (line : List ℕ) (i : ℕ) → i ≤ length line → ((k : ℕ) → k < i → is_blank (get_or line k 0) ≡ false) → (i < length line → is_blank (get_or line i 0) ≡ true) → take i line ≡ first_word line
word_until line i le before at = ap (λ n. take n line) (sym (position_or_len_is is_blank line i 0 le before at))

pub no_time : (word : List ℕ) → (IsUtf8 word → ⊥) → None ≡ time_in word
no_time word h = let bad : is_utf8 word ≡ false = false_from_ne_true (is_utf8 word) (λ e. h (IsUtf8-from_is_utf8 word e)) in rw bad

stamp_is : {E : Type 0} (o : Option ℕ) (n : ℕ) (e : E) → Ok n ≡ ok_or o e → o ≡ Some n
stamp_is None n e h = absurd cc
stamp_is (Some m) n e h = cc

none_is : {E : Type 0} (o : Option ℕ) (f e : E) → Err f ≡ ok_or o e → o ≡ None
none_is None f e h = cc
none_is (Some m) f e h = absurd cc

pub digits_are : {E : Type 0} (word text : List ℕ) (n : ℕ) (e : E) → text ≡ word → IsUtf8 word → Ok n ≡ ok_or (stamp_of text) e → Some n ≡ time_in word
digits_are word text n e same utf8 h =
    let good : stamp_of word ≡ Some n = ap stamp_of (sym same) ∙ stamp_is (stamp_of text) n e h in
    rw (is_utf8-from_IsUtf8 word utf8, good)

pub instant_is : {E : Type 0} (word text : List ℕ) (f e : E) → text ≡ word → IsUtf8 word → Err f ≡ ok_or (stamp_of text) e → instant_in text ≡ time_in word
instant_is word text f e same utf8 h =
    let bad : stamp_of word ≡ None = ap stamp_of (sym same) ∙ none_is (stamp_of text) f e h in
    ap instant_in same ∙ rw (is_utf8-from_IsUtf8 word utf8, bad)

pub no_month : (name : List ℕ) → (IsUtf8 name → ⊥) → None ≡ month_in name
no_month name h = let bad : is_utf8 name ≡ false = false_from_ne_true (is_utf8 name) (λ e. h (IsUtf8-from_is_utf8 name e)) in rw bad

pub month_is : (name text : List ℕ) (month : Option (List ℕ)) → text ≡ name → IsUtf8 name → month ≡ month_named text → month ≡ month_in name
month_is name text month same utf8 is = rw (is_utf8-from_IsUtf8 name utf8) (is ∙ ap month_named same)
