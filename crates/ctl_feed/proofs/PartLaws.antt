-- Where a byte stands first.
use Rattle.std.proofs.Common.{◌≡◌, ℕ, List, length, sym, arith}
use Rattle.std.specs.List.{position_or_len}
use Rattle.std.proofs.lemmas.Bool.{false_from_ne_true}
use Rattle.std.proofs.lemmas.List.Sums.{position_or_len_is}
use Rattle.memchr.specs.Find.{NoneBefore, Nowhere, Passes, is_byte}

pub place_found : (mark : ℕ) (bytes : List ℕ) (at : ℕ) → NoneBefore (Passes (is_byte mark) bytes) 0 (length bytes) at × Passes (is_byte mark) bytes at → at ≡ position_or_len (is_byte mark) bytes
place_found mark bytes at h = sym (position_or_len_is (is_byte mark) bytes at 0 (omega (arith, h.0.high)) (λ k lt. false_from_ne_true _ (h.0.before k (omega arith) lt)) (λ lt. h.1))

pub no_place : (mark : ℕ) (bytes : List ℕ) → Nowhere (Passes (is_byte mark) bytes) 0 (length bytes) → length bytes ≡ position_or_len (is_byte mark) bytes
no_place mark bytes h = sym (position_or_len_is (is_byte mark) bytes (length bytes) 0 (omega arith) (λ k lt. false_from_ne_true _ (h k (omega arith) lt)) (λ lt. absurd (omega arith)))
