-- How long the text of a line is.
use Rattle.std.proofs.Common.{◌≡◌, ℕ, ◌+◌, ◌-◌, ◌≤◌, ◌==◌, ◌&&◌, Bool, true, false, cond, List, Option, length, take, get_or, arith, refl}
use Rattle.std.specs.Prelude.{nat_lt}
use Rattle.std.proofs.lemmas.List.{length-take}
use Rattle.ctl_feed.specs.Readings.{read_by, text_of, without_return}
use Rattle.ctl_feed.specs.Times.{time_of}
use Rattle.ctl_feed.specs.declared.reading.Reading.{Reading}

shorter : (b : Bool) (line : List ℕ) → length line ≤ length (cond b (take (length line - 1) line) line) + 1
shorter true line = omega (arith, length-take (length line - 1) line)
shorter false line = omega arith

by_flag : (b : Bool) (line : List ℕ) → length line ≤ length (cond b (without_return line) line) + 1
by_flag true line = shorter (nat_lt 0 (length line) && (get_or line (length line - 1) 0 == 13)) line
by_flag false line = omega arith

-- at most a byte of a line is no part of its text
pub read_length : (reading : Reading) (line : List ℕ) → length line ≤ length (read_by reading line).1 + 1
read_length reading line = by_flag reading.drops_returns line

-- what a line is read as, by its text and the time of that
pub read_is : (reading : Reading) (line text : List ℕ) (time : Option ℕ) → text ≡ text_of reading line → time ≡ time_of reading.stamps text → (time, text) ≡ read_by reading line
read_is reading line text time same at = rw (at, same) refl
