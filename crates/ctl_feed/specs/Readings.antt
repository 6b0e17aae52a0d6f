-- How a line is read: its time and its text.
use Rattle.std.specs.Prelude.{ℕ, ◌-◌, ◌==◌, ◌&&◌, nat_lt, List, length, take, get_or, if◌then◌else◌, Option}
use Rattle.ctl_feed.specs.Times.{time_of}
use Rattle.ctl_feed.specs.declared.reading.Reading.{Reading}

-- a line without its last byte where that is a carriage return (13)
abbrev pub without_return : List ℕ → List ℕ
without_return line =
    if nat_lt 0 (length line) && (get_or line (length line - 1) 0 == 13) then take (length line - 1) line else line

-- what of a line is loaded
abbrev pub text_of : Reading → List ℕ → List ℕ
text_of reading line = if reading.drops_returns then without_return line else line

-- the time of a line, if it has one, and its text
abbrev pub read_by : Reading → List ℕ → Option ℕ × List ℕ
read_by reading line = (time_of reading.stamps (text_of reading line), text_of reading line)
