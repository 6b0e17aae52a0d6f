-- The times of lines.
use Rattle.std.specs.Prelude.{ℕ, ◌+◌, ◌-◌, ◌^◌, ◌==◌, ◌||◌, ◌&&◌, List, [], ◌∷◌, ◌++◌, length, take, drop, get_or, codes, bytes_eq, decimal, Bool, nat_lt, nat_le, if◌then◌else◌, Option, Some, None, option_and_then, ℤ, pos, negsuc}
use Rattle.std.specs.List.{after_first, before_first}
use Rattle.std.specs.Result.{result_ok}
use Rattle.std.specs.Str.{is_utf8}
use Rattle.jiff.specs.Words.{parse_timestamp}
use Rattle.memchr.specs.Find.{is_byte}
use Rattle.ing_rows.specs.Texts.{stamp_of}
use Rattle.ctl_feed.specs.declared.stamps.Stamps.{Stamps}
use Rattle.ctl_feed.specs.declared.stamps.Stamps.TheVariants.{Now, Line, Seconds, Milliseconds, Nginx, Syslog}

-- a space or a tab
abbrev pub is_blank : ℕ → Bool
is_blank byte = (byte == 32) || (byte == 9)

-- what stands before the first of them
abbrev pub first_word : List ℕ → List ℕ
first_word line = before_first is_blank line

-- nanoseconds from 1970 on, up to 2^63-1
abbrev pub stamp_at : ℤ → Option ℕ
stamp_at (pos n) = if nat_lt n (2 ^ 63) then Some n else None
stamp_at (negsuc n) = None

-- the instant that a text of RFC 3339 is
abbrev pub instant_in : List ℕ → Option ℕ
instant_in text = option_and_then stamp_at (result_ok (parse_timestamp text))

abbrev pub or_else : Option ℕ → Option ℕ → Option ℕ
or_else None other = other
or_else (Some n) other = Some n

-- the time that a word is: a stamp in digits, or an instant
abbrev pub time_in : List ℕ → Option ℕ
time_in word = if is_utf8 word then or_else (stamp_of word) (instant_in word) else None

-- what stands before the second of them
abbrev pub two_words : List ℕ → List ℕ
two_words line = take (length (first_word line) + 1 + length (first_word (drop (length (first_word line) + 1) line))) line

-- the time that a line begins with, in a word or, as date and clock, in two
abbrev pub line_time : List ℕ → Option ℕ
line_time line = or_else (time_in (first_word line)) (time_in (two_words line))

-- ---- numbers

-- The time that is so many units since 1970 as a word says, in digits and with a fraction behind a dot. A unit is 10 to the power of
-- `digits` nanoseconds: so these have the digits of the whole, and then so many of the fraction, with zeros behind it.
abbrev pub number_time : ℕ → List ℕ → Option ℕ
number_time digits word =
    let whole = before_first (is_byte 46) word in
    if length whole == 0 then None else time_in (whole ++ take digits (after_first (is_byte 46) word ++ codes "000000000"))

-- ---- times with the name of a month

-- two digits
abbrev pub month_named : List ℕ → Option (List ℕ)
month_named name =
    if bytes_eq name (codes "Jan") then Some (codes "01") else
    if bytes_eq name (codes "Feb") then Some (codes "02") else
    if bytes_eq name (codes "Mar") then Some (codes "03") else
    if bytes_eq name (codes "Apr") then Some (codes "04") else
    if bytes_eq name (codes "May") then Some (codes "05") else
    if bytes_eq name (codes "Jun") then Some (codes "06") else
    if bytes_eq name (codes "Jul") then Some (codes "07") else
    if bytes_eq name (codes "Aug") then Some (codes "08") else
    if bytes_eq name (codes "Sep") then Some (codes "09") else
    if bytes_eq name (codes "Oct") then Some (codes "10") else
    if bytes_eq name (codes "Nov") then Some (codes "11") else
    if bytes_eq name (codes "Dec") then Some (codes "12") else None

abbrev pub month_in : List ℕ → Option (List ℕ)
month_in name = if is_utf8 name then month_named name else None

-- a time as ISO 8601 writes it, such as 2026-11-28T13:52:55+0100
abbrev pub iso_text : List ℕ → List ℕ → List ℕ → List ℕ → List ℕ → List ℕ
iso_text year month day clock zone = ((((((year ++ codes "-") ++ month) ++ codes "-") ++ day) ++ codes "T") ++ clock) ++ zone

-- the time of a year, the name of a month, a day, a clock and a zone
abbrev pub dated_time : List ℕ → List ℕ → List ℕ → List ℕ → List ℕ → Option ℕ
dated_time year name day clock zone = option_and_then (λ month. time_in (iso_text year month day clock zone)) (month_in name)

-- the time that nginx writes as 28/Nov/2026:13:52:55 +0100
abbrev pub nginx_time : List ℕ → Option ℕ
nginx_time text =
    let day = before_first (is_byte 47) text in
    let rest = after_first (is_byte 47) text in
    let name = before_first (is_byte 47) rest in
    let year = before_first (is_byte 58) (after_first (is_byte 47) rest) in
    let clock = after_first (is_byte 58) (after_first (is_byte 47) rest) in
    dated_time year name day (before_first (is_byte 32) clock) (after_first (is_byte 32) clock)

-- a space in place of a zero
abbrev pub digit_at : ℕ → ℕ
digit_at byte = if byte == 32 then 48 else byte

-- the columns of syslog's time: 15 bytes, with spaces behind the month and the day
abbrev pub has_columns : List ℕ → Bool
has_columns line = nat_le 15 (length line) && (get_or line 3 0 == 32) && (get_or line 6 0 == 32)

-- the time that syslog writes as Nov 28 13:52:55, in this year
abbrev pub syslog_in : ℕ → List ℕ → Option ℕ
syslog_in year line =
    let day = digit_at (get_or line 4 0) ∷ get_or line 5 0 ∷ [] in
    if has_columns line then dated_time (decimal year) (take 3 line) day (take 8 (drop 7 line)) (codes "Z") else None

-- a time up to the latest, or else the other one
abbrev pub up_to : ℕ → Option ℕ → Option ℕ → Option ℕ
up_to latest None other = other
up_to latest (Some time) other = if nat_le time latest then Some time else other

-- the same where the year is not known: in this year or, above the latest, in the one before
abbrev pub syslog_time : ℕ → ℕ → List ℕ → Option ℕ
syslog_time year latest line = up_to latest (syslog_in year line) (syslog_in (year - 1) line)

-- ---- the time of a line, if it has one

abbrev pub time_of : Stamps → List ℕ → Option ℕ
time_of Now line = None
time_of Line line = line_time line
time_of Seconds line = number_time 9 (first_word line)
time_of Milliseconds line = number_time 6 (first_word line)
time_of Nginx line = nginx_time (before_first (is_byte 93) (after_first (is_byte 91) line))
time_of (Syslog year latest) line = syslog_time year latest line
