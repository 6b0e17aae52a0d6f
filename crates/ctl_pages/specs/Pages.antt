-- What is asked for of the entries of a selector, page by page, and what may answer it (own).
use Rattle.std.specs.Prelude.{◌≡◌, ℕ, ◌-◌, Bool, true, false, not, List, [], ◌∷◌, ◌++◌, filter, take, length, nat_lt, nat_le, bytes_eq, ◌==◌, ◌&&◌, if◌then◌else◌, Option, Some, None, option_map, slice_get}
use Rattle.std.specs.List.{list_all}
use Rattle.std.specs.Cmp.Lexicographic.{slice_cmp}
use Rattle.std.specs.Ordering.{is_ge, is_le, is_lt, nat_cmp, ordering_then}
use Rattle.std.specs.declared.cmp.Ordering.{Ordering}
use Rattle.ing_rows.specs.Cursors.{Cursor, cursor_view}
use Rattle.ing_rows.specs.declared.order.Order.{Order}
use Rattle.ing_rows.specs.declared.order.Order.TheVariants.{Forward, Backward}
use Rattle.ctl_pages.specs.declared.told.Told.{Told}
use Rattle.ctl_pages.specs.declared.wanted.Wanted as code

-- Those whose stamp is at least the start and below the end, the first ones in the order, so many
-- at most; where there is a place, of those that stand behind it in the order; and whether a full
-- page, of as many, tells where the next begins.
pub record Wanted : Type 0 where
  pub start : ℕ
  pub end : ℕ
  pub limit : ℕ
  pub order : Order
  pub after : Option Cursor
  pub pages : Bool

-- the same, without where its text lies in memory
abbrev pub wanted_view : code.Wanted → Wanted
wanted_view w = record {
  start = w.start;
  end = w.end;
  limit = w.limit;
  order = w.order;
  after = option_map cursor_view w.after;
  pages = w.pages;
}

-- the stamp of an entry is in the range
abbrev pub is_within : Wanted → Told → Bool
is_within wanted told = nat_le wanted.start told.stamp && nat_lt told.stamp wanted.end

-- ---- the order of places

-- by stamp, then by stream in byte order, then by number
abbrev pub place_cmp : Cursor → Cursor → Ordering
place_cmp one other =
    let by_number = nat_cmp one.number other.number in
    let by_stream = slice_cmp nat_cmp one.stream other.stream in
    ordering_then (nat_cmp one.stamp other.stamp) (ordering_then by_stream by_number)

-- one place stands before another in the order
abbrev pub precedes : Order → Cursor → Cursor → Bool
precedes Forward one other = is_lt (place_cmp one other)
precedes Backward one other = is_lt (place_cmp other one)

-- a place stands behind the other, where there is one
abbrev pub is_behind : Order → Option Cursor → Cursor → Bool
is_behind order None place = true
is_behind order (Some from) place = precedes order from place

-- ---- what may answer it

-- how a place stands to an entry by stamp, then by stream in byte order; its number is not told
abbrev pub stream_cmp : Cursor → Told → Ordering
stream_cmp place told =
    ordering_then (nat_cmp place.stamp told.stamp) (slice_cmp nat_cmp place.stream told.stream)

-- an entry has the stamp and the stream of the place, or stands behind it by these in the order
abbrev pub is_from : Order → Cursor → Told → Bool
is_from Forward place told = is_le (stream_cmp place told)
is_from Backward place told = is_ge (stream_cmp place told)

-- so it may stand behind the place, where there is one
abbrev pub may_be_behind : Order → Option Cursor → Told → Bool
may_be_behind order None told = true
may_be_behind order (Some place) told = is_from order place told

-- an entry may be one that is wanted, whatever its number
abbrev pub may_be_wanted : Wanted → Told → Bool
may_be_wanted wanted told =
    is_within wanted told && may_be_behind wanted.order wanted.after told

-- the last entry, if there is one
abbrev pub last_of : List Told → Option Told
last_of page = slice_get page (length page - 1)

-- the place is that of the entry, whatever its number
abbrev pub is_place_of : Cursor → Option Told → Bool
is_place_of place None = false
is_place_of place (Some told) =
    (place.stamp == told.stamp) && bytes_eq place.stream told.stream

-- pages are asked for, and this one has as many entries as it may
abbrev pub is_full : Wanted → List Told → Bool
is_full wanted page = wanted.pages && (length page == wanted.limit)

-- of a full page the place of its last entry is told, which stands behind what was asked; of no
-- other page any
abbrev pub tells_end : Wanted → List Told → Option Cursor → Bool
tells_end wanted page None = not (is_full wanted page)
tells_end wanted page (Some place) =
    let is_there = is_behind wanted.order wanted.after place in
    is_full wanted page && is_place_of place (last_of page) && is_there

-- a page, and what is told of where the next begins, may answer
abbrev pub may_answer : Wanted → List Told → Option Cursor → Bool
may_answer wanted page next =
    let is_short_enough = nat_le (length page) wanted.limit in
    is_short_enough && list_all (may_be_wanted wanted) page && tells_end wanted page next

-- ---- what answers it, of all entries that there are

-- an entry, with its number in its stream
pub record Placed : Type 0 where
  pub told : Told
  pub number : ℕ

abbrev pub place_of : Placed → Cursor
place_of placed =
    record { stamp = placed.told.stamp; stream = placed.told.stream; number = placed.number }

-- one entry stands before another
abbrev pub stands_before : Order → Placed → Placed → Bool
stands_before order one other = precedes order (place_of one) (place_of other)

-- each stands before those behind it: so no two stand at one place
abbrev pub IsInOrder : Order → List Placed → Type 0
IsInOrder order [] = Unit {0}
IsInOrder order (placed ∷ behind) =
    (list_all (stands_before order placed) behind ≡ true) × IsInOrder order behind

abbrev pub is_wanted : Wanted → Placed → Bool
is_wanted wanted placed =
    is_within wanted placed.told && is_behind wanted.order wanted.after (place_of placed)

-- the first of those that are wanted, as many as are asked for at most
abbrev pub answer_of : Wanted → List Placed → List Placed
answer_of wanted all = take wanted.limit (filter (is_wanted wanted) all)

-- the place of the last entry of as many as an answer may have, where pages are asked for
abbrev pub next_of : Wanted → List Placed → Option Cursor
next_of wanted answer =
    let last = slice_get answer (wanted.limit - 1) in
    if wanted.pages then option_map place_of last else None

-- ---- all pages

-- the same is wanted, behind this place
abbrev pub asking_behind : Wanted → Cursor → Wanted
asking_behind wanted place = record wanted { after = Some place }

-- Of all entries that there are these are the pages, one after another, behind one that told such
-- a place: each answers what is wanted behind the place that was told before it, up to one that
-- tells none.
abbrev pub AreBehind : List Placed → Wanted → Option Cursor → List (List Placed) → Type 0
AreBehind all wanted None [] = Unit {0}
AreBehind all wanted None (page ∷ pages) = ⊥
AreBehind all wanted (Some place) [] = ⊥
AreBehind all wanted (Some place) (page ∷ pages) =
    (page ≡ answer_of (asking_behind wanted place) all)
    × AreBehind all wanted (next_of wanted page) pages

-- the same from the first page on
abbrev pub ArePages : List Placed → Wanted → List (List Placed) → Type 0
ArePages all wanted [] = ⊥
ArePages all wanted (page ∷ pages) =
    (page ≡ answer_of wanted all) × AreBehind all wanted (next_of wanted page) pages

-- what stands in lists, one after the other
abbrev pub joined : List (List Placed) → List Placed
joined [] = []
joined (page ∷ pages) = page ++ joined pages
