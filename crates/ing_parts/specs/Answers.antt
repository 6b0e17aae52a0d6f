-- The first entries in an order, and which may be left out (Loki documentation: HTTP API, query range: limit and direction;
-- the order of entries of equal stamps is own).
use Rattle.std.specs.Prelude.{◌≡◌, ℕ, ◌==◌, ◌<◌, ◌≤◌, Bool, ◌&&◌, List, [], ◌∷◌, ◌++◌, bytes_eq, filter, length, take, IsPermutation}
use Rattle.std.specs.List.Sorted.{IsSortedBy}
use Rattle.std.specs.Ordering.{is_lt, nat_cmp, ordering_then}
use Rattle.std.specs.Cmp.Lexicographic.{slice_cmp}
use Rattle.ing_parts.specs.declared.found.Found.{Found}
use Rattle.ing_rows.specs.declared.order.Order.{Order}
use Rattle.ing_rows.specs.declared.order.Order.TheVariants.{Forward, Backward}

-- by stamp, then by name in byte order, then by number
abbrev pub comes_first : Found → Found → Bool
comes_first f g =
    let by_number = nat_cmp f.number g.number in
    let by_name = slice_cmp nat_cmp f.name g.name in
    is_lt (ordering_then (nat_cmp f.entry.stamp g.entry.stamp) (ordering_then by_name by_number))

-- the answer has the one before the other
abbrev pub precedes : Order → Found → Found → Bool
precedes Forward f g = comes_first f g
precedes Backward f g = comes_first g f

-- of all of them the first ones in the order, so many at most
pub record IsAnswer (order : Order) (limit : ℕ) (all answer : List Found) : Type 0 where
  pub sorted : List Found
  pub same : IsPermutation all sorted
  pub in_order : IsSortedBy (precedes order) sorted
  pub cut : answer ≡ take limit sorted

-- Some of all, none of them more often than it stands there: with the others they are all, in some order. So none of them is
-- invented, and none is doubled.
pub record AreSomeOf (some all : List Found) : Type 0 where
  pub others : List Found
  pub same : IsPermutation (some ++ others) all

-- an entry has this number of the stream of this name
abbrev pub is_at : List ℕ → ℕ → Found → Bool
is_at name number f = bytes_eq f.name name && (f.number == number)

-- of no stream an entry stands twice
abbrev pub StandApart : List Found → Type 0
StandApart found = (name : List ℕ) (number : ℕ) → length (filter (is_at name number) found) ≤ 1

-- some of them stand for all: together with whatever others they have an answer that all have with these
abbrev pub StandFor : Order → ℕ → List Found → List Found → Type 0
StandFor order limit some all =
    (others answer : List Found) → IsAnswer order limit (some ++ others) answer → IsAnswer order limit (all ++ others) answer

-- a stamp comes behind another in the order
abbrev pub IsPast : Order → ℕ → ℕ → Type 0
IsPast Forward bar stamp = bar < stamp
IsPast Backward bar stamp = stamp < bar

-- a stamp is this one or comes behind it in the order
abbrev pub IsFrom : Order → ℕ → ℕ → Type 0
IsFrom Forward from stamp = from ≤ stamp
IsFrom Backward from stamp = stamp ≤ from

-- ---- what is kept of the entries that were offered

-- the order, how many an answer may have, and what is kept
pub record BestState : Type 0 where
  pub order : Order
  pub limit : ℕ
  pub held : List Found

-- these are offered: what is kept then is of what was kept before and of these, and stands for them
pub record Offers (all : List Found) (old new : BestState) : Type 0 where
  pub order : new.order ≡ old.order
  pub limit : new.limit ≡ old.limit
  pub drawn : AreSomeOf new.held (old.held ++ all)
  pub stand : StandFor old.order old.limit new.held (old.held ++ all)

-- none from this stamp on changes an answer
abbrev pub PassesOver : ℕ → BestState → Type 0
PassesOver from b = (f : Found) → IsFrom b.order from f.entry.stamp → Offers (f ∷ []) b b
