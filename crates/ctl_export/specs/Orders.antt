-- In which order the streams of a shard are exported (own).
use Rattle.std.specs.Prelude.{ℕ, zero, suc, List, [], ◌∷◌, ◌++◌}
use Rattle.ctl_export.specs.declared.order.Place.{Place}

-- the numbers from 0 on that are below this one
abbrev pub numbers_below : ℕ → List ℕ
numbers_below zero = []
numbers_below (suc n) = numbers_below n ++ n ∷ []

-- ---- for private clauses

abbrev pub number_in : Place → ℕ
number_in place = place.number
