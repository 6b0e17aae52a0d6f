-- What the first of some names in byte order is.
use Rattle.std.specs.Prelude.{◌≡◌, ℕ, not, bytes_eq, List, [], MatchOption, IsTrue}
use Rattle.std.specs.List.{list_any, list_all}
use Rattle.std.specs.Ordering.{nat_cmp, is_lt}
use Rattle.std.specs.Cmp.Lexicographic.{slice_cmp}
use Rattle.ing_limits.specs.Settings.{least_of}

-- it is one of the names, and none of them comes before it
pub record IsFirst (names : List (List ℕ)) (name : List ℕ) : Type 0 where
  pub is_one : IsTrue (list_any (λ other. bytes_eq name other) names)
  pub none_before : IsTrue (list_all (λ other. not (is_lt (slice_cmp nat_cmp other name))) names)

-- where there are names, the least of them is the first
abbrev pub LeastIsFirst : Type 0
LeastIsFirst = (names : List (List ℕ)) → MatchOption (least_of names) (names ≡ []) (IsFirst names)
