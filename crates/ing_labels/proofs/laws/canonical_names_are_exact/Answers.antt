use Rattle.std.proofs.Common.{◌≡◌, ◌++◌, ◌∷◌, [], codes, ap}
use Rattle.std.specs.List.{join_by}
use Rattle.std.specs.FinMap.{entries, same_entries_map}
use Rattle.ing_labels.specs.Canonical.{written_pair, canonical_of}
use Rattle.ing_labels.proofs.Exact.{pairs_exact}
use Rattle.ing_labels.proofs.laws.canonical_names_are_exact.Goals as goal

pub returns : goal.returns
returns c = λ m n f g. (
  λ e. let inside : join_by written_pair (codes ", ") (entries m) ++ 125 ∷ [] ≡ join_by written_pair (codes ", ") (entries n) ++ 125 ∷ [] = cc in
      same_entries_map m n (pairs_exact (entries m) (entries n) f g inside),
  λ e. ap canonical_of e,
)
