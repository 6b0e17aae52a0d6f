-- Which of the listed streams a selector picks.
use Rattle.std.specs.Prelude.{◌≡◌, ℕ, Bool, ◌&&◌, List, map, filter, bytes_eq}
use Rattle.std.specs.List.{enumerate_from}
use Rattle.ing_labels.specs.Labels.{LabelMap, IsLabelSet}
use Rattle.ing_labels.specs.Selectors.{Match, selects}
use Rattle.ing_rows.specs.Rows.{StreamKey}
use Rattle.ing_shard.specs.Contents.{stream_of}

-- the streams that are picked are those of the tenant whose labels these matchers select
abbrev pub Picks : List ℕ → List Match → (StreamKey → Bool) → Type 0
Picks tenant ms picked =
    (t : List ℕ) (m : LabelMap) → IsLabelSet m → picked (stream_of t m) ≡ (bytes_eq t tenant && selects ms m)

-- the numbers of the streams that are picked, in rising order
abbrev pub numbers_of_picked : (StreamKey → Bool) → List StreamKey → List ℕ
numbers_of_picked picked listed = map (λ e. e.0) (filter (λ e. picked e.1) (enumerate_from 0 listed))
