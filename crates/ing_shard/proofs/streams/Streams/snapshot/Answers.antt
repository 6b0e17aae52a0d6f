use Rattle.std.proofs.Common.{◌≡◌, [], ◌++◌, List, map, ap, ◌∙◌, subst}
use Rattle.std.proofs.lemmas.List.Sorted.{IsPermutation-map}
use Rattle.ing_rows.specs.Rows.{Row}
use Rattle.ing_parts.specs.Parts.{AddsRows, asked, found_at, is_within, standing, wanted, found_among, within}
use Rattle.ing_parts.specs.Questions.{question_view}
use Rattle.ing_shard.specs.Snapshots.{in_turn, rows_at}
use Rattle.ing_shard.proofs.SnapshotLaws.{has_rows, picked_rows, rows_in_turn}
use Rattle.ing_shard.proofs.streams.Streams.snapshot.Goals as goal

pub returns-clause-range : goal.returns-clause-range
returns-clause-range g c = λ f. ap (λ q. is_within (question_view q) f) c.in_ok-add_streams.ensures.question ∙ c.new-snapshot.ensures.range f

pub returns-clause-rows : goal.returns-clause-rows
returns-clause-rows g c = λ picked picks.
    let sts = c.args.self.now.list.items in
    let order = c.args.question.order in
    let empty = c.new-snapshot.result in
    let new = c.add_streams.new.snapshot in
    let none : wanted empty ≡ [] = (λ i. (c.new-snapshot.ensures.best i).held ++ within (asked empty) (found_among (c.new-snapshot.ensures.parts i))) in
    let bare : standing empty ≡ [] = (λ i. (c.new-snapshot.ensures.best i).held ++ found_among (c.new-snapshot.ensures.parts i)) in
    let found = c.in_ok-numbers.numbers.items in
    let turned = subst (λ ns. AddsRows (rows_at sts ns) empty new) (c.as_slice.ensures.value ∙ c.put_in_turn.ensures) c.in_ok-add_streams.ensures in
    let all : AddsRows (rows_at sts found) empty new =
    c.rows_join.ensures.of (map found_at (rows_at sts (in_turn order found))) (rows_at sts found) empty new
    (IsPermutation-map found_at (rows_at sts found) (rows_at sts (in_turn order found)) (rows_in_turn sts order found)) turned in
    has_rows _ empty new bare none
    (subst (λ (l : List Row). AddsRows l empty new) (ap (rows_at sts) (c.in_ok-numbers.ensures.found picked picks) ∙ picked_rows picked sts) all)
