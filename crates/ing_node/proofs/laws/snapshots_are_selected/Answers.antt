use Rattle.std.proofs.Common.{filter}
use Rattle.ing_rows.specs.Rows.{Row}
use Rattle.ing_node.proofs.Selected.{standing_selected}
use Rattle.ing_node.proofs.laws.snapshots_are_selected.Goals as goal

pub returns : goal.returns
returns g c tenant ms rows s has =
    let picks = c.streams_are_picked.ensures tenant ms in
    (standing_selected tenant ms rows s has, c.rows_stand.ensures.kept (filter (λ (r : Row). picks.0 r.stream) rows) s (has picks.0 picks.1))
