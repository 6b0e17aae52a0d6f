-- What holds of each state that pushes lead to, whatever the order of its rows and marks.
-- What names no section of the Loki documentation is own.
use Rattle.std.specs.Prelude.{◌≤◌, filter, length}
use Rattle.ing_rows.specs.Rows.{StreamKey, State, count_of}
use Rattle.ing_rows.specs.Gauges.{StandsOnce}
use Rattle.ing_rows.specs.Steps.{is_growing}

-- each number below a stream's count is that of one row of it, and at most one chunk of a stream grows
pub record IsSound (st : State) : Type 0 where
  pub once : (s : StreamKey) → StandsOnce st.rows s (count_of st.rows s)
  pub one_growing : (s : StreamKey) → length (filter (is_growing s) st.marks) ≤ 1
