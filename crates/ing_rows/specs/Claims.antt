-- Which chunks wait to be claimed, by their marks.
-- What names no section of the Loki documentation is own.
use Rattle.std.specs.Prelude.{ℕ, Bool, not, ◌&&◌, ◌==◌, List, filter, length, is_some}
use Rattle.ing_rows.specs.Rows.{StreamKey, Row, Mark, State, same_stream, is_block, is_of_chunk}

-- how many rows of a chunk stand elsewhere than in closed blocks
abbrev pub count_outside : StreamKey → ℕ → List Row → ℕ
count_outside s chunk rows = length (filter (λ r. is_of_chunk s chunk r && not (is_block r.place)) rows)

-- the mark is that of a sealed chunk of the stream, all of whose rows stand in closed blocks
abbrev pub is_claimable : StreamKey → State → Mark → Bool
is_claimable s st m = same_stream m.stream s && is_some m.reason && (count_outside s m.chunk st.rows == 0)

-- how many chunks of the stream can be claimed
abbrev pub claimable_count : StreamKey → State → ℕ
claimable_count s st = length (filter (is_claimable s st) st.marks)
