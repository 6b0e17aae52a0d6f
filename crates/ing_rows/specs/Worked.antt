-- Worked values of the definitions.
use Rattle.std.specs.Prelude.{◌≡◌, ℕ, List, [], ◌∷◌, codes, take, length, filter, map, Option, Some, None}
use Rattle.ing_rows.specs.declared.entry.Entry.{Entry}
use Rattle.ing_rows.specs.declared.place.SealReason.{SealReason}
use Rattle.ing_rows.specs.declared.place.SealReason.TheVariants.{Idle, MaxAge}
use Rattle.ing_rows.specs.declared.rules.Rules.{Rules}
use Rattle.ing_rows.specs.declared.verdict.Verdict.TheVariants.{Accepted, Duplicate, TooFarBehind}
use Rattle.ing_rows.specs.Rows.{StreamKey, State, empty_state, rows_of_chunk, is_head}
use Rattle.ing_rows.specs.Steps.{blocks_of, chunk_for, due_of, after_push, verdicts_of}
use Rattle.ing_rows.specs.Gauges.{gauges_of}
use Rattle.ing_rows.specs.Defaults.{defaults}

abbrev pub web : StreamKey
web = record { tenant = codes "t"; name = codes "{app=\"web\"}" }

abbrev pub small : Rules
small = record defaults { chunk_block_size = 40; chunk_target_size = 80 }

abbrev pub at : ℕ → List ℕ → Entry
at stamp line = record { stamp = stamp; line = line }

-- the window goes with the greatest stamp: 8:00, 7:00, just below; then 10:00, 9:00, just below
abbrev pub window_moves_with_greatest_stamp : Type 0
window_moves_with_greatest_stamp =
    verdicts_of defaults web 0 (at 28800000000000 (codes "x") ∷ at 25200000000000 (codes "x") ∷ at 25199999999999 (codes "x") ∷ at 36000000000000 (codes "x") ∷ at 32400000000000 (codes "x") ∷ at 32399999999999 (codes "x") ∷ []) empty_state
    ≡ Accepted 0 ∷ Accepted 1 ∷ TooFarBehind 25200000000000 ∷ Accepted 2 ∷ Accepted 3 ∷ TooFarBehind 32400000000000 ∷ []

-- an entry that equals the last accepted one is a duplicate, and one that equals an earlier one is not
abbrev pub duplicate_of_last_only : Type 0
duplicate_of_last_only =
    (verdicts_of defaults web 0 (at 0 (codes "p") ∷ at 0 (codes "q") ∷ at 0 (codes "q") ∷ []) empty_state ≡ Accepted 0 ∷ Accepted 1 ∷ Duplicate ∷ [])
    × (verdicts_of defaults web 0 (at 7 (codes "A") ∷ at 7 (codes "B") ∷ at 7 (codes "A") ∷ []) empty_state ≡ Accepted 0 ∷ Accepted 1 ∷ Accepted 2 ∷ [])

abbrev pub four_bytes : ℕ → Entry
four_bytes stamp = at stamp (codes "abcd")

abbrev pub first : ℕ → List Entry
first n = take n (four_bytes 1 ∷ four_bytes 2 ∷ four_bytes 3 ∷ four_bytes 4 ∷ four_bytes 5 ∷ [])

abbrev pub after_first : ℕ → State
after_first n = after_push small web 0 (first n) empty_state

-- entries in the head of a chunk, and its closed blocks
abbrev pub shape : State → ℕ → ℕ × ℕ
shape st chunk = let rows = rows_of_chunk web chunk st.rows in (length (filter (λ r. is_head r.place) rows), blocks_of rows)

-- two entries of 20 bytes fill a block, two blocks a chunk, and the next entry begins another
abbrev pub chunks_grow : Type 0
chunks_grow =
    (shape (after_first 1) 0 ≡ (1, 0))
    × (shape (after_first 2) 0 ≡ (0, 1))
    × (shape (after_first 3) 0 ≡ (1, 1))
    × (shape (after_first 4) 0 ≡ (0, 2))
    × (chunk_for (after_first 4) web ≡ 4)
    × (shape (after_first 5) 4 ≡ (1, 0))
    × (gauges_of (after_first 5).rows (codes "t") ≡ record { streams = 1; head = record { entries = 1; bytes = 20 }; block = record { entries = 4; bytes = 80 }; flight = record { entries = 0; bytes = 0 }; stored = record { entries = 0; bytes = 0 } })

-- why chunks are due at a time, after one push at time 1000 of entries with these stamps
abbrev pub due_after : ℕ → List ℕ → List (Option SealReason)
due_after now stamps =
    let st = after_push defaults web 1000 (map (λ stamp. at stamp (codes "x")) stamps) empty_state in
    map (due_of defaults now st.rows) st.marks

-- a chunk is due when nothing came for longer than the idle period, and when its stamps lie further apart than the maximum
-- age; a time before the last update is none
abbrev pub chunks_fall_due : Type 0
chunks_fall_due =
    (due_after 1800000001000 (0 ∷ []) ≡ None ∷ [])
    × (due_after 1800000001001 (0 ∷ []) ≡ Some Idle ∷ [])
    × (due_after 999 (0 ∷ []) ≡ None ∷ [])
    × (due_after 1000 (0 ∷ 7200000000000 ∷ []) ≡ None ∷ [])
    × (due_after 1000 (0 ∷ 7200000000001 ∷ []) ≡ Some MaxAge ∷ [])
