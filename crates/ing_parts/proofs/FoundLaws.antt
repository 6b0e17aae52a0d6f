-- What a query finds of the rows of chunks are their entries.
use Rattle.std.proofs.Common.{◌≡◌, refl, true, ℕ, ◌+◌, List, [], ◌∷◌, ◌++◌, length, map, ap, sym, subst, ◌∙◌, Option, Some, None}
use Rattle.std.specs.Prelude.{IsPermutation}
use Rattle.std.specs.List.{Contains}
use Rattle.std.proofs.lemmas.List.{map-append}
use Rattle.std.proofs.lemmas.List.Elements.{All-contains, All-contains_itself, filter_passes}
use Rattle.std.proofs.lemmas.List.Sorted.{IsPermutation-refl, IsPermutation-sym, IsPermutation-trans, IsPermutation-append, IsPermutation-append_comm}
use Rattle.ing_rows.specs.declared.place.Place.{Place}
use Rattle.ing_rows.specs.declared.place.Place.TheVariants.{Block, Head}
use Rattle.ing_rows.specs.Rows.{StreamKey, Row}
use Rattle.ing_chunk.specs.declared.numbered.Numbered.{Numbered}
use Rattle.ing_chunk.specs.Chunks.{ChunkContents, ChunksContents, block_rows, chunk_state, chunks_state, entries_growing, entries_in_memory, entries_of, entries_of_all, growing_state, head_rows, in_blocks, row_in, stream_state}
use Rattle.ing_parts.specs.declared.found.Found.{Found}
use Rattle.ing_parts.specs.declared.snapshot.Snapshot.{Snapshot}
use Rattle.ing_parts.specs.Parts.{Adds, AddsRows, HasRows, KeepsInRange, RowsAreFound, asked, found_at, found_of, is_within, standing, within}
use Rattle.ing_parts.proofs.RangeLaws.{adds_alike, adds_both}
use Rattle.ing_parts.proofs.SomeLaws.{some_have}

in_block : (s : StreamKey) (first index : ℕ) (place : Place) (es : List Numbered) → map found_at (map (row_in s first index place) es) ≡ map (found_of s.name) es
in_block s first index place [] = refl
in_block s first index place (e ∷ es) = ap (λ l. found_of s.name e ∷ l) (in_block s first index place es)

blocks_found : (s : StreamKey) (first index : ℕ) (bs : List (List Numbered)) → map found_at (block_rows s first index bs) ≡ map (found_of s.name) (in_blocks bs)
blocks_found s first index [] = refl
blocks_found s first index (b ∷ bs) =
    map-append found_at (map (row_in s first index Block) b) (block_rows s first (index + 1) bs)
    ∙ ap (λ l. l ++ map found_at (block_rows s first (index + 1) bs)) (in_block s first index Block b)
    ∙ ap (λ l. map (found_of s.name) b ++ l) (blocks_found s first (index + 1) bs)
    ∙ sym (map-append (found_of s.name) b (in_blocks bs))

-- head and blocks, the other way about
chunk_found : (s : StreamKey) (c : ChunkContents) → IsPermutation (map found_at (chunk_state s c).rows) (map (found_of s.name) (entries_of c))
chunk_found s c =
    let head = map (found_of s.name) c.head in
    let blocks = map (found_of s.name) (in_blocks c.blocks) in
    let from : map found_at (chunk_state s c).rows ≡ head ++ blocks =
    map-append found_at (head_rows s c) (block_rows s c.first 0 c.blocks)
    ∙ ap (λ l. l ++ map found_at (block_rows s c.first 0 c.blocks)) (in_block s c.first (length c.blocks) Head c.head)
    ∙ ap (λ l. head ++ l) (blocks_found s c.first 0 c.blocks) in
    let to : blocks ++ head ≡ map (found_of s.name) (entries_of c) = sym (map-append (found_of s.name) (in_blocks c.blocks) c.head) in
    subst (λ (l : List Found). IsPermutation l (map (found_of s.name) (entries_of c))) (sym from)
    (subst (λ (l : List Found). IsPermutation (head ++ blocks) l) to (IsPermutation-append_comm head blocks))

chunks_found : (s : StreamKey) (cs : List ChunkContents) → IsPermutation (map found_at (chunks_state s cs).rows) (map (found_of s.name) (entries_of_all cs))
chunks_found s [] = IsPermutation-refl []
chunks_found s (c ∷ cs) =
    subst (λ (l : List Found). IsPermutation l (map (found_of s.name) (entries_of c ++ entries_of_all cs))) (sym (map-append found_at (chunk_state s c).rows (chunks_state s cs).rows))
    (subst (λ (l : List Found). IsPermutation (map found_at (chunk_state s c).rows ++ map found_at (chunks_state s cs).rows) l) (sym (map-append (found_of s.name) (entries_of c) (entries_of_all cs)))
    (IsPermutation-append (map found_at (chunk_state s c).rows) (map (found_of s.name) (entries_of c)) (map found_at (chunks_state s cs).rows) (map (found_of s.name) (entries_of_all cs)) (chunk_found s c) (chunks_found s cs)))

growing_found : (s : StreamKey) (g : Option ChunkContents) → IsPermutation (map found_at (growing_state s g).rows) (map (found_of s.name) (entries_growing g))
growing_found s None = IsPermutation-refl []
growing_found s (Some c) = chunk_found s c

memory_found : (s : StreamKey) (c : ChunksContents) → IsPermutation (map found_at (stream_state s c).rows) (map (found_of s.name) (entries_in_memory c))
memory_found s c =
    let growing = map found_at (growing_state s c.growing).rows in
    let waiting = map found_at (chunks_state s c.waiting).rows in
    let grown = map (found_of s.name) (entries_growing c.growing) in
    let waited = map (found_of s.name) (entries_of_all c.waiting) in
    subst (λ (l : List Found). IsPermutation l (map (found_of s.name) (entries_in_memory c))) (sym (map-append found_at (growing_state s c.growing).rows (chunks_state s c.waiting).rows))
    (subst (λ (l : List Found). IsPermutation (growing ++ waiting) l) (sym (map-append (found_of s.name) (entries_of_all c.waiting) (entries_growing c.growing)))
    (IsPermutation-trans (growing ++ waiting) (waiting ++ growing) (waited ++ grown) (IsPermutation-append_comm growing waiting)
    (IsPermutation-append waiting waited growing grown (chunks_found s c.waiting) (growing_found s c.growing))))

pub rows_found : RowsAreFound
rows_found = record { blocks = blocks_found; memory = memory_found }

-- ---- rows that are added one after another

pub rows_both : {R : Type 0} (a b : List Row) (old mid new : Snapshot R) → AddsRows a old mid → AddsRows b mid new → AddsRows (a ++ b) old new
rows_both a b old mid new h k = subst (λ (l : List Found). Adds l old new) (sym (map-append found_at a b)) (adds_both (map found_at a) (map found_at b) old mid new h k)

pub rows_of : {R : Type 0} (all : List Found) (rows : List Row) (old new : Snapshot R) → IsPermutation (map found_at rows) all → Adds all old new → AddsRows rows old new
rows_of all rows old new same h = adds_alike all (map found_at rows) old new (IsPermutation-sym (map found_at rows) all same) h

-- what stands is of the rows
pub rows_among : {R : Type 0} (rows : List Row) (s : Snapshot R) → HasRows rows s → (f : Found) → Contains (standing s) f → Contains (map found_at rows) f
rows_among rows s h f = All-contains (Contains (map found_at rows)) (standing s) f (some_have (Contains (map found_at rows)) (standing s) (map found_at rows) h.drawn (All-contains_itself (map found_at rows)))

-- what is kept of rows is in the range
pub kept_in_range : {R : Type 0} (rows : List Row) (s : Snapshot R) → HasRows rows s → KeepsInRange s
kept_in_range rows s h =
    let test = is_within (asked s) in
    some_have (λ f. test f ≡ true) s.best.held (within (asked s) (map found_at rows)) h.kept (filter_passes test (map found_at rows))
