-- Sealing the growing chunk of a stream, in its chunks and in the model's state alike.
use Rattle.std.proofs.Common.{◌≡◌, ◌≢◌, ℕ, ◌+◌, ◌<◌, Bool, true, false, cond, ◌&&◌, List, [], ◌∷◌, ◌++◌, length, map, filter, is_some, is_none, refl, sym, ap, subst, ◌∙◌, arith, Some, None, get_or}
use Rattle.std.specs.Prelude.{Option, All, IsPermutation}
use Rattle.std.proofs.lemmas.List.{map-append}
use Rattle.std.proofs.lemmas.List.Elements.{All-head, All-tail, All-append, All-weaker}
use Rattle.std.proofs.lemmas.List.Sorted.{IsPermutation-refl, IsPermutation-trans, IsPermutation-append_comm, IsPermutation-append_left, IsPermutation-to_front}
use Rattle.ing_rows.specs.declared.place.Place.TheVariants.{Head, Block}
use Rattle.ing_rows.specs.declared.place.SealReason.{SealReason}
use Rattle.ing_rows.specs.Rows.{StreamKey, Row, Mark, is_head}
use Rattle.ing_rows.specs.Events.{sealed_count}
use Rattle.ing_rows.specs.Steps.{given, moved, seal_of, is_sealed_now, seal_mark, Seals}
use Rattle.ing_chunk.specs.declared.numbered.Numbered.{Numbered}
use Rattle.ing_chunk.specs.Chunks.{ChunkContents, ChunksContents, count_in, row_in, block_rows, head_rows, mark_of, chunks_state, growing_state, stream_state, chunk_to_grow, closes, Closes, SealsGrowing, AreChunks, Waits, Grows, GrowsIfAny, starts_in, in_blocks, Covers}
use Rattle.ing_chunk.specs.Parts.{AreParts}
use Rattle.std.proofs.lemmas.Bool.{and_right}
use Rattle.ing_chunk.proofs.Added.{some_grows}
use Rattle.ing_chunk.proofs.Covered.{covers_closed, some_blocks, count_small}
use Rattle.ing_chunk.proofs.Sums.{block_count-more, block_starts-more}
use Rattle.ing_chunk.proofs.Turned.{all_closed, all_mark, all_marks, all_placed, all_waiting, head_row, to_block, filter-none, map-all, map-none}
use Rattle.ing_chunk.proofs.Followed.{closed_rows, waiting-more}
use Rattle.ing_chunk.proofs.Taken.{one_waits}

-- ---- a closed head

pub record IsClosed (g mid : ChunkContents) : Type 0 where
  pub same : mid ≡ record g { blocks = mid.blocks; head = [] }
  pub count : count_in mid ≡ count_in g
  pub begins : starts_in mid ≡ starts_in g
  pub some : 0 < count_in g → mid.blocks ≢ []
  pub parts : Covers g → AreParts mid.first mid.blocks
  pub rows : (s : StreamKey) → IsPermutation (block_rows s g.first 0 mid.blocks) (map to_block (head_rows s g) ++ block_rows s g.first 0 g.blocks)

pub closes_is : (g mid : ChunkContents) → Closes g mid → IsClosed g mid
closes_is g mid h = of_head g.head refl h where
  of_head : (es : List Numbered) → g.head ≡ es → closes es g mid → IsClosed g mid
  of_head [] none same =
      subst (IsClosed g) (sym same) (record {
        same = λ i. record g { head = none i };
        count = refl;
        begins = refl;
        some = λ some empty. absurd (omega (arith, some, ap length none, ap (λ bs. length (in_blocks bs)) empty));
        parts = λ covers. covers.parts;
        rows = λ s. subst (λ l. IsPermutation (block_rows s g.first 0 g.blocks) (map to_block (map (row_in s g.first (length g.blocks) Head) l) ++ block_rows s g.first 0 g.blocks)) (sym none) (IsPermutation-refl (block_rows s g.first 0 g.blocks));
      })
  of_head (e ∷ es) some (block, moves, is) =
      subst (IsClosed g) (sym is) (record {
        same = refl;
        count = omega (arith, block_count-more g.blocks g.head block moves);
        begins = omega (arith, block_starts-more g.blocks g.head block moves g.first);
        some = λ _. some_blocks g.blocks block;
        parts = λ covers. (covers_closed block g covers (omega (arith, ap length some)) moves).parts;
        rows = λ s. closed_rows s g.first g.blocks block g.head (head_rows s g) (block_rows s g.first 0 g.blocks) moves (IsPermutation-refl (head_rows s g)) (IsPermutation-refl (block_rows s g.first 0 g.blocks));
      })

-- ---- what holds of chunks is kept

module _ (why : SealReason) (c d : ChunksContents) (good : AreChunks c) (seals : SealsGrowing why c d) where
  closed : IsClosed seals.chunk seals.sealed.0
  closed = closes_is seals.chunk seals.sealed.0 seals.sealed.1

  grown : Grows c.next seals.chunk
  grown = subst (GrowsIfAny c.next) seals.grows good.growing

  pub sealed_is : d ≡ record { next = c.next; waiting = c.waiting ++ record seals.sealed.0 { reason = Some why } ∷ []; growing = None }
  sealed_is = seals.is ∙ ap (λ x. record { next = c.next; waiting = c.waiting ++ x ∷ []; growing = None }) seals.sealed.2

  pub count_sealed : seals.chunk.first + count_in seals.sealed.0 ≡ c.next
  count_sealed = omega (arith, closed.count, grown.up_to)

  pub chunks_sealed : AreChunks d
  chunks_sealed =
      let first = ap (λ (x : ChunkContents). x.first) closed.same in
      subst AreChunks (sym sealed_is)
      (one_waits c good c.next (record seals.sealed.0 { reason = Some why }) (first ∙ sym (ap (λ (x : ChunkContents). x.first) (some_grows c seals.chunk seals.grows))) (omega (arith, first, count_sealed)) (omega (arith, closed.count, grown.some)) good.few
      refl (ap (λ (x : ChunkContents). x.head) closed.same) (closed.some grown.some) (closed.parts grown.covers) (omega (arith, closed.count, count_small seals.chunk, grown.small)) (closed.begins ∙ grown.begins))

-- ---- marks that have no reason to be sealed

module _ (f : Mark → Option SealReason) where
  pub quiet_now : (ms : List Mark) (r : Row) → All (λ m. seal_of f m ≡ None) ms → is_sealed_now f ms r ≡ false
  quiet_now [] r h = refl
  quiet_now (m ∷ ms) r h = grind (arith, ap is_some (All-head (λ (m : Mark). seal_of f m ≡ None) m ms h), quiet_now ms r (All-tail (λ (m : Mark). seal_of f m ≡ None) m ms h))

  pub quiet_marks : (ms : List Mark) → All (λ m. seal_of f m ≡ None) ms → map (seal_mark f) ms ≡ ms
  quiet_marks [] h = refl
  quiet_marks (m ∷ ms) h =
      λ i. given (All-head (λ (m : Mark). seal_of f m ≡ None) m ms h i) m ∷ quiet_marks ms (All-tail (λ (m : Mark). seal_of f m ≡ None) m ms h) i

  -- none of them is sealed
  pub quiet_count : (ms : List Mark) → All (λ m. seal_of f m ≡ None) ms → sealed_count f ms ≡ 0
  quiet_count ms h = ap length (filter-none (λ m. is_some (seal_of f m)) ms (All-weaker (λ (m : Mark). seal_of f m ≡ None) (λ (m : Mark). is_some (seal_of f m) ≡ false) (λ m none. ap is_some none) ms h))

  pub waiting_quiet : (s : StreamKey) (k : ℕ) (cs : List ChunkContents) → Waits k cs → All (λ m. seal_of f m ≡ None) (chunks_state s cs).marks
  waiting_quiet s k cs h = all_marks (λ (m : Mark). seal_of f m ≡ None) s k cs h (λ c here. ap (λ b. cond b (f (mark_of s c)) None) here.whole.sealed)

-- ---- the growing chunk's mark has a reason

module _ (f : Mark → Option SealReason) (why : SealReason) (c d : ChunksContents) (good : AreChunks c) (seals : SealsGrowing why c d) (s : StreamKey)
    (reason : f (mark_of s seals.chunk) ≡ Some why) where
  abbrev g : ChunkContents
  g = seals.chunk

  abbrev ms : List Mark
  ms = (chunks_state s c.waiting).marks

  abbrev ws : List Row
  ws = (chunks_state s c.waiting).rows

  waits : Waits g.first c.waiting
  waits = subst (λ (x : ChunkContents). Waits x.first c.waiting) (some_grows c g seals.grows) good.waiting

  sealed_mark : seal_of f (mark_of s g) ≡ Some why
  sealed_mark = ap (λ b. cond b (f (mark_of s g)) None) (ap is_none (subst (GrowsIfAny c.next) seals.grows good.growing).open_yet) ∙ reason

  quiet : All (λ m. seal_of f m ≡ None) ms
  quiet = waiting_quiet f s g.first c.waiting waits

  -- the rows in heads of chunks that are sealed now
  abbrev moves : Row → Bool
  moves r = is_head r.place && is_sealed_now f (mark_of s g ∷ ms) r

  heads_move : All (λ r. moves r ≡ true) (head_rows s g)
  heads_move =
      all_placed (λ (r : Row). moves r ≡ true) s g.first (length g.blocks) Head
      (λ e. ap (λ b. cond b (is_some (seal_of f (mark_of s g))) (is_sealed_now f ms (row_in s g.first (length g.blocks) Head e))) (head_row s g.first (length g.blocks) e).chunk ∙ ap is_some sealed_mark) g.head

  rows_moved : moved moves Block ((head_rows s g ++ block_rows s g.first 0 g.blocks) ++ ws) ≡ (map to_block (head_rows s g) ++ block_rows s g.first 0 g.blocks) ++ ws
  rows_moved =
      map-append (λ r. cond (moves r) (to_block r) r) (head_rows s g ++ block_rows s g.first 0 g.blocks) ws
      ∙ (λ i. (map-append (λ r. cond (moves r) (to_block r) r) (head_rows s g) (block_rows s g.first 0 g.blocks)
      ∙ (λ j. map-all moves to_block (head_rows s g) heads_move j ++ map-none moves to_block (block_rows s g.first 0 g.blocks) (all_closed (λ (r : Row). moves r ≡ false) s g.first 0 (λ i e. refl) g.blocks) j)) i
      ++ map-none moves to_block ws (all_waiting (λ (r : Row). moves r ≡ false) s g.first c.waiting waits (λ w here i e. refl)) i)

  marks_sealed : map (seal_mark f) (mark_of s g ∷ ms) ≡ record (mark_of s g) { reason = Some why } ∷ ms
  marks_sealed = λ i. given (sealed_mark i) (mark_of s g) ∷ quiet_marks f ms quiet i

  -- it is the one that is sealed
  pub one_sealed : sealed_count f (stream_state s c).marks ≡ 1
  one_sealed =
      ap (λ o. sealed_count f ((growing_state s o).marks ++ ms)) seals.grows
      ∙ ap (λ o. length (cond (is_some o) (mark_of s g ∷ filter (λ m. is_some (seal_of f m)) ms) (filter (λ m. is_some (seal_of f m)) ms))) sealed_mark
      ∙ (let rest = quiet_count f ms quiet in omega (arith, rest))

  new_state : stream_state s d ≡ record { rows = ws ++ block_rows s g.first 0 seals.sealed.0.blocks; marks = ms ++ record (mark_of s g) { reason = Some why } ∷ [] }
  new_state =
      ap (stream_state s) (sealed_is why c d good seals)
      ∙ ap (λ (x : ChunkContents). chunks_state s (c.waiting ++ record x { reason = Some why } ∷ [])) (closed why c d good seals).same
      ∙ waiting-more s c.waiting (record g { blocks = seals.sealed.0.blocks; head = []; reason = Some why })

  pub state_sealed : Seals f (stream_state s c) (stream_state s d)
  state_sealed =
      let blocks = block_rows s g.first 0 seals.sealed.0.blocks in
      let moved_rows = map to_block (head_rows s g) ++ block_rows s g.first 0 g.blocks in
      subst (λ o. Seals f (record { rows = (growing_state s o).rows ++ ws; marks = (growing_state s o).marks ++ ms }) (stream_state s d)) (sym seals.grows)
      (subst (Seals f (record { rows = (head_rows s g ++ block_rows s g.first 0 g.blocks) ++ ws; marks = mark_of s g ∷ ms })) (sym new_state) (record {
        rows =
            subst (IsPermutation (ws ++ blocks)) (sym rows_moved)
            (IsPermutation-trans (ws ++ blocks) (blocks ++ ws) (moved_rows ++ ws) (IsPermutation-append_comm ws blocks) (IsPermutation-append_left ws blocks moved_rows ((closed why c d good seals).rows s)));
        marks =
            subst (IsPermutation (ms ++ record (mark_of s g) { reason = Some why } ∷ [])) (sym marks_sealed)
            (IsPermutation-to_front ms (record (mark_of s g) { reason = Some why }));
      }))

-- where no chunk grows, or the one that grows has no reason, nothing is sealed
module _ (f : Mark → Option SealReason) (c : ChunksContents) (good : AreChunks c) (s : StreamKey) (none : (g : ChunkContents) → c.growing ≡ Some g → f (mark_of s g) ≡ None) where
  all_quiet : All (λ m. seal_of f m ≡ None) (stream_state s c).marks
  all_quiet =
      All-append (λ (m : Mark). seal_of f m ≡ None) (growing_state s c.growing).marks (chunks_state s c.waiting).marks
      (all_mark (λ (m : Mark). seal_of f m ≡ None) s c.growing (λ g some. ap (λ b. cond b (f (mark_of s g)) None) (ap is_none (subst (GrowsIfAny c.next) some good.growing).open_yet) ∙ none g some))
      (waiting_quiet f s (chunk_to_grow c).first c.waiting good.waiting)

  pub none_sealed : Seals f (stream_state s c) (stream_state s c)
  none_sealed =
      let st = stream_state s c in
      let stays = map-none (λ r. is_head r.place && is_sealed_now f st.marks r) to_block st.rows (λ i d below. let r = get_or st.rows i d in and_right (is_head r.place) (is_sealed_now f st.marks r) (quiet_now f st.marks r all_quiet)) in
      record {
        rows = subst (IsPermutation st.rows) (sym stays) (IsPermutation-refl st.rows);
        marks = subst (IsPermutation st.marks) (sym (quiet_marks f st.marks all_quiet)) (IsPermutation-refl st.marks);
      }

  pub none_counted : sealed_count f (stream_state s c).marks ≡ 0
  none_counted = quiet_count f (stream_state s c).marks all_quiet
