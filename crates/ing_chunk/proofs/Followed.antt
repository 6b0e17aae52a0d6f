-- The model's state follows the chunks of a stream, acceptance by acceptance.
use Rattle.std.proofs.Common.{◌≡◌, ◌≢◌, ℕ, ◌+◌, max, Bool, true, false, cond, List, [], ◌∷◌, ◌++◌, length, map, find, is_none, refl, sym, ap, subst, ◌∙◌, arith, nat_le, append_assoc, append-nil, Some, None, length-append}
use Rattle.std.specs.Prelude.{Option, All, IsPermutation}
use Rattle.std.specs.Option.{option_map, unwrap_or}
use Rattle.std.proofs.lemmas.List.{map-append}
use Rattle.std.proofs.lemmas.List.Folds.{list_any_none}
use Rattle.std.proofs.lemmas.Simd.{map-map}
use Rattle.std.proofs.lemmas.List.Elements.{All-cons, All-head, All-tail, All-weaker}
use Rattle.std.proofs.lemmas.List.Sorted.{IsPermutation-refl, IsPermutation-trans, IsPermutation-map, IsPermutation-cons, IsPermutation-append, IsPermutation-to_front, IsPermutation-append_comm, IsPermutation-sym, All-permutation, sum_by-IsPermutation}
use Rattle.ing_rows.specs.declared.entry.Entry.{Entry}
use Rattle.ing_rows.specs.declared.place.Place.TheVariants.{Head, Block}
use Rattle.ing_rows.specs.declared.place.SealReason.TheVariants.{Full}
use Rattle.ing_rows.specs.declared.rules.Rules.{Rules}
use Rattle.ing_rows.specs.Rows.{StreamKey, Row, Mark, State, size_of, size_of_rows, is_of_chunk, rows_of_chunk}
use Rattle.ing_rows.specs.Steps.{is_growing, blocks_of, chunk_at, marks_at, cut, filled, accepted_as}
use Rattle.ing_chunk.specs.declared.numbered.Numbered.{Numbered}
use Rattle.ing_chunk.specs.Chunks.{ChunkContents, ChunksContents, size_of_entries, size_of_chunk, in_blocks, row_in, block_rows, head_rows, mark_of, chunk_state, chunks_state, growing_state, with_entry, with_block, chunk_to_grow, empty_chunk, placed, taken_with, TakesOne, AreBlocks, AreChunks, GrowsIfAny, is_full, is_to_cut}
use Rattle.ing_chunk.proofs.Sums.{size-append}
use Rattle.ing_chunk.proofs.Turned.{sum_by-map, IsInHead, IsInBlock, IsOther, Apart, to_block, stream_self, nat_self, head_row, all_head, all_block, other_rows, other_marks, not_block, size-rows, chunk_only, ended, finish, find-none, map-none}

-- the model's state is that of the chunks: the rows of the growing chunk's head, of its blocks, and of the other chunks
-- stand one after another, each in whatever order
pub record Reads (s : StreamKey) (c : ChunksContents) (st : State) : Type 0 where
  pub h : List Row
  pub b : List Row
  pub w : List Row
  pub m : List Mark
  pub rows : st.rows ≡ h ++ (b ++ w)
  pub marks : st.marks ≡ (growing_state s c.growing).marks ++ m
  pub heads : IsPermutation (head_rows s (chunk_to_grow c)) h
  pub blocks : IsPermutation (block_rows s (chunk_to_grow c).first 0 (chunk_to_grow c).blocks) b
  pub others : IsPermutation (chunks_state s c.waiting).rows w
  pub sealed : IsPermutation (chunks_state s c.waiting).marks m
  pub many : blocks_of b ≡ length (chunk_to_grow c).blocks

-- ---- where the next entry goes

module _ (s : StreamKey) (k n now : ℕ) (m : List Mark) (others : All (IsOther s k) m) where
  quiet : All (λ q. is_growing s q ≡ false) m
  quiet = All-weaker (IsOther s k) (λ (q : Mark). is_growing s q ≡ false) (λ q x. x.growing) m others

  grows : (g : ChunkContents) → g.reason ≡ None → is_growing s (mark_of s g) ≡ true
  grows g open_yet = rw (stream_self s) (ap is_none open_yet)

  at_chunk : (o : Option ChunkContents) → GrowsIfAny n o → chunk_at s n ((growing_state s o).marks ++ m) ≡ (unwrap_or o (empty_chunk n)).first
  at_chunk None good = ap (λ o. unwrap_or (option_map (λ (q : Mark). q.chunk) o) n) (find-none (is_growing s) m quiet)
  at_chunk (Some g) good = ap (λ t. unwrap_or (option_map (λ (q : Mark). q.chunk) (cond t (Some (mark_of s g)) (find (is_growing s) m))) n) (grows g good.open_yet)

  marks_now : (o : Option ChunkContents) (e : Entry) → GrowsIfAny n o → marks_at s n now ((growing_state s o).marks ++ m) ≡ mark_of s (with_entry e n now (unwrap_or o (empty_chunk n))) ∷ m
  marks_now None e good =
      ap (λ t. cond t (map (λ q. cond (is_growing s q) (record q { last_update = now }) q) m) (record { stream = s; chunk = n; last_update = now; reason = None } ∷ m)) (list_any_none (is_growing s) m quiet)
  marks_now (Some g) e good =
      rw (grows g good.open_yet) (ap (λ l. record (mark_of s g) { last_update = now } ∷ l) (map-none (is_growing s) (λ q. record q { last_update = now }) m quiet))

-- heads have no block
heads_no_blocks : (s : StreamKey) (k index : ℕ) (h b : List Row) → All (IsInHead s k index) h → blocks_of (h ++ b) ≡ blocks_of b
heads_no_blocks s k index [] b all = refl
heads_no_blocks s k index (r ∷ h) b all =
    rw (not_block r.place (All-head (IsInHead s k index) r h all).head) (heads_no_blocks s k index h b (All-tail (IsInHead s k index) r h all))

-- a closed head is one more block
more_blocks : (s : StreamKey) (k index : ℕ) (h b : List Row) → All (IsInHead s k index) h → blocks_of b ≡ index → max (index + 1) (blocks_of (map to_block h ++ b)) ≡ index + 1
more_blocks s k index [] b all many = omega (arith, many)
more_blocks s k index (r ∷ h) b all many = omega (arith, (All-head (IsInHead s k index) r h all).block, more_blocks s k index h b (All-tail (IsInHead s k index) r h all) many)

-- ---- rows and sizes

pub size_of_blocks : (s : StreamKey) (k index : ℕ) (bs : List (List Numbered)) → size_of_rows (block_rows s k index bs) ≡ size_of_entries (in_blocks bs)
size_of_blocks s k index [] = refl
size_of_blocks s k index (b ∷ bs) =
    omega (arith, size-rows (map (row_in s k index Block) b) (block_rows s k (index + 1) bs), sum_by-map (λ (q : Row). size_of q.entry) (row_in s k index Block) b, size_of_blocks s k (index + 1) bs, size-append b (in_blocks bs))

pub block_rows-more : (s : StreamKey) (k index : ℕ) (bs : List (List Numbered)) (b : List Numbered) → block_rows s k index (bs ++ b ∷ []) ≡ block_rows s k index bs ++ map (row_in s k (index + length bs) Block) b
block_rows-more s k index [] b = append-nil (map (row_in s k index Block) b) ∙ ap (λ i. map (row_in s k i Block) b) (omega arith)
block_rows-more s k index (c ∷ bs) b =
    ap (λ l. map (row_in s k index Block) c ++ l) (block_rows-more s k (index + 1) bs b ∙ ap (λ i. block_rows s k (index + 1) bs ++ map (row_in s k i Block) b) (omega arith))
    ∙ sym (append_assoc (map (row_in s k index Block) c) (block_rows s k (index + 1) bs) (map (row_in s k (index + length (c ∷ bs)) Block) b))

blocks_of-block : (s : StreamKey) (k index : ℕ) (b : List Numbered) (rows : List Row) → b ≢ [] → blocks_of (map (row_in s k index Block) b ++ rows) ≡ max (index + 1) (blocks_of rows)
blocks_of-block s k index [] rows some = absurd (some refl)
blocks_of-block s k index (e ∷ []) rows some = refl
blocks_of-block s k index (e ∷ f ∷ b) rows some = omega (arith, blocks_of-block s k index (f ∷ b) rows (λ none. cc))

blocks_of-blocks : (s : StreamKey) (k index : ℕ) (bs : List (List Numbered)) → AreBlocks bs → max index (blocks_of (block_rows s k index bs)) ≡ index + length bs
blocks_of-blocks s k index [] all = omega arith
blocks_of-blocks s k index (b ∷ bs) all =
    let here = blocks_of-block s k index b (block_rows s k (index + 1) bs) (All-head (λ (x : List Numbered). x ≢ []) b bs all) in
    omega (arith, here, blocks_of-blocks s k (index + 1) bs (All-tail (λ (x : List Numbered). x ≢ []) b bs all))

pub all_blocks : (s : StreamKey) (k : ℕ) (bs : List (List Numbered)) → AreBlocks bs → blocks_of (block_rows s k 0 bs) ≡ length bs
all_blocks s k bs all = omega (arith, blocks_of-blocks s k 0 bs all)

-- ---- the chunks that wait, and one more

pub waiting-more : (s : StreamKey) (cs : List ChunkContents) (d : ChunkContents) → chunks_state s (cs ++ d ∷ []) ≡ record { rows = (chunks_state s cs).rows ++ (chunk_state s d).rows; marks = (chunks_state s cs).marks ++ mark_of s d ∷ [] }
waiting-more s [] d = λ i. record { rows = append-nil (chunk_state s d).rows i; marks = mark_of s d ∷ [] }
waiting-more s (c ∷ cs) d = λ i. record {
  rows = (ap (λ l. (chunk_state s c).rows ++ l) (ap (λ (st : State). st.rows) (waiting-more s cs d)) ∙ sym (append_assoc (chunk_state s c).rows (chunks_state s cs).rows (chunk_state s d).rows)) i;
  marks = mark_of s c ∷ (waiting-more s cs d i).marks;
}

-- ---- one acceptance

pub head_mapped : (s : StreamKey) (k index : ℕ) (block head : List Numbered) (h : List Row) → IsPermutation head block → IsPermutation (map (row_in s k index Head) head) h → IsPermutation (map (row_in s k index Block) block) (map to_block h)
head_mapped s k index block head h moved heads =
    IsPermutation-trans (map (row_in s k index Block) block) (map (row_in s k index Block) head) (map to_block h)
    (IsPermutation-map (row_in s k index Block) block head (IsPermutation-sym head block moved))
    (subst (λ l. IsPermutation l (map to_block h)) (map-map to_block (row_in s k index Head) head) (IsPermutation-map to_block (map (row_in s k index Head) head) h heads))

-- the rows of the blocks, with one more block, whose entries stood in the head
pub closed_rows : (s : StreamKey) (k : ℕ) (bs : List (List Numbered)) (block head : List Numbered) (h b : List Row) → IsPermutation head block → IsPermutation (map (row_in s k (length bs) Head) head) h → IsPermutation (block_rows s k 0 bs) b → IsPermutation (block_rows s k 0 (bs ++ block ∷ [])) (map to_block h ++ b)
closed_rows s k bs block head h b moved heads blocks =
    let new = map (row_in s k (length bs) Block) block in
    subst (λ l. IsPermutation l (map to_block h ++ b)) (sym (block_rows-more s k 0 bs block ∙ ap (λ i. block_rows s k 0 bs ++ map (row_in s k i Block) block) (omega arith)))
    (IsPermutation-trans (block_rows s k 0 bs ++ new) (new ++ block_rows s k 0 bs) (map to_block h ++ b) (IsPermutation-append_comm (block_rows s k 0 bs) new)
    (IsPermutation-append new (map to_block h) (block_rows s k 0 bs) b (head_mapped s k (length bs) block head h moved heads) blocks))

module _ (rules : Rules) (s : StreamKey) (now : ℕ) (e : Entry) (c : ChunksContents) (good : AreChunks c) (st : State) (reads : Reads s c st) (block : List Numbered) where
  abbrev g : ChunkContents
  g = chunk_to_grow c

  abbrev k : ℕ
  k = g.first

  abbrev index : ℕ
  index = length g.blocks

  abbrev g' : ChunkContents
  g' = with_entry e c.next now g

  abbrev r : Row
  r = row_in s k index Head (record { number = c.next; entry = e })

  abbrev h' : List Row
  h' = r ∷ reads.h

  others : All (IsOther s k) reads.m
  others = All-permutation (IsOther s k) (chunks_state s c.waiting).marks reads.m reads.sealed (other_marks s k c.waiting good.waiting)

  apart : Apart s k reads.b reads.w reads.m (mark_of s g')
  apart = record {
    blocks = All-permutation (IsInBlock s k) (block_rows s k 0 g.blocks) reads.b reads.blocks (all_block s k 0 g.blocks);
    others = All-permutation (λ (q : Row). is_of_chunk s k q ≡ false) (chunks_state s c.waiting).rows reads.w reads.others (other_rows s k c.waiting good.waiting);
    sealed = others;
    marked = rw (stream_self s) (nat_self k);
  }

  in_heads : All (IsInHead s k index) reads.h
  in_heads = All-permutation (IsInHead s k index) (head_rows s g) reads.h reads.heads (all_head s k index g.head)

  index_is : blocks_of (rows_of_chunk s k (reads.h ++ (reads.b ++ reads.w))) ≡ index
  index_is =
      ap blocks_of (chunk_only rules s k reads.b reads.w reads.m (mark_of s g') apart reads.h (All-weaker (IsInHead s k index) (λ (q : Row). is_of_chunk s k q ≡ true) (λ q x. x.chunk) reads.h in_heads))
      ∙ heads_no_blocks s k index reads.h reads.b in_heads ∙ reads.many

  heads' : IsPermutation (map (row_in s k index Head) g'.head) h'
  heads' =
      subst (λ l. IsPermutation l h') (sym (map-append (row_in s k index Head) g.head (record { number = c.next; entry = e } ∷ [])))
      (IsPermutation-trans (head_rows s g ++ r ∷ []) (r ∷ head_rows s g) h' (IsPermutation-to_front (head_rows s g) r) (IsPermutation-cons r (head_rows s g) reads.h reads.heads))

  head_size : size_of_rows h' ≡ size_of_entries g'.head
  head_size =
      sum_by-IsPermutation (λ (q : Row). size_of q.entry) (map (row_in s k index Head) g'.head) h' heads'
      ∙ sum_by-map (λ (q : Row). size_of q.entry) (row_in s k index Head) g'.head

  block_size : size_of_rows reads.b ≡ size_of_entries (in_blocks g.blocks)
  block_size =
      sum_by-IsPermutation (λ (q : Row). size_of q.entry) (block_rows s k 0 g.blocks) reads.b reads.blocks
      ∙ size_of_blocks s k 0 g.blocks

  abbrev ending : Bool → Bool → List Row → State
  ending = ended rules s k reads.b reads.w reads.m (mark_of s g') apart

  -- the state after the acceptance in chunk `chunk`, under a row with this index, and with these marks
  abbrev placed_in : ℕ → ℕ → List Mark → State
  placed_in chunk index marks = filled rules s chunk (cut rules s chunk (record { rows = record { stream = s; number = c.next; entry = e; chunk = chunk; block = index; place = Head } ∷ reads.h ++ (reads.b ++ reads.w); marks = marks }))

  accepted_is : accepted_as c.next rules s e now st ≡ ending (nat_le rules.chunk_target_size (size_of_chunk g')) (nat_le rules.chunk_block_size (size_of_entries g'.head)) h'
  accepted_is =
      ap (accepted_as c.next rules s e now) {x = st} {y = record { rows = reads.h ++ (reads.b ++ reads.w); marks = (growing_state s c.growing).marks ++ reads.m }} (λ i. record { rows = reads.rows i; marks = reads.marks i })
      ∙ ap (λ chunk. placed_in chunk (blocks_of (rows_of_chunk s chunk (reads.h ++ (reads.b ++ reads.w)))) (marks_at s c.next now ((growing_state s c.growing).marks ++ reads.m))) (at_chunk s k c.next now reads.m others c.growing good.growing)
      ∙ ap (λ i. placed_in k i (marks_at s c.next now ((growing_state s c.growing).marks ++ reads.m))) index_is
      ∙ ap (placed_in k index) (marks_now s k c.next now reads.m others c.growing e good.growing)
      ∙ finish rules s k reads.b reads.w reads.m (mark_of s g') apart index h' (All-cons (IsInHead s k index) r reads.h (head_row s k index (record { number = c.next; entry = e })) in_heads)
      ∙ ap (λ n. ending (nat_le rules.chunk_target_size (n + size_of_rows reads.b)) (nat_le rules.chunk_block_size n) h') head_size
      ∙ ap (λ n. ending (nat_le rules.chunk_target_size (size_of_entries g'.head + n)) (nat_le rules.chunk_block_size (size_of_entries g'.head)) h') block_size

  module _ (moved : IsPermutation g'.head block) where
    block_rows' : IsPermutation (block_rows s k 0 (g.blocks ++ block ∷ [])) (map to_block h' ++ reads.b)
    block_rows' = closed_rows s k g.blocks block g'.head h' reads.b moved heads' reads.blocks

    reads_placed : (full cuts : Bool) → Reads s (placed full cuts block g' c) (ending full cuts h')
    reads_placed true cuts = record {
      h = [];
      b = [];
      w = map to_block h' ++ (reads.b ++ reads.w);
      m = record (mark_of s g') { reason = Some Full } ∷ reads.m;
      rows = refl;
      marks = refl;
      heads = IsPermutation-refl [];
      blocks = IsPermutation-refl [];
      others =
          subst (λ (x : State). IsPermutation x.rows (map to_block h' ++ (reads.b ++ reads.w))) (sym (waiting-more s c.waiting (record (with_block block g') { reason = Some Full })))
          (subst (λ l. IsPermutation ((chunks_state s c.waiting).rows ++ block_rows s k 0 (g.blocks ++ block ∷ [])) l) (append_assoc (map to_block h') reads.b reads.w)
          (IsPermutation-trans ((chunks_state s c.waiting).rows ++ block_rows s k 0 (g.blocks ++ block ∷ [])) (block_rows s k 0 (g.blocks ++ block ∷ []) ++ (chunks_state s c.waiting).rows) ((map to_block h' ++ reads.b) ++ reads.w)
          (IsPermutation-append_comm (chunks_state s c.waiting).rows (block_rows s k 0 (g.blocks ++ block ∷ [])))
          (IsPermutation-append (block_rows s k 0 (g.blocks ++ block ∷ [])) (map to_block h' ++ reads.b) (chunks_state s c.waiting).rows reads.w block_rows' reads.others)));
      sealed =
          subst (λ (x : State). IsPermutation x.marks (record (mark_of s g') { reason = Some Full } ∷ reads.m)) (sym (waiting-more s c.waiting (record (with_block block g') { reason = Some Full })))
          (IsPermutation-trans ((chunks_state s c.waiting).marks ++ record (mark_of s g') { reason = Some Full } ∷ []) (record (mark_of s g') { reason = Some Full } ∷ (chunks_state s c.waiting).marks) (record (mark_of s g') { reason = Some Full } ∷ reads.m)
          (IsPermutation-to_front (chunks_state s c.waiting).marks (record (mark_of s g') { reason = Some Full }))
          (IsPermutation-cons (record (mark_of s g') { reason = Some Full }) (chunks_state s c.waiting).marks reads.m reads.sealed));
      many = refl;
    }
    reads_placed false true = record {
      h = [];
      b = map to_block h' ++ reads.b;
      w = reads.w;
      m = reads.m;
      rows = sym (append_assoc (map to_block h') reads.b reads.w);
      marks = refl;
      heads = IsPermutation-refl [];
      blocks = block_rows';
      others = reads.others;
      sealed = reads.sealed;
      many = more_blocks s k index reads.h reads.b in_heads reads.many ∙ sym (length-append g.blocks (block ∷ []));
    }
    reads_placed false false = record {
      h = h';
      b = reads.b;
      w = reads.w;
      m = reads.m;
      rows = refl;
      marks = refl;
      heads = heads';
      blocks = reads.blocks;
      others = reads.others;
      sealed = reads.sealed;
      many = reads.many;
    }

pub reads_one : (rules : Rules) (s : StreamKey) (now : ℕ) (e : Entry) (c d : ChunksContents) (st : State) → AreChunks c → TakesOne rules now e c d → Reads s c st → Reads s d (accepted_as c.next rules s e now st)
reads_one rules s now e c d st good takes reads =
    let g = with_entry e c.next now (chunk_to_grow c) in
    subst (λ x. Reads s x (accepted_as c.next rules s e now st)) (sym takes.is)
    (subst (Reads s (taken_with takes.block rules now e c)) (sym (accepted_is rules s now e c good st reads takes.block))
    (reads_placed rules s now e c good st reads takes.block takes.reorders (is_full rules g) (is_to_cut rules g)))
