-- Accepted entries, put into the chunks of their stream one after another.
use Rattle.std.proofs.Common.{◌≡◌, ◌≢◌, ℕ, ◌+◌, ◌<◌, ◌≤◌, ◌^◌, Bool, true, false, List, [], ◌∷◌, ◌++◌, length, is_none, refl, sym, ap, subst, ◌∙◌, arith, Some, None, length-append, cond, min, nat_eq}
use Rattle.std.proofs.lemmas.Bool.Decides.{nat_tests}
use Rattle.std.proofs.lemmas.List.Sums.{sum_by_push}
use Rattle.std.specs.Prelude.{Option, All, IsPermutation}
use Rattle.std.specs.Option.{unwrap_or}
use Rattle.std.proofs.lemmas.List.Elements.{All-nil, All-head, All-tail, All-weaker, All-push}
use Rattle.std.proofs.lemmas.List.Sorted.{IsPermutation-refl, IsPermutation-append}
use Rattle.ing_rows.specs.declared.entry.Entry.{Entry}
use Rattle.ing_rows.specs.declared.place.SealReason.TheVariants.{Full}
use Rattle.ing_rows.specs.declared.rules.Rules.{Rules}
use Rattle.ing_rows.specs.Rows.{StreamKey, State, IsSame}
use Rattle.ing_rows.specs.Steps.{accepted_as, accepted_in_turn}
use Rattle.ing_chunk.specs.declared.numbered.Numbered.{Numbered}
use Rattle.ing_chunk.specs.Chunks.{ChunkContents, ChunksContents, size_of_chunk, count_in, block_rows, head_rows, chunks_state, growing_state, stream_state, with_entry, with_block, chunk_to_grow, empty_chunk, placed, TakesOne, Takes, AreBlocks, AreChunks, is_full, is_to_cut, IsWaiting, Waits, GrowsIfAny, starts_in, Covers, Follow}
use Rattle.ing_chunk.specs.Parts.{AreParts, IsShort}
use Rattle.ing_chunk.proofs.Covered.{covers_more, covers_closed, some_blocks, count_small, follow_push}
use Rattle.ing_chunk.proofs.Sums.{block_size-more, block_count-more, block_starts-more, blocks-more}
use Rattle.ing_chunk.proofs.Turned.{rows_apart}
use Rattle.ing_chunk.proofs.Followed.{Reads, all_blocks, reads_one}

-- ---- what holds of chunks is kept

-- the chunk that the next entry goes to
pub record Next (c : ChunksContents) (g : ChunkContents) : Type 0 where
  pub open_yet : g.reason ≡ None
  pub up_to : g.first + count_in g ≡ c.next
  pub blocks : AreBlocks g.blocks
  pub begins : starts_in g ≡ min 1 (count_in g)
  pub covers : Covers g
  pub small : size_of_chunk g < 2 ^ 30

pub next_of : (c : ChunksContents) → AreChunks c → Next c (chunk_to_grow c)
next_of c good = of_growing c.growing good.growing where
  of_growing : (o : Option ChunkContents) → GrowsIfAny c.next o → Next c (unwrap_or o (empty_chunk c.next))
  of_growing None h = record { open_yet = refl; up_to = omega arith; blocks = All-nil (λ (b : List Numbered). b ≢ []); begins = omega arith; covers = record { parts = tt; head = tt }; small = omega arith }
  of_growing (Some g) h = record { open_yet = h.open_yet; up_to = h.up_to; blocks = h.blocks; begins = omega (arith, h.begins, h.some); covers = h.covers; small = h.small }

pub waits_longer : (first later : ℕ) (cs : List ChunkContents) → first ≤ later → Waits first cs → Waits later cs
waits_longer first later cs h all = All-weaker (IsWaiting first) (IsWaiting later) (λ w x. record { older = omega (arith, x.older); whole = x.whole; begins = x.begins }) cs all

-- one more whole chunk waits, and none grows
pub one_waits : (c : ChunksContents) → AreChunks c → (next : ℕ) (done : ChunkContents) → done.first ≡ (chunk_to_grow c).first → done.first + count_in done ≡ next → 0 < count_in done → next ≤ 2 ^ 62 → is_none done.reason ≡ false → done.head ≡ [] → done.blocks ≢ [] → AreParts done.first done.blocks → count_in done < 2 ^ 32 → starts_in done ≡ 1
    → AreChunks (record { next = next; waiting = c.waiting ++ done ∷ []; growing = None })
one_waits c good next done first to some small sealed closed blocks parts few begins = record {
  growing = tt;
  waiting =
      All-push (IsWaiting next) c.waiting done (waits_longer (chunk_to_grow c).first next c.waiting (omega arith) good.waiting)
      (record { older = omega arith; whole = record { sealed = sealed; closed = closed; some = blocks; parts = parts; few = few; last = omega arith }; begins = begins });
  in_turn = record {
    base = good.in_turn.base;
    follow = subst (λ n. Follow good.in_turn.base n (c.waiting ++ done ∷ [])) (omega arith) (follow_push good.in_turn.base (chunk_to_grow c).first c.waiting done good.in_turn.follow first);
  };
  few = small;
}

placed_next : (full cuts : Bool) (block : List Numbered) (g : ChunkContents) (c : ChunksContents) → (placed full cuts block g c).next ≡ c.next + 1
placed_next true cuts block g c = refl
placed_next false cuts block g c = refl

pub next_one : (rules : Rules) (now : ℕ) (e : Entry) (c d : ChunksContents) → TakesOne rules now e c d → d.next ≡ c.next + 1
next_one rules now e c d takes =
    let g = with_entry e c.next now (chunk_to_grow c) in
    ap (λ (x : ChunksContents). x.next) takes.is ∙ placed_next (is_full rules g) (is_to_cut rules g) takes.block g c

module _ (e : Entry) (now : ℕ) (c : ChunksContents) (good : AreChunks c) (room : c.next < 2 ^ 62) (short : IsShort e) (block : List Numbered)
    (moved : IsPermutation (with_entry e c.next now (chunk_to_grow c)).head block) where
  abbrev g : ChunkContents
  g = with_entry e c.next now (chunk_to_grow c)

  known : Next c (chunk_to_grow c)
  known = next_of c good

  more : length g.head ≡ length (chunk_to_grow c).head + 1
  more = length-append (chunk_to_grow c).head (record { number = c.next; entry = e } ∷ [])

  -- the first number is that of the first entry alone
  begins : starts_in g ≡ 1
  begins =
      grind (arith, nat_tests, known.up_to, known.begins, sum_by_push (λ (x : Numbered). cond (nat_eq x.number (chunk_to_grow c).first) 1 0) (chunk_to_grow c).head (record { number = c.next; entry = e }))

  begins_closed : starts_in (with_block block g) ≡ 1
  begins_closed = omega (arith, begins, block_starts-more g.blocks g.head block moved g.first)

  covers : Covers g
  covers = covers_more e c.next now (chunk_to_grow c) known.covers known.up_to short

  covers_with : Covers (with_block block g)
  covers_with = covers_closed block g covers (omega (arith, more)) moved

  placed_chunks : (full cuts : Bool) → (full ≡ false → size_of_chunk g < 2 ^ 30) → AreChunks (placed full cuts block g c)
  placed_chunks true cuts small =
      let done : ChunkContents = record (with_block block g) { reason = Some Full } in
      let to : done.first + count_in done ≡ c.next + 1 = omega (arith, block_count-more g.blocks g.head block moved, more, known.up_to) in
      one_waits c good (c.next + 1) done refl to (omega (arith, to, known.up_to)) (omega arith) refl refl (some_blocks g.blocks block) covers_with.parts (omega (arith, to, known.up_to, known.small, count_small (chunk_to_grow c))) begins_closed
  placed_chunks false true small =
      let many = block_count-more g.blocks g.head block moved in
      record {
        growing = record {
          open_yet = known.open_yet;
          some = omega (arith, many, more);
          up_to = omega (arith, many, more, known.up_to);
          blocks = blocks-more g.blocks g.head block moved (omega (arith, more)) known.blocks;
          begins = begins_closed;
          covers = covers_with;
          small = omega (arith, block_size-more g.blocks g.head block moved, small refl);
        };
        waiting = good.waiting;
        in_turn = good.in_turn;
        few = omega arith;
      }
  placed_chunks false false small =
      record {
        growing = record {
          open_yet = known.open_yet;
          some = omega (arith, more);
          up_to = omega (arith, more, known.up_to);
          blocks = known.blocks;
          begins = begins;
          covers = covers;
          small = small refl;
        };
        waiting = good.waiting;
        in_turn = good.in_turn;
        few = omega arith;
      }

pub chunks_one : (rules : Rules) (now : ℕ) (e : Entry) (c d : ChunksContents) → AreChunks c → c.next < 2 ^ 62 → rules.chunk_target_size ≤ 2 ^ 30 → IsShort e → TakesOne rules now e c d → AreChunks d
chunks_one rules now e c d good room target short takes =
    let g = with_entry e c.next now (chunk_to_grow c) in
    subst AreChunks (sym takes.is) (placed_chunks e now c good room short takes.block takes.reorders (is_full rules g) (is_to_cut rules g) (λ below. grind (arith, nat_tests, target, below)))

-- ---- the state follows

reads_start : (s : StreamKey) (c : ChunksContents) → AreChunks c → Reads s c (stream_state s c)
reads_start s c good = record {
  h = head_rows s (chunk_to_grow c);
  b = block_rows s (chunk_to_grow c).first 0 (chunk_to_grow c).blocks;
  w = (chunks_state s c.waiting).rows;
  m = (chunks_state s c.waiting).marks;
  rows = rows_apart s c;
  marks = refl;
  heads = IsPermutation-refl (head_rows s (chunk_to_grow c));
  blocks = IsPermutation-refl (block_rows s (chunk_to_grow c).first 0 (chunk_to_grow c).blocks);
  others = IsPermutation-refl (chunks_state s c.waiting).rows;
  sealed = IsPermutation-refl (chunks_state s c.waiting).marks;
  many = all_blocks s (chunk_to_grow c).first (chunk_to_grow c).blocks (next_of c good).blocks;
}

reads_same : (s : StreamKey) (c : ChunksContents) (st : State) → Reads s c st → IsSame (stream_state s c) st
reads_same s c st reads = record {
  rows =
      subst (λ l. IsPermutation l st.rows) (sym (rows_apart s c))
      (subst (IsPermutation (head_rows s (chunk_to_grow c) ++ (block_rows s (chunk_to_grow c).first 0 (chunk_to_grow c).blocks ++ (chunks_state s c.waiting).rows))) (sym reads.rows)
      (IsPermutation-append (head_rows s (chunk_to_grow c)) reads.h (block_rows s (chunk_to_grow c).first 0 (chunk_to_grow c).blocks ++ (chunks_state s c.waiting).rows) (reads.b ++ reads.w) reads.heads
      (IsPermutation-append (block_rows s (chunk_to_grow c).first 0 (chunk_to_grow c).blocks) reads.b (chunks_state s c.waiting).rows reads.w reads.blocks reads.others)));
  marks =
      subst (IsPermutation ((growing_state s c.growing).marks ++ (chunks_state s c.waiting).marks)) (sym reads.marks)
      (IsPermutation-append (growing_state s c.growing).marks (growing_state s c.growing).marks (chunks_state s c.waiting).marks reads.m (IsPermutation-refl (growing_state s c.growing).marks) reads.sealed);
}

reads_all : (rules : Rules) (s : StreamKey) (now : ℕ) (es : List Entry) (c d : ChunksContents) (st : State) → AreChunks c → c.next + length es ≤ 2 ^ 62 → rules.chunk_target_size ≤ 2 ^ 30 → All IsShort es → Takes rules now es c d → Reads s c st → Reads s d (accepted_in_turn c.next rules s now es st)
reads_all rules s now [] c d st good room target short takes reads = subst (λ x. Reads s x st) (sym takes) reads
reads_all rules s now (e ∷ es) c d st good room target short (mid, one, rest) reads =
    let next = next_one rules now e c mid one in
    subst (λ n. Reads s d (accepted_in_turn n rules s now es (accepted_as c.next rules s e now st))) next
    (reads_all rules s now es mid d (accepted_as c.next rules s e now st) (chunks_one rules now e c mid good (omega arith) target (All-head IsShort e es short) one) (omega arith) target (All-tail IsShort e es short) rest
    (reads_one rules s now e c mid st good one reads))

-- what the chunks show after taking entries is what the model makes of what they showed before
pub taken_is_accepted : (rules : Rules) (now : ℕ) (es : List Entry) (c d : ChunksContents) → AreChunks c → c.next + length es ≤ 2 ^ 62 → rules.chunk_target_size ≤ 2 ^ 30 → All IsShort es → Takes rules now es c d → (s : StreamKey) → IsSame (stream_state s d) (accepted_in_turn c.next rules s now es (stream_state s c))
taken_is_accepted rules now es c d good room target short takes s = reads_same s d _ (reads_all rules s now es c d (stream_state s c) good room target short takes (reads_start s c good))

pub next_all : (rules : Rules) (now : ℕ) (es : List Entry) (c d : ChunksContents) → Takes rules now es c d → d.next ≡ c.next + length es
next_all rules now [] c d takes = ap (λ (x : ChunksContents). x.next) takes ∙ omega arith
next_all rules now (e ∷ es) c d (mid, one, rest) = omega (arith, next_all rules now es mid d rest, next_one rules now e c mid one)

pub chunks_all : (rules : Rules) (now : ℕ) (es : List Entry) (c d : ChunksContents) → AreChunks c → c.next + length es ≤ 2 ^ 62 → rules.chunk_target_size ≤ 2 ^ 30 → All IsShort es → Takes rules now es c d → AreChunks d
chunks_all rules now [] c d good room target short takes = subst AreChunks (sym takes) good
chunks_all rules now (e ∷ es) c d good room target short (mid, one, rest) =
    let next = next_one rules now e c mid one in
    chunks_all rules now es mid d (chunks_one rules now e c mid good (omega arith) target (All-head IsShort e es short) one) (omega arith) target (All-tail IsShort e es short) rest
