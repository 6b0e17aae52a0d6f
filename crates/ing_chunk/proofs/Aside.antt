-- Entries that are put into a copy beside the chunks that wait.
use Rattle.std.proofs.Common.{◌≡◌, ℕ, ◌+◌, ◌≤◌, ◌^◌, Bool, true, false, List, [], ◌∷◌, ◌++◌, length, refl, sym, ap, subst, ◌∙◌, arith, append_assoc, length-append, None}
use Rattle.std.specs.Prelude.{All, sum_by}
use Rattle.std.proofs.lemmas.List.Elements.{All-nil, All-head, All-tail}
use Rattle.std.proofs.lemmas.List.Sums.{sum_by_push}
use Rattle.ing_rows.specs.declared.entry.Entry.{Entry}
use Rattle.ing_rows.specs.declared.rules.Rules.{Rules}
use Rattle.ing_chunk.specs.declared.numbered.Numbered.{Numbered}
use Rattle.ing_chunk.specs.Parts.{IsShort}
use Rattle.ing_chunk.specs.Chunks.{ChunkContents, ChunksContents, count_in, with_entry, chunk_to_grow, settled, placed, is_full, is_to_cut, TakesOne, Takes, AreChunks, IsWaiting}
use Rattle.ing_chunk.proofs.Sums.{block_count-more}
use Rattle.ing_chunk.proofs.Taken.{chunks_one, next_of, next_one}

-- with these chunks before those that wait
abbrev pub framed : List ChunkContents → ChunksContents → ChunksContents
framed before c = record c { waiting = before ++ c.waiting }

-- without the chunks that wait
pub alone : (c : ChunksContents) → AreChunks c → AreChunks (record c { waiting = [] })
alone c good = record { growing = good.growing; waiting = All-nil (IsWaiting (chunk_to_grow c).first); in_turn = record { base = (chunk_to_grow c).first; follow = refl }; few = good.few }

-- no chunk
pub nothing : (next : ℕ) → next ≤ 2 ^ 62 → AreChunks (record { next = next; waiting = []; growing = None })
nothing next few = record { growing = tt; waiting = All-nil (IsWaiting next); in_turn = record { base = next; follow = refl }; few = few }

placed_framed : (full cuts : Bool) (block : List Numbered) (g : ChunkContents) (before : List ChunkContents) (c : ChunksContents) → framed before (placed full cuts block g c) ≡ placed full cuts block g (framed before c)
placed_framed true cuts block g before c = ap (λ (l : List ChunkContents). record { next = c.next + 1; waiting = l; growing = (placed true cuts block g c).growing }) (sym (append_assoc before c.waiting (settled true cuts block g ∷ [])))
placed_framed false cuts block g before c = refl

pub takes_framed : (rules : Rules) (now : ℕ) (es : List Entry) (before : List ChunkContents) (c d : ChunksContents) → Takes rules now es c d → Takes rules now es (framed before c) (framed before d)
takes_framed rules now [] before c d takes = ap (framed before) takes
takes_framed rules now (e ∷ es) before c d (mid, one, rest) =
    let g = with_entry e c.next now (chunk_to_grow c) in
    let is = ap (framed before) one.is ∙ placed_framed (is_full rules g) (is_to_cut rules g) one.block g before c in
    (framed before mid, record { block = one.block; reorders = one.reorders; is = is }, takes_framed rules now es before mid d rest)

-- the entries of the chunks that wait come before the first of the chunk that grows
count_one : (rules : Rules) (now : ℕ) (e : Entry) (c d : ChunksContents) → AreChunks c → TakesOne rules now e c d → sum_by count_in d.waiting + (chunk_to_grow c).first ≡ sum_by count_in c.waiting + (chunk_to_grow d).first
count_one rules now e c d good one =
    ap (λ (x : ChunksContents). sum_by count_in x.waiting + (chunk_to_grow c).first) one.is
    ∙ placed_is (is_full rules g) (is_to_cut rules g)
    ∙ ap (λ (x : ChunksContents). sum_by count_in c.waiting + (chunk_to_grow x).first) (sym one.is) where
      g : ChunkContents
      g = with_entry e c.next now (chunk_to_grow c)

      placed_is : (full cuts : Bool) → sum_by count_in (placed full cuts one.block g c).waiting + (chunk_to_grow c).first ≡ sum_by count_in c.waiting + (chunk_to_grow (placed full cuts one.block g c)).first
      placed_is true cuts = omega (arith, sum_by_push count_in c.waiting (settled true cuts one.block g), block_count-more g.blocks g.head one.block one.reorders, length-append (chunk_to_grow c).head (record { number = c.next; entry = e } ∷ []), (next_of c good).up_to)
      placed_is false true = refl
      placed_is false false = refl

pub count_all : (rules : Rules) (now : ℕ) (es : List Entry) (c d : ChunksContents) → AreChunks c → c.next + length es ≤ 2 ^ 62 → rules.chunk_target_size ≤ 2 ^ 30 → All IsShort es → Takes rules now es c d → sum_by count_in d.waiting + (chunk_to_grow c).first ≡ sum_by count_in c.waiting + (chunk_to_grow d).first
count_all rules now [] c d good room target short takes = ap (λ (x : ChunksContents). sum_by count_in x.waiting + (chunk_to_grow c).first) takes ∙ ap (λ (x : ChunksContents). sum_by count_in c.waiting + (chunk_to_grow x).first) (sym takes)
count_all rules now (e ∷ es) c d good room target short (mid, one, rest) =
    let next = next_one rules now e c mid one in
    omega (arith, count_one rules now e c mid good one, count_all rules now es mid d (chunks_one rules now e c mid good (omega arith) target (All-head IsShort e es short) one) (omega arith) target (All-tail IsShort e es short) rest)

pub takes_same : (rules : Rules) (now : ℕ) (es : List Entry) {a b c d : ChunksContents} → a ≡ b → c ≡ d → Takes rules now es a c → Takes rules now es b d
takes_same rules now es {b = b} {c = c} p q h = subst (Takes rules now es b) q (subst (λ x. Takes rules now es x c) p h)
