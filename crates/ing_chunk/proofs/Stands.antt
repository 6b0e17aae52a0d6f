-- Chunks of a stream that can stand, and what is kept beside those that wait, as they change.
use Rattle.std.proofs.Common.{◌≡◌, ℕ, ◌+◌, ◌*◌, ◌<◌, ◌≤◌, ◌^◌, List, [], ◌∷◌, ◌++◌, length, true, false, Some, None, refl, sym, ap, subst, ◌∙◌, arith, append-nil}
use Rattle.std.specs.Prelude.{All, is_some, sum_by, vec_len, vec_capacity}
use Rattle.std.proofs.lemmas.List.Elements.{All-cons, All-nil}
use Rattle.std.proofs.lemmas.List.Sums.{sum_by-append, sum_by-cons, sum_by_push}
use Rattle.ing_rows.specs.declared.entry.Entry.{Entry}
use Rattle.ing_rows.specs.declared.place.SealReason.{SealReason}
use Rattle.ing_rows.specs.declared.rules.Rules.{Rules}
use Rattle.ing_chunk.specs.declared.chunks.Chunks.TheInside.{Inside}
use Rattle.ing_chunk.specs.Behind.{CanStand}
use Rattle.ing_chunk.specs.Chunks.{ChunkContents, ChunksContents, AreChunks, Fits, SealsGrowing, Settles, Takes, TakesOne, chunk_to_grow, count_in, is_full, numbered_from, size_of_all, size_of_chunk, size_of_entries, with_entry, with_run}
use Rattle.ing_chunk.specs.KeptChunks.{AreKept, chunks_of}
use Rattle.ing_chunk.specs.Parts.{IsShort}
use Rattle.ing_chunk.proofs.Added.{some_grows, takes_settled, takes_run}
use Rattle.ing_chunk.proofs.Aside.{count_all, framed, takes_framed, takes_same}
use Rattle.ing_chunk.proofs.Sealed.{chunks_sealed, count_sealed, sealed_is}
use Rattle.ing_chunk.proofs.Taken.{chunks_all, next_of}

pub can_stand : (a : Inside) → AreKept a → CanStand (chunks_of a)
can_stand a kept = record { chunks = kept.chunks; few = omega (arith, kept.few, kept.count) }

pub stands_all : (rules : Rules) (now : ℕ) (es : List Entry) (c d : ChunksContents) → CanStand c → c.next + length es ≤ 2 ^ 62 → rules.chunk_target_size ≤ 2 ^ 30 → All IsShort es → Takes rules now es c d → CanStand d
stands_all rules now es c d stands room target short takes = record {
  chunks = chunks_all rules now es c d stands.chunks room target short takes;
  few = omega (arith, count_all rules now es c d stands.chunks room target short takes, stands.few);
}

-- the entries of the chunks that wait come before the first of the chunk that grows, after a seal too
pub balance_sealed : (why : SealReason) (c d : ChunksContents) → AreChunks c → SealsGrowing why c d → sum_by count_in d.waiting + (chunk_to_grow c).first ≡ sum_by count_in c.waiting + (chunk_to_grow d).first
balance_sealed why c d good seals =
    ap (λ (x : ChunksContents). sum_by count_in x.waiting + (chunk_to_grow c).first) (sealed_is why c d good seals)
    ∙ omega (arith, sum_by_push count_in c.waiting (record seals.sealed.0 { reason = Some why }), count_sealed why c d good seals, ap (λ (x : ChunkContents). x.first) (some_grows c seals.chunk seals.grows))
    ∙ ap (λ (x : ChunksContents). sum_by count_in c.waiting + (chunk_to_grow x).first) (sym (sealed_is why c d good seals))

pub stands_sealed : (why : SealReason) (c d : ChunksContents) → CanStand c → SealsGrowing why c d → CanStand d
stands_sealed why c d stands seals = record {
  chunks = chunks_sealed why c d stands.chunks seals;
  few = omega (arith, balance_sealed why c d stands.chunks seals, stands.few);
}

-- ---- what is kept beside them

module _ (a b : Inside) (kept : AreKept a) (stands : CanStand (chunks_of b)) where
  -- the same chunks wait
  pub kept_same : b.waiting.items ≡ a.waiting.items → b.waiting_count ≡ a.waiting_count → b.waiting_size ≡ a.waiting_size → (is_some b.growing ≡ true → vec_len b.waiting < vec_capacity b.waiting) → AreKept b
  kept_same items count size room =
      let counts : b.waiting_count ≡ sum_by count_in b.waiting.items = count ∙ kept.count ∙ ap (sum_by count_in) (sym items) in
      record {
        chunks = stands.chunks;
        count = counts;
        size = size ∙ kept.size ∙ ap (sum_by size_of_chunk) (sym items);
        few = omega (arith, counts, stands.few);
        small = omega (arith, kept.small);
        room = room;
      }

  -- these wait too
  pub kept_more : (more : List ChunkContents) (count size : ℕ) → b.waiting.items ≡ a.waiting.items ++ more → count ≡ sum_by count_in more → size ≡ sum_by size_of_chunk more → size ≤ count * 2 ^ 65
      → b.waiting_count ≡ a.waiting_count + count → b.waiting_size ≡ a.waiting_size + size → (is_some b.growing ≡ true → vec_len b.waiting < vec_capacity b.waiting) → AreKept b
  kept_more more count size items counted sized small now_count now_size room =
      let counts : b.waiting_count ≡ sum_by count_in b.waiting.items =
      omega (arith, kept.count, ap (sum_by count_in) items, sum_by-append count_in a.waiting.items more) in
      record {
        chunks = stands.chunks;
        count = counts;
        size = omega (arith, kept.size, ap (sum_by size_of_chunk) items, sum_by-append size_of_chunk a.waiting.items more);
        few = omega (arith, counts, stands.few);
        small = omega (arith, kept.small);
        room = room;
      }

  -- one more waits, and none grows
  pub kept_one_more : (done : ChunkContents) (count size : ℕ) → b.growing ≡ None → b.waiting.items ≡ a.waiting.items ++ done ∷ [] → count ≡ count_in done → size ≡ size_of_chunk done → size ≤ count_in done * 2 ^ 65
      → b.waiting_count ≡ a.waiting_count + count → b.waiting_size ≡ a.waiting_size + size → AreKept b
  kept_one_more done count size none items counted sized small now_count now_size =
      kept_more (done ∷ []) count size items (omega (arith, counted, sum_by-cons count_in done [])) (omega (arith, sized, sum_by-cons size_of_chunk done [])) (omega (arith, counted, small)) now_count now_size
      (λ some. absurd (cc (ap is_some none)))

-- ---- one more entry, in the growing chunk or in a new one

module _ (rules : Rules) (now : ℕ) (e : Entry) (a b : Inside) (kept : AreKept a) (few : a.next < 2 ^ 62) (target : rules.chunk_target_size ≤ 2 ^ 30) (line : IsShort e) (next : b.next ≡ a.next + 1) (g added done : ChunkContents)
    (grows : chunk_to_grow (chunks_of a) ≡ g) (adds : added ≡ with_entry e (g.first + count_in g) now g) (settles : Settles rules added done) where
  grew : added ≡ with_entry e a.next now (chunk_to_grow (chunks_of a))
  grew =
      adds ∙ ap (λ (x : ChunkContents). with_entry e (x.first + count_in x) now x) (sym grows)
      ∙ ap (λ n. with_entry e n now (chunk_to_grow (chunks_of a))) (next_of (chunks_of a) kept.chunks).up_to

  stands : TakesOne rules now e (chunks_of a) (chunks_of b) → CanStand (chunks_of b)
  stands one = stands_all rules now (e ∷ []) (chunks_of a) (chunks_of b) (can_stand a kept) (omega arith) target (All-cons IsShort e [] line (All-nil IsShort)) (chunks_of b, one, refl)

  pub kept_full : is_full rules added ≡ true → (count size : ℕ) → b.growing ≡ None → b.waiting.items ≡ a.waiting.items ++ done ∷ [] → count ≡ count_in done → size ≡ size_of_chunk done → size ≤ count_in done * 2 ^ 65
      → b.waiting_count ≡ a.waiting_count + count → b.waiting_size ≡ a.waiting_size + size → AreKept b
  kept_full full count size none items =
      kept_one_more a b kept
      (stands (subst (TakesOne rules now e (chunks_of a)) (λ i. record { next = (sym next) i; waiting = (sym items) i; growing = (sym none) i }) (takes_settled rules now e (chunks_of a) added done grew settles true full)))
      done count size none items

  pub kept_open : is_full rules added ≡ false → b.growing ≡ Some done → b.waiting.items ≡ a.waiting.items → b.waiting_count ≡ a.waiting_count → b.waiting_size ≡ a.waiting_size → (is_some b.growing ≡ true → vec_len b.waiting < vec_capacity b.waiting) → AreKept b
  kept_open full some items =
      kept_same a b kept
      (stands (subst (TakesOne rules now e (chunks_of a)) (λ i. record { next = (sym next) i; waiting = (sym items) i; growing = (sym some) i }) (takes_settled rules now e (chunks_of a) added done grew settles false full)))
      items

-- ---- entries that reach no size

-- the growing chunk has the next number where its entries end
pub up_to_next : (c : ChunksContents) (g : ChunkContents) → AreChunks c → c.growing ≡ Some g → g.first + count_in g ≡ c.next
up_to_next c g good some = sym (ap (λ (x : ChunkContents). x.first + count_in x) (some_grows c g some)) ∙ (next_of c good).up_to

pub takes_extended : (rules : Rules) (now : ℕ) (es : List Entry) (c seen : ChunksContents) → c ≡ seen → AreChunks c → (g grown : ChunkContents) → c.growing ≡ Some g → grown ≡ with_run (numbered_from (g.first + count_in g) es) now g → 0 < length es → Fits rules es seen → (count : ℕ) → length es ≡ count
    → Takes rules now es c (record { next = c.next + count; waiting = c.waiting; growing = Some grown })
takes_extended rules now es c seen was good g grown some is any fits count many =
    let same : fits.chunk ≡ g = cc (fits.grows, ap (λ (x : ChunksContents). x.growing) was, some) in
    subst (λ (x : ChunksContents). Takes rules now es c x)
    (λ i. record { next = c.next + many i; waiting = c.waiting; growing = Some ((ap (λ n. with_run (numbered_from n es) now g) (sym (up_to_next c g good some)) ∙ sym is) i) })
    (takes_run rules now es c g any some (subst (λ (x : ChunkContents). size_of_entries x.head + size_of_all es < rules.chunk_block_size) same fits.head) (subst (λ (x : ChunkContents). size_of_chunk x + size_of_all es < rules.chunk_target_size) same fits.whole))

-- ---- entries that are put into others first, from the same number on

pub takes_begun : (rules : Rules) (now : ℕ) (es : List Entry) (c seen start others aside : ChunksContents) → c ≡ seen → others ≡ aside → seen.growing ≡ None → start ≡ record { next = c.next; waiting = []; growing = None } → Takes rules now es start aside → (items : List ChunkContents) → items ≡ c.waiting ++ others.waiting
    → Takes rules now es c (record { next = others.next; waiting = items; growing = others.growing })
takes_begun rules now es c seen start others aside was became none begun takes items is =
    let from : framed c.waiting start ≡ c = ap (framed c.waiting) begun ∙ (λ i. record { next = c.next; waiting = append-nil c.waiting i; growing = (sym (ap (λ (x : ChunksContents). x.growing) was ∙ none)) i }) in
    takes_same rules now es from (ap (framed c.waiting) (sym became) ∙ (λ i. record { next = others.next; waiting = (sym is) i; growing = others.growing })) (takes_framed rules now es c.waiting start aside takes)
