-- Blocks and chunks: read as they were written, and written as they were read.
use Rattle.std.proofs.Common.{◌≡◌, ◌≢◌, ℕ, zero, suc, ◌+◌, ◌^◌, ◌<◌, ◌≤◌, true, false, cond, List, [], ◌∷◌, ◌++◌, length, codes, Ok, Err, refl, sym, ap, subst, ◌∙◌, append_assoc, arith, add-zero, length-append}
use Rattle.std.specs.Prelude.{◌==◌}
use Rattle.std.specs.Int.{w32, w64, to_be_bytes}
use Rattle.std.specs.List.{flat_map, AllByRecursion}
use Rattle.std.proofs.lemmas.Bool.Decides.{nat_tests}
use Rattle.std.proofs.lemmas.List.{append-nil, nil_from_length}
use Rattle.std.proofs.lemmas.List.Concat.{flat_map-cons}
use Rattle.ing_refusals.specs.Results.{◌>>=◌}
use Rattle.ing_chunk.specs.declared.numbered.Numbered.{Numbered}
use Rattle.ing_chunk.specs.Chunks.{in_blocks}
use Rattle.ing_codec.specs.declared.fault.CodecFault.TheVariants.{BadField, Trailing}
use Rattle.ing_codec.specs.declared.version.Version.{Version}
use Rattle.ing_codec.specs.Fields.{Rest, whole, read_number, read_first, front_text}
use Rattle.ing_codec.specs.Versions.{version_byte}
use Rattle.ing_chunk.specs.Parts.{IsWithin, IsPart, AreParts}
use Rattle.ing_codec.specs.ChunkObjects.{ChunkObject, IsBlock, IsObject, Spells, entry_text, block_text, head_text, text_in}
use Rattle.ing_codec.specs.ChunkReading.{read_block, read_blocks, read_block_count, read_chunk_front, read_chunk, part, is_count, ended, chunk_object}
use Rattle.ing_codec.proofs.Binds.{bind_ok, passed, not_stopped, ok_is, done}
use Rattle.ing_codec.proofs.Built.{block_read, few_from_count}
use Rattle.ing_codec.proofs.FieldLaws.{IsBytes, Takes, then_takes, rest, Again, wide32, number_takes, number_again}
use Rattle.ing_codec.proofs.TextLaws.{nat_eq_true, first_takes, first_again, chunk_front_takes, chunk_front_again}
use Rattle.ing_codec.proofs.Writes.{count_fits}
use Rattle.ing_codec.proofs.EntryLaws.{entries_take, entries_again, none_built}

-- ---- one block

pub record BlockTaken (v : Version) (first start : ℕ) (r : Rest) (x : List Numbered × Rest) : Type 0 where
  pub takes : Takes r (block_text v first x.0) x.1
  pub part : IsPart (first + start) x.0
  pub block : IsBlock x.0
  pub last : first + start + length x.0 ≤ 2 ^ 62
  pub few : start + length x.0 < 2 ^ 32

not_empty : (b : List Numbered) (n : ℕ) → length b ≡ n → n ≢ 0 → b ≢ []
not_empty b n len some none = absurd (some (sym len ∙ ap length none))

pub block_takes : (v : Version) (first start : ℕ) (r : Rest) (x : List Numbered × Rest) → IsBytes r.bytes → read_block v first start r ≡ Ok x → BlockTaken v first start r x
block_takes v first start r x fits e =
    let b = block_read v first start r x e in
    let n = b.0 in
    let count = few_from_count first start n.0 b.2 in
    let one = number_takes w32 (2 ^ 32) wide32 r n fits b.1 in
    let all = entries_take (part v first start n.0) n.0 [] n.1 x one.0.fits (none_built (part v first start n.0)) b.3 in
    let len : length x.0 ≡ n.0 = ap length all.is ∙ all.count in
    let text : Takes n.1 (flat_map (entry_text v first) x.0) x.1 = subst (λ (es : List Numbered). Takes n.1 (flat_map (entry_text v first) es) x.1) (sym all.is) all.takes in
    let both = then_takes r (to_be_bytes w32 n.0) n.1 (flat_map (entry_text v first) x.0) x.1 one.0 text in
    record {
      takes = subst (λ (k : ℕ). Takes r (to_be_bytes w32 k ++ flat_map (entry_text v first) x.0) x.1) (sym len) both;
      part = record {
        some = not_empty x.0 n.0 len count.0;
        within = subst (λ (k : ℕ). AllByRecursion (IsWithin (first + start) k) x.0) (sym len) all.built.within;
        apart = all.built.apart;
      };
      block = record { in_order = all.built.in_order; entries = all.built.entries };
      last = omega (arith, len, count.1);
      few = omega (arith, len, count.2);
    }

counted : (first start n : ℕ) → 0 < n → first + start + n ≤ 2 ^ 62 → start + n < 2 ^ 32 → is_count first start n ≡ true
counted first start n some last few = grind (arith, nat_tests)

some_of : (b : List Numbered) → b ≢ [] → 0 < length b
some_of [] h = absurd (h refl)
some_of (e ∷ es) h = omega arith

pub block_again : (v : Version) (first start : ℕ) (b : List Numbered) → IsPart (first + start) b → IsBlock b → first + start + length b ≤ 2 ^ 62 → start + length b < 2 ^ 32 → Again (read_block v first start) (block_text v first b) b
unfolding read_block
block_again v first start b p block last few at more =
    let n = number_again w32 (2 ^ 32) wide32 (length b) (omega arith) at (flat_map (entry_text v first) b ++ more) in
    let es = entries_again (part v first start (length b)) b [] (record { count = few; within = p.within; apart = p.apart; in_order = block.in_order; entries = block.entries }) n.0 more in
    let regrouped : block_text v first b ++ more ≡ to_be_bytes w32 (length b) ++ (flat_map (entry_text v first) b ++ more) = append_assoc (to_be_bytes w32 (length b)) (flat_map (entry_text v first) b) more in
    (es.0, ap (λ (t : List ℕ). read_block v first start (rest at t)) regrouped ∙ rw (n.1, counted first start (length b) (some_of b p.some) last few, es.1) refl)

-- ---- blocks one after another

pub record BlocksTaken (v : Version) (first k start : ℕ) (before : List (List Numbered)) (r : Rest) (x : List (List Numbered) × Rest) : Type 0 where
  pub more : List (List Numbered)
  pub is : x.0 ≡ before ++ more
  pub count : length more ≡ k
  pub takes : Takes r (flat_map (block_text v first) more) x.1
  pub parts : AreParts (first + start) more
  pub blocks : AllByRecursion IsBlock more
  pub last : first + start + length (in_blocks more) ≤ 2 ^ 62
  pub few : start + length (in_blocks more) < 2 ^ 32

pub blocks_take : (v : Version) (first k start : ℕ) (before : List (List Numbered)) (r : Rest) (x : List (List Numbered) × Rest) → IsBytes r.bytes → first + start ≤ 2 ^ 62 → start < 2 ^ 32 → read_blocks v first k start before r ≡ Ok x → BlocksTaken v first k start before r x
unfolding read_blocks
blocks_take v first zero start before r x fits low small e =
    subst (λ (y : List (List Numbered) × Rest). BlocksTaken v first 0 start before r y) (ok_is (before, r) x e) (record {
      more = [];
      is = sym (append-nil before);
      count = refl;
      takes = record { parts = refl; fits = fits };
      parts = tt;
      blocks = tt;
      last = omega arith;
      few = omega arith;
    })
blocks_take v first (suc k) start before r x fits low small e =
    let b = bind_ok (read_block v first start r) (λ b. read_blocks v first k (start + length b.0) (before ++ b.0 ∷ []) b.1) x e in
    let one = block_takes v first start r b.0 fits b.1 in
    let next : first + (start + length b.0.0) ≡ first + start + length b.0.0 = omega arith in
    let all = blocks_take v first k (start + length b.0.0) (before ++ b.0.0 ∷ []) b.0.1 x one.takes.fits (omega (arith, one.last)) one.few b.2 in
    record {
      more = b.0.0 ∷ all.more;
      is = all.is ∙ append_assoc before (b.0.0 ∷ []) all.more;
      count = ap suc all.count;
      takes = subst (λ (t : List ℕ). Takes r t x.1) (sym (flat_map-cons (block_text v first) b.0.0 all.more)) (then_takes r (block_text v first b.0.0) b.0.1 (flat_map (block_text v first) all.more) x.1 one.takes all.takes);
      parts = (one.part, subst (λ (n : ℕ). AreParts n all.more) next all.parts);
      blocks = (one.block, all.blocks);
      last = omega (arith, all.last, length-append b.0.0 (in_blocks all.more));
      few = omega (arith, all.few, length-append b.0.0 (in_blocks all.more));
    }

pub blocks_again : (v : Version) (first : ℕ) (bs : List (List Numbered)) (start : ℕ) (before : List (List Numbered)) → AreParts (first + start) bs → AllByRecursion IsBlock bs → first + start + length (in_blocks bs) ≤ 2 ^ 62 → start + length (in_blocks bs) < 2 ^ 32
    → Again (read_blocks v first (length bs) start before) (flat_map (block_text v first) bs) (before ++ bs)
unfolding read_blocks
blocks_again v first [] start before parts blocks last few at more = (at, ap (λ (b : List (List Numbered)). done (b, rest at more)) (sym (append-nil before)))
blocks_again v first (b ∷ bs) start before parts blocks last few at more =
    let len = length-append b (in_blocks bs) in
    let one = block_again v first start b parts.0 blocks.0 (omega (arith, len)) (omega (arith, len)) at (flat_map (block_text v first) bs ++ more) in
    let next : first + start + length b ≡ first + (start + length b) = omega arith in
    let others = blocks_again v first bs (start + length b) (before ++ b ∷ []) (subst (λ (n : ℕ). AreParts n bs) next parts.1) blocks.1 (omega (arith, len)) (omega (arith, len)) one.0 more in
    let regrouped : flat_map (block_text v first) (b ∷ bs) ++ more ≡ block_text v first b ++ (flat_map (block_text v first) bs ++ more) = ap (λ (t : List ℕ). t ++ more) (flat_map-cons (block_text v first) b bs) ∙ append_assoc (block_text v first b) (flat_map (block_text v first) bs) more in
    (others.0, ap (λ (t : List ℕ). read_blocks v first (suc (length bs)) start before (rest at t)) regrouped ∙ rw (one.1, others.1) (ap (λ (l : List (List Numbered)). done (l, rest others.0 more)) (append_assoc before (b ∷ []) bs)))

-- ---- how many blocks, and the end

count_takes : (r : Rest) (x : ℕ × Rest) → IsBytes r.bytes → read_block_count r ≡ Ok x → Takes r (to_be_bytes w32 x.0) x.1 × ((x.0 == 0) ≡ false)
unfolding read_block_count
count_takes r x fits e =
    let n = bind_ok (read_number w32 r) (λ n. cond (n.0 == 0) (Err (BadField r.at)) (Ok n)) x e in
    let p = not_stopped (n.0.0 == 0) (BadField r.at) (Ok n.0) x n.2 in
    let one = number_takes w32 (2 ^ 32) wide32 r n.0 fits n.1 in
    subst (λ (y : ℕ × Rest). Takes r (to_be_bytes w32 y.0) y.1 × ((y.0 == 0) ≡ false)) (ok_is n.0 x p.1) (one.0, p.0)

pub count_again : (n : ℕ) → n < 2 ^ 32 → 0 < n → Again read_block_count (to_be_bytes w32 n) n
unfolding read_block_count
count_again n lt some at more =
    let b = number_again w32 (2 ^ 32) wide32 n lt at more in
    let not_none : (n == 0) ≡ false = grind (arith, nat_tests) in
    (b.0, rw (b.1, not_none) refl)

pub nothing_left : {A : Type 0} (x : A) (r : Rest) (y : A) → ended x r ≡ Ok y → (r.bytes ≡ []) × (x ≡ y)
nothing_left x r y e =
    let p = passed (length r.bytes == 0) Trailing (Ok x) y e in
    (nil_from_length r.bytes (nat_eq_true (length r.bytes) 0 p.0), ok_is x y p.1)

-- ---- a chunk

some_of_blocks : (bs : List (List Numbered)) → bs ≢ [] → 0 < length bs
some_of_blocks [] h = absurd (h refl)
some_of_blocks (b ∷ bs) h = omega arith

ended_text : (bytes front first : List ℕ) (k n : ℕ) (blocks left : List ℕ) → bytes ≡ ((front ++ (first ++ to_be_bytes w32 k)) ++ blocks) ++ left → left ≡ [] → n ≡ k → bytes ≡ (front ++ (first ++ to_be_bytes w32 n)) ++ blocks
ended_text bytes front first k n blocks left e none same =
    e ∙ ap (λ (t : List ℕ). ((front ++ (first ++ to_be_bytes w32 k)) ++ blocks) ++ t) none
    ∙ append-nil ((front ++ (first ++ to_be_bytes w32 k)) ++ blocks)
    ∙ ap (λ (m : ℕ). (front ++ (first ++ to_be_bytes w32 m)) ++ blocks) (sym same)

some_blocks : (bs : List (List Numbered)) → (length bs == 0) ≡ false → bs ≢ []
some_blocks [] h none = absurd cc
some_blocks (b ∷ bs) h none = absurd cc

pub chunk_takes : (bytes : List ℕ) (o : ChunkObject) → IsBytes bytes → read_chunk bytes ≡ Ok o → IsObject o × Spells bytes o
unfolding read_chunk text_in
chunk_takes bytes o fits e =
    let h = bind_ok (read_chunk_front (whole bytes)) (λ h. read_first h.1.2 >>= λ f. read_block_count f.1 >>= λ k. read_blocks h.0 f.0 k.0 0 [] k.1 >>= λ b. ended (chunk_object h.1.0 h.1.1 f.0 b.0) b.1) o e in
    let v = h.0.0 in
    let owner = h.0.1 in
    let f = bind_ok (read_first owner.2) (λ f. read_block_count f.1 >>= λ k. read_blocks v f.0 k.0 0 [] k.1 >>= λ b. ended (chunk_object owner.0 owner.1 f.0 b.0) b.1) o h.2 in
    let k = bind_ok (read_block_count f.0.1) (λ k. read_blocks v f.0.0 k.0 0 [] k.1 >>= λ b. ended (chunk_object owner.0 owner.1 f.0.0 b.0) b.1) o f.2 in
    let b = bind_ok (read_blocks v f.0.0 k.0.0 0 [] k.0.1) (λ b. ended (chunk_object owner.0 owner.1 f.0.0 b.0) b.1) o k.2 in
    let n = nothing_left (chunk_object owner.0 owner.1 f.0.0 b.0.0) b.0.1 o b.2 in
    let front = chunk_front_takes (whole bytes) h.0 fits h.1 in
    let ft = first_takes owner.2 f.0 front.takes.fits f.1 in
    let kt = count_takes f.0.1 k.0 ft.0.fits k.1 in
    let bt = blocks_take v f.0.0 k.0.0 0 [] k.0.1 b.0 kt.0.fits (omega (arith, ft.1)) (omega arith) b.1 in
    let made = chunk_object owner.0 owner.1 f.0.0 bt.more in
    let text = front_text (codes "INGC") (version_byte v) owner.0 owner.1 in
    let fk = then_takes owner.2 (to_be_bytes w64 f.0.0) f.0.1 (to_be_bytes w32 k.0.0) k.0.1 ft.0 kt.0 in
    let hfk = then_takes (whole bytes) text owner.2 (to_be_bytes w64 f.0.0 ++ to_be_bytes w32 k.0.0) k.0.1 front.takes fk in
    let all = then_takes (whole bytes) (text ++ (to_be_bytes w64 f.0.0 ++ to_be_bytes w32 k.0.0)) k.0.1 (flat_map (block_text v f.0.0) bt.more) b.0.1 hfk bt.takes in
    let spelt = ended_text bytes text (to_be_bytes w64 f.0.0) k.0.0 (length bt.more) (flat_map (block_text v f.0.0) bt.more) b.0.1.bytes all.parts n.0 bt.count in
    let object : IsObject made = record {
      tenant = front.tenant;
      name = front.name;
      numbered = record {
        name_length = front.length;
        some = some_blocks bt.more (ap (λ (m : ℕ). m == 0) bt.count ∙ kt.1);
        parts = subst (λ (m : ℕ). AreParts m bt.more) (add-zero f.0.0) bt.parts;
        last = omega (arith, bt.last);
        few = omega (arith, bt.few);
      };
      blocks = bt.blocks;
    } in
    let spells : Spells bytes made = record { version = v; is = spelt } in
    let same : made ≡ o = ap (λ (bs : List (List Numbered)). chunk_object owner.0 owner.1 f.0.0 bs) (sym bt.is) ∙ n.1 in
    subst (λ (x : ChunkObject). IsObject x × Spells bytes x) same (object, spells)

four_parts : (w a b f : List ℕ) → (w ++ (a ++ b)) ++ f ≡ w ++ (a ++ (b ++ (f ++ [])))
four_parts w a b f = simp (append_assoc, append-nil)

pub text_again : (v : Version) (o : ChunkObject) → IsObject o → read_chunk (text_in v o) ≡ Ok o
unfolding read_chunk text_in
text_again v o h =
    let front = front_text (codes "INGC") (version_byte v) o.tenant o.name in
    let blocks = flat_map (block_text v o.first) o.blocks in
    let start : AreParts (o.first + 0) o.blocks = subst (λ (m : ℕ). AreParts m o.blocks) (sym (add-zero o.first)) h.numbered.parts in
    let hd = chunk_front_again v o.tenant o.name h.tenant h.name h.numbered.name_length 0 (to_be_bytes w64 o.first ++ (to_be_bytes w32 (length o.blocks) ++ (blocks ++ []))) in
    let f = first_again o.first (omega (arith, h.numbered.last)) hd.0 (to_be_bytes w32 (length o.blocks) ++ (blocks ++ [])) in
    let k = count_again (length o.blocks) (count_fits o h.numbered) (some_of_blocks o.blocks h.numbered.some) f.0 (blocks ++ []) in
    let b = blocks_again v o.first o.blocks 0 [] start h.blocks (omega (arith, h.numbered.last)) (omega (arith, h.numbered.few)) k.0 [] in
    let regrouped : head_text v o ++ blocks ≡ front ++ (to_be_bytes w64 o.first ++ (to_be_bytes w32 (length o.blocks) ++ (blocks ++ []))) = four_parts front (to_be_bytes w64 o.first) (to_be_bytes w32 (length o.blocks)) blocks in
    ap read_chunk regrouped ∙ rw (hd.1, f.1, k.1, b.1) refl

pub chunk_again : (bytes : List ℕ) (o : ChunkObject) → IsObject o → Spells bytes o → read_chunk bytes ≡ Ok o
chunk_again bytes o h spells = ap read_chunk spells.is ∙ text_again spells.version o h
