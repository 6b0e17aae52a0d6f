-- The entries of a block: read as they were written, and written as they were read.
use Rattle.std.proofs.Common.{◌≡◌, ◌≢◌, ℕ, zero, suc, ◌+◌, ◌-◌, ◌^◌, ◌<◌, ◌≤◌, Bool, true, false, not, ◌&&◌, ◌||◌, List, [], ◌∷◌, ◌++◌, length, get_or, Option, Ok, refl, sym, ap, subst, ◌∙◌, append_assoc, arith, length-append}
use Rattle.std.specs.Prelude.{◌==◌, nat_lt, nat_le}
use Rattle.std.specs.Int.{w32, w64, to_be_bytes}
use Rattle.std.specs.Str.{is_utf8}
use Rattle.std.specs.List.{flat_map, AllByRecursion}
use Rattle.std.proofs.lemmas.Bool.Decides.{nat_tests}
use Rattle.std.proofs.lemmas.Option.{slice_get-get_or}
use Rattle.std.proofs.Math.Seq.{get_or-append_seam}
use Rattle.std.proofs.lemmas.List.{append-nil, get_or_append_left}
use Rattle.std.proofs.lemmas.List.Concat.{flat_map-cons}
use Rattle.ing_chunk.specs.declared.numbered.Numbered.{Numbered}
use Rattle.ing_chunk.specs.Chunks.{AreInOrder, comes_before}
use Rattle.ing_codec.specs.declared.chunk_reading.Part.{Part}
use Rattle.ing_codec.specs.Fields.{Rest, long_text, meta_text}
use Rattle.ing_chunk.specs.Parts.{max_line, IsWithin, AreApart, is_taken}
use Rattle.ing_codec.specs.ChunkObjects.{IsEntry, entry_text}
use Rattle.ing_codec.specs.ChunkReading.{read_entry, read_entries, is_free, goes_on, is_above, numbered}
use Rattle.ing_codec.proofs.Binds.{bind_ok, ok_is, done}
use Rattle.ing_codec.proofs.Built.{entry_read}
use Rattle.ing_codec.proofs.Order.{in_order_more, one_comes_before}
use Rattle.ing_codec.proofs.FieldLaws.{IsBytes, Takes, then_takes, rest, Again, wide32, number_takes, number_again}
use Rattle.ing_codec.proofs.TextLaws.{stamp_takes, stamp_again, line_takes, line_again, meta_takes, meta_again}

-- ---- numbers apart

or_false : (a b : Bool) → (a || b) ≡ false → (a ≡ false) × (b ≡ false)
or_false true b h = absurd cc
or_false false b h = (refl, h)

both_false : (a b : Bool) → a ≡ false → b ≡ false → (a || b) ≡ false
both_false a b p q = rw (p, q) refl

turned : (a b : ℕ) → (a == b) ≡ false → (b == a) ≡ false
turned a b h = grind (arith, nat_tests)

-- the number of an entry is not among others, one after another
untaken_more : (n : ℕ) (es : List Numbered) (e : Numbered) → is_taken n es ≡ false → (e.number == n) ≡ false → is_taken n (es ++ e ∷ []) ≡ false
untaken_more n [] e h g = both_false (e.number == n) false g refl
untaken_more n (x ∷ es) e h g = let p = or_false (x.number == n) (is_taken n es) h in both_false (x.number == n) (is_taken n (es ++ e ∷ [])) p.0 (untaken_more n es e p.1 g)

apart_more : (es : List Numbered) (e : Numbered) → AreApart es → is_taken e.number es ≡ false → AreApart (es ++ e ∷ [])
apart_more [] e h g = (refl, tt)
apart_more (x ∷ es) e h g =
    let p = or_false (x.number == e.number) (is_taken e.number es) g in
    (untaken_more x.number es e h.0 (turned x.number e.number p.0), apart_more es e h.1 p.1)

untaken_in : (n : ℕ) (before es : List Numbered) (e : Numbered) → is_taken n (before ++ e ∷ es) ≡ false → (e.number == n) ≡ false
untaken_in n [] es e h = (or_false (e.number == n) (is_taken n es) h).0
untaken_in n (x ∷ before) es e h = untaken_in n before es e (or_false (x.number == n) (is_taken n (before ++ e ∷ es)) h).1

pub untaken_before : (before es : List Numbered) (e : Numbered) → AreApart (before ++ e ∷ es) → is_taken e.number before ≡ false
untaken_before [] es e h = refl
untaken_before (x ∷ before) es e h = both_false (x.number == e.number) (is_taken e.number before) (turned e.number x.number (untaken_in x.number before es e h.0)) (untaken_before before es e h.1)

-- ---- one entry

free_tests : (low high n : ℕ) (t : Bool) → ((nat_le low n && nat_lt n high) && not t) ≡ true → (low ≤ n) × (n < high) × (t ≡ false)
free_tests low high n true h = absurd (grind (arith, nat_tests))
free_tests low high n false h = (grind (arith, nat_tests), grind (arith, nat_tests), refl)

free_again : (low high n : ℕ) (t : Bool) → low ≤ n → n < high → t ≡ false → ((nat_le low n && nat_lt n high) && not t) ≡ true
free_again low high n t p q r = rw r (grind (arith, nat_tests))

free_parts : (p : Part) (before : List Numbered) (n : ℕ) → is_free p before n ≡ true → (p.first + p.start ≤ n) × (n < p.first + p.start + p.count) × (is_taken n before ≡ false)
free_parts p before n h = free_tests (p.first + p.start) (p.first + p.start + p.count) n (is_taken n before) h

pub record EntryTaken (p : Part) (before : List Numbered) (r : Rest) (e : Numbered) (after : Rest) : Type 0 where
  pub takes : Takes r (entry_text p.version p.first e) after
  pub within : IsWithin (p.first + p.start) p.count e
  pub fresh : is_taken e.number before ≡ false
  pub entry : IsEntry e
  pub goes : goes_on before e ≡ true

made_takes : (p : Part) (before : List Numbered) (r : Rest) (e : Numbered) (after : Rest) (offset s : ℕ) (l : List ℕ) → e ≡ numbered (p.first + offset) s l → Takes r (to_be_bytes w32 offset ++ (to_be_bytes w64 s ++ (long_text l ++ meta_text p.version))) after
    → is_free p before (p.first + offset) ≡ true → s < 2 ^ 63 → is_utf8 l ≡ true → length l ≤ max_line → goes_on before e ≡ true → EntryTaken p before r e after
made_takes p before r e after offset s l is takes free stamp utf8 line goes =
    let f = free_parts p before (p.first + offset) free in
    let back : offset ≡ p.first + offset - p.first = omega arith in
    let made : EntryTaken p before r (numbered (p.first + offset) s l) after = record {
      takes = subst (λ (k : ℕ). Takes r (to_be_bytes w32 k ++ (to_be_bytes w64 s ++ (long_text l ++ meta_text p.version))) after) back takes;
      within = record { low = f.0; high = f.1; line = line };
      fresh = f.2;
      entry = record { stamp = stamp; utf8 = utf8 };
      goes = subst (λ (x : Numbered). goes_on before x ≡ true) is goes;
    } in
    subst (λ (x : Numbered). EntryTaken p before r x after) (sym is) made

pub entry_takes : (p : Part) (before : List Numbered) (r : Rest) (x : Numbered × Rest) → IsBytes r.bytes → read_entry p before r ≡ Ok x → EntryTaken p before r x.0 x.1
entry_takes p before r x fits e =
    let read = entry_read p before r x.0 x.1 e in
    let o = number_takes w32 (2 ^ 32) wide32 r read.offset fits read.offset_read in
    let s = stamp_takes read.offset.1 read.stamp o.0.fits read.stamp_read in
    let l = line_takes read.stamp.1 read.line s.0.fits read.line_read in
    let m = meta_takes p.version read.line.1 read.meta l.0.fits read.meta_read in
    let lm = then_takes read.stamp.1 (long_text read.line.0) read.line.1 (meta_text p.version) read.meta.1 l.0 m in
    let slm = then_takes read.offset.1 (to_be_bytes w64 read.stamp.0) read.stamp.1 (long_text read.line.0 ++ meta_text p.version) read.meta.1 s.0 lm in
    let oslm = then_takes r (to_be_bytes w32 read.offset.0) read.offset.1 (to_be_bytes w64 read.stamp.0 ++ (long_text read.line.0 ++ meta_text p.version)) read.meta.1 o.0 slm in
    let all = subst (λ (y : Rest). Takes r (to_be_bytes w32 read.offset.0 ++ (to_be_bytes w64 read.stamp.0 ++ (long_text read.line.0 ++ meta_text p.version))) y) (sym read.rest) oslm in
    made_takes p before r x.0 x.1 read.offset.0 read.stamp.0 read.line.0 read.is all read.free s.1 l.1 l.2 read.goes

pub entry_again : (p : Part) (before : List Numbered) (e : Numbered) → p.count < 2 ^ 32 → p.start + p.count < 2 ^ 32 → IsWithin (p.first + p.start) p.count e → is_taken e.number before ≡ false → IsEntry e → goes_on before e ≡ true
    → Again (read_entry p before) (entry_text p.version p.first e) e
unfolding read_entry
entry_again p before e few small within fresh entry goes at more =
    let offset = e.number - p.first in
    let behind = meta_text p.version ++ more in
    let o = number_again w32 (2 ^ 32) wide32 offset (omega (arith, within.low, within.high)) at (to_be_bytes w64 e.entry.stamp ++ (long_text e.entry.line ++ behind)) in
    let s = stamp_again e.entry.stamp entry.stamp o.0 (long_text e.entry.line ++ behind) in
    let l = line_again e.entry.line entry.utf8 within.line s.0 behind in
    let m = meta_again p.version l.0 more in
    let n : p.first + offset ≡ e.number = omega (arith, within.low) in
    let free : is_free p before e.number ≡ true = free_again (p.first + p.start) (p.first + p.start + p.count) e.number (is_taken e.number before) within.low within.high fresh in
    let regrouped : entry_text p.version p.first e ++ more ≡ to_be_bytes w32 offset ++ (to_be_bytes w64 e.entry.stamp ++ (long_text e.entry.line ++ behind)) = simp append_assoc in
    (m.0, ap (λ (b : List ℕ). read_entry p before (rest at b)) regrouped ∙ rw (o.1, n, free, s.1, l.1, m.1, goes) refl)

-- ---- entries one after another

-- what holds of the entries before
pub record Built (p : Part) (es : List Numbered) : Type 0 where
  pub within : AllByRecursion (IsWithin (p.first + p.start) p.count) es
  pub apart : AreApart es
  pub in_order : AreInOrder es
  pub entries : AllByRecursion IsEntry es

all_more : {X : Type 0} (P : X → Type 0) (xs : List X) (x : X) → AllByRecursion P xs → P x → AllByRecursion P (xs ++ x ∷ [])
all_more P [] x h p = (p, tt)
all_more P (y ∷ xs) x h p = (h.0, all_more P xs x h.1 p)

pub none_built : (p : Part) → Built p []
none_built p = record { within = tt; apart = tt; in_order = λ k d low high. absurd (omega arith); entries = tt }

pub record EntriesTaken (p : Part) (k : ℕ) (before : List Numbered) (r : Rest) (x : List Numbered × Rest) : Type 0 where
  pub more : List Numbered
  pub is : x.0 ≡ before ++ more
  pub count : length more ≡ k
  pub takes : Takes r (flat_map (entry_text p.version p.first) more) x.1
  pub built : Built p x.0

pub entries_take : (p : Part) (k : ℕ) (before : List Numbered) (r : Rest) (x : List Numbered × Rest) → IsBytes r.bytes → Built p before → read_entries p k before r ≡ Ok x → EntriesTaken p k before r x
unfolding read_entries
entries_take p zero before r x fits built h =
    subst (λ (y : List Numbered × Rest). EntriesTaken p 0 before r y) (ok_is (before, r) x h) (record { more = []; is = sym (append-nil before); count = refl; takes = record { parts = refl; fits = fits }; built = built })
entries_take p (suc k) before r x fits built h =
    let e = bind_ok (read_entry p before r) (λ e. read_entries p k (before ++ e.0 ∷ []) e.1) x h in
    let one = entry_takes p before r e.0 fits e.1 in
    let next : Built p (before ++ e.0.0 ∷ []) = record {
      within = all_more (IsWithin (p.first + p.start) p.count) before e.0.0 built.within one.within;
      apart = apart_more before e.0.0 built.apart one.fresh;
      in_order = in_order_more before e.0.0 built.in_order one.goes;
      entries = all_more IsEntry before e.0.0 built.entries one.entry;
    } in
    let all = entries_take p k (before ++ e.0.0 ∷ []) e.0.1 x one.takes.fits next e.2 in
    record {
      more = e.0.0 ∷ all.more;
      is = all.is ∙ append_assoc before (e.0.0 ∷ []) all.more;
      count = ap suc all.count;
      takes = subst (λ (t : List ℕ). Takes r t x.1) (sym (flat_map-cons (entry_text p.version p.first) e.0.0 all.more)) (then_takes r (entry_text p.version p.first e.0.0) e.0.1 (flat_map (entry_text p.version p.first) all.more) x.1 one.takes all.takes);
      built = all.built;
    }

-- ---- entries that were written

untaken_at : (n : ℕ) (es : List Numbered) (i : ℕ) (d : Numbered) → is_taken n es ≡ false → i < length es → ((get_or es i d).number == n) ≡ false
untaken_at n [] i d h lt = absurd (omega arith)
untaken_at n (e ∷ es) zero d h lt = (or_false (e.number == n) (is_taken n es) h).0
untaken_at n (e ∷ es) (suc i) d h lt = untaken_at n es i d (or_false (e.number == n) (is_taken n es) h).1 (omega arith)

differ : (a b : ℕ) → (a == b) ≡ false → a ≢ b
differ a b h e = absurd (grind (arith, nat_tests))

last_goes : (before es : List Numbered) (e : Numbered) → 0 < length before → AreInOrder (before ++ e ∷ es) → AreApart (before ++ e ∷ es) → goes_on before e ≡ true
last_goes before es e some up apart =
    let k = length before - 1 in
    let last = get_or before k e in
    let here : get_or (before ++ e ∷ es) (k + 1) e ≡ e = let same : k + 1 ≡ length before = omega arith in rw same (get_or-append_seam before e es e) in
    let there : get_or (before ++ e ∷ es) k e ≡ last = get_or_append_left before (e ∷ es) e k (omega arith) in
    let not_back : comes_before e last ≡ false = ap (λ (x : Numbered). comes_before x last) (sym here) ∙ ap (λ (x : Numbered). comes_before (get_or (before ++ e ∷ es) (k + 1) e) x) (sym there) ∙ up k e (omega arith) (omega (arith, length-append before (e ∷ es))) in
    let apart_from : last.number ≢ e.number = differ last.number e.number (untaken_at e.number before k e (untaken_before before es e apart) (omega arith)) in
    ap (λ (o : Option Numbered). is_above o e) (slice_get-get_or before k e (omega arith)) ∙ one_comes_before last e apart_from not_back

goes_from_order : (before es : List Numbered) (e : Numbered) → AreInOrder (before ++ e ∷ es) → AreApart (before ++ e ∷ es) → goes_on before e ≡ true
goes_from_order [] es e up apart = refl
goes_from_order (x ∷ before) es e up apart = last_goes (x ∷ before) es e (omega arith) up apart

-- what is to hold of the entries that follow those before
pub record Follow (p : Part) (before es : List Numbered) : Type 0 where
  pub count : p.start + p.count < 2 ^ 32
  pub within : AllByRecursion (IsWithin (p.first + p.start) p.count) es
  pub apart : AreApart (before ++ es)
  pub in_order : AreInOrder (before ++ es)
  pub entries : AllByRecursion IsEntry es

pub entries_again : (p : Part) (es before : List Numbered) → Follow p before es → Again (read_entries p (length es) before) (flat_map (entry_text p.version p.first) es) (before ++ es)
unfolding read_entries
entries_again p [] before h at more = (at, ap (λ (b : List Numbered). done (b, rest at more)) (sym (append-nil before)))
entries_again p (e ∷ es) before h at more =
    let goes = goes_from_order before es e h.in_order h.apart in
    let one = entry_again p before e (omega (arith, h.count)) h.count h.within.0 (untaken_before before es e h.apart) h.entries.0 goes at (flat_map (entry_text p.version p.first) es ++ more) in
    let joined : before ++ e ∷ es ≡ (before ++ e ∷ []) ++ es = sym (append_assoc before (e ∷ []) es) in
    let next : Follow p (before ++ e ∷ []) es = record {
      count = h.count;
      within = h.within.1;
      apart = subst (λ (b : List Numbered). AreApart b) joined h.apart;
      in_order = subst (λ (b : List Numbered). AreInOrder b) joined h.in_order;
      entries = h.entries.1;
    } in
    let others = entries_again p es (before ++ e ∷ []) next one.0 more in
    let regrouped : flat_map (entry_text p.version p.first) (e ∷ es) ++ more ≡ entry_text p.version p.first e ++ (flat_map (entry_text p.version p.first) es ++ more) = ap (λ (t : List ℕ). t ++ more) (flat_map-cons (entry_text p.version p.first) e es) ∙ append_assoc (entry_text p.version p.first e) (flat_map (entry_text p.version p.first) es) more in
    (others.0, ap (λ (b : List ℕ). read_entries p (suc (length es)) before (rest at b)) regrouped ∙ rw (one.1, others.1) (ap (λ (b : List Numbered). done (b, rest others.0 more)) (sym joined)))
