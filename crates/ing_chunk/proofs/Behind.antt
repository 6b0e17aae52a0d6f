-- Entries behind a head that they close.
use Rattle.std.proofs.Common.{◌≡◌, ℕ, ◌+◌, ◌<◌, ◌≤◌, ◌^◌, Bool, true, false, List, [], ◌∷◌, ◌++◌, length, take, drop, get_or, length-take, nat_le, refl, sym, ap, subst, ◌∙◌, arith, append_assoc, append-nil, length-append, Some, None, is_none}
use Rattle.std.specs.Prelude.{All, IsPermutation, sum_by}
use Rattle.std.proofs.lemmas.Bool.Decides.{nat_tests}
use Rattle.std.proofs.lemmas.List.Sums.{sum_by-append, sum_by-cons}
use Rattle.ing_rows.specs.declared.entry.Entry.{Entry}
use Rattle.ing_rows.specs.declared.place.SealReason.TheVariants.{Full}
use Rattle.ing_rows.specs.declared.rules.Rules.{Rules}
use Rattle.ing_rows.specs.Rows.{size_of}
use Rattle.ing_chunk.specs.declared.numbered.Numbered.{Numbered}
use Rattle.ing_chunk.specs.Chunks.{AreChunks, ChunkContents, ChunksContents, IsWaiting, Waits, Closes, closes, chunk_to_grow, count_in, empty_chunk, in_blocks, is_full, is_to_cut, numbered_from, placed, settled, taken_with, size_of_all, size_of_chunk, size_of_entries, with_block, with_entry, with_run, SealsChunk, Settles, TakesOne, Takes}
use Rattle.ing_chunk.specs.Behind.{CanStand, GoesOn, IsCounted, HasRoom, Reaches, IsClosed, Continues, TakesBehind, behind, behind_as, closed_into, is_reached, joined, put_as, put_behind, rules_as}
use Rattle.ing_chunk.specs.declared.chunks.later.Later.{Later}
use Rattle.std.proofs.lemmas.List.Elements.{All-head}
use Rattle.ing_chunk.proofs.Aside.{count_all, framed, takes_framed, takes_same}
use Rattle.ing_chunk.proofs.Stands.{stands_all, up_to_next}
use Rattle.ing_chunk.proofs.Taken.{next_of}
use Rattle.std.proofs.lemmas.List.Sorted.{IsPermutation-refl}
use Rattle.std.proofs.lemmas.List.{take_more, take-append-drop}
use Rattle.ing_chunk.specs.Parts.{IsShort}
use Rattle.ing_chunk.proofs.Added.{takes_settled, some_grows, takes_run, length_run, not_reached}
use Rattle.ing_chunk.proofs.Sums.{in_blocks-append, size-append, block_size-more, block_count-more}

pub takes_append : (rules : Rules) (now : ℕ) (xs ys : List Entry) (c mid d : ChunksContents) → Takes rules now xs c mid → Takes rules now ys mid d → Takes rules now (xs ++ ys) c d
takes_append rules now [] ys c mid d h k = subst (λ x. Takes rules now ys x d) h k
takes_append rules now (x ∷ xs) ys c mid d (next, one, rest) k = (next, one, takes_append rules now xs ys next mid d rest k)

-- ---- what is joined

module _ (g t : ChunkContents) (closed : g.head ≡ []) where
  pub size_joined : size_of_chunk (joined g t) ≡ size_of_chunk g + size_of_chunk t
  size_joined = omega (arith, ap size_of_entries (in_blocks-append g.blocks t.blocks), size-append (in_blocks g.blocks) (in_blocks t.blocks), ap size_of_entries closed)

  pub count_joined : count_in (joined g t) ≡ count_in g + count_in t
  count_joined = omega (arith, ap length (in_blocks-append g.blocks t.blocks), length-append (in_blocks g.blocks) (in_blocks t.blocks), ap length closed)

-- ---- one more entry behind a closed head

module _ (rules : Rules) (now : ℕ) (g : ChunkContents) (before : List ChunkContents) (size : ℕ) (closed : IsClosed now g) (sized : size_of_chunk g ≡ size) (below : size < rules.chunk_target_size) where
  full_joined : (t : ChunkContents) → is_full rules (joined g t) ≡ is_full (rules_as [] rules size) t
  full_joined t = let h = size_joined g t closed.head in grind (arith, nat_tests)

  with_joined : (e : Entry) (n : ℕ) (t : ChunkContents) → with_entry e n now (joined g t) ≡ joined g (with_entry e n now t)
  with_joined e n t = λ i. record { first = g.first; blocks = g.blocks ++ t.blocks; head = t.head ++ record { number = n; entry = e } ∷ []; last_update = (sym closed.last_update) i; reason = t.reason }

  settled_joined : (full cuts : Bool) (block : List Numbered) (t : ChunkContents) → joined g (settled full cuts block t) ≡ settled full cuts block (joined g t)
  settled_joined true cuts block t = λ i. record { first = g.first; blocks = (sym (append_assoc g.blocks t.blocks (block ∷ []))) i; head = []; last_update = g.last_update; reason = Some Full }
  settled_joined false true block t = λ i. record { first = g.first; blocks = (sym (append_assoc g.blocks t.blocks (block ∷ []))) i; head = []; last_update = g.last_update; reason = t.reason }
  settled_joined false false block t = refl

  placed_tail : (full cuts : Bool) (block : List Numbered) (t k : ChunkContents) (c : ChunksContents) → c.waiting ≡ [] → behind g before (placed full cuts block t c) ≡ placed full cuts block (joined g t) (record { next = c.next; waiting = before; growing = Some k })
  placed_tail true cuts block t k c none =
      ap (λ (l : List ChunkContents). behind_as (l ++ settled true cuts block t ∷ []) g before (placed true cuts block t c)) none
      ∙ ap (λ x. record { next = c.next + 1; waiting = before ++ x ∷ []; growing = None }) (settled_joined true cuts block t)
  placed_tail false cuts block t k c none =
      ap (λ (l : List ChunkContents). behind_as l g before (placed false cuts block t c)) none
      ∙ ap (λ x. record { next = c.next + 1; waiting = before; growing = Some x }) (settled_joined false cuts block t)

  placed_others : (full cuts : Bool) (block : List Numbered) (h t : ChunkContents) (ts : List ChunkContents) (c : ChunksContents) → c.waiting ≡ t ∷ ts → behind g before (placed full cuts block h c) ≡ placed full cuts block h (record { next = c.next; waiting = before ++ joined g t ∷ ts; growing = c.growing })
  placed_others true cuts block h t ts c some =
      ap (λ (l : List ChunkContents). behind_as (l ++ settled true cuts block h ∷ []) g before (placed true cuts block h c)) some
      ∙ ap (λ (l : List ChunkContents). record { next = c.next + 1; waiting = l; growing = None }) (sym (append_assoc before (joined g t ∷ ts) (settled true cuts block h ∷ [])))
  placed_others false cuts block h t ts c some = ap (λ (l : List ChunkContents). behind_as l g before (placed false cuts block h c)) some

  pub step_behind : (e : Entry) (c d : ChunksContents) → TakesOne (rules_as c.waiting rules size) now e c d → TakesOne rules now e (behind g before c) (behind g before d)
  step_behind e c d one = by_waiting c.waiting refl one where
    k : ChunkContents
    k = chunk_to_grow c

    h : ChunkContents
    h = with_entry e c.next now k

    by_waiting : (l : List ChunkContents) → c.waiting ≡ l → TakesOne (rules_as l rules size) now e c d → TakesOne rules now e (behind g before c) (behind g before d)
    by_waiting [] none one =
        let short = rules_as [] rules size in
        let there : ChunksContents = record { next = c.next; waiting = before; growing = Some (joined g k) } in
        let is : behind g before d ≡ taken_with one.block rules now e there =
        ap (behind g before) one.is
        ∙ placed_tail (is_full short h) (is_to_cut short h) one.block h (joined g k) c none
        ∙ ap (λ f. placed f (is_to_cut short h) one.block (joined g h) there) (sym (full_joined h))
        ∙ ap (λ x. placed (is_full rules x) (is_to_cut rules x) one.block x there) (sym (with_joined e c.next k)) in
        subst (λ x. TakesOne rules now e x (behind g before d)) (sym (ap (λ (l : List ChunkContents). behind_as l g before c) none)) (record { block = one.block; reorders = one.reorders; is = is })
    by_waiting (t ∷ ts) some one =
        let is = ap (behind g before) one.is ∙ placed_others (is_full rules h) (is_to_cut rules h) one.block h t ts c some in
        subst (λ x. TakesOne rules now e x (behind g before d)) (sym (ap (λ (l : List ChunkContents). behind_as l g before c) some)) (record { block = one.block; reorders = one.reorders; is = is })

-- ---- the entries up to the one by which a size is reached

numbered_push : (n : ℕ) (p : List Entry) (e : Entry) → numbered_from n (p ++ e ∷ []) ≡ numbered_from n p ++ record { number = n + length p; entry = e } ∷ []
numbered_push n [] e = ap (λ (k : ℕ). record { number = k; entry = e } ∷ []) (omega arith)
numbered_push n (x ∷ p) e = ap (λ (l : List Numbered). record { number = n; entry = x } ∷ l) (numbered_push (n + 1) p e ∙ ap (λ (k : ℕ). numbered_from (n + 1) p ++ record { number = k; entry = e } ∷ []) (omega arith))

pub size_numbered : (n : ℕ) (es : List Entry) → size_of_entries (numbered_from n es) ≡ size_of_all es
size_numbered n [] = refl
size_numbered n (e ∷ es) = omega (arith, sum_by-cons (λ (x : Numbered). size_of x.entry) (record { number = n; entry = e }) (numbered_from (n + 1) es), sum_by-cons size_of e es, size_numbered (n + 1) es)

closes_some : (head : List Numbered) (old new : ChunkContents) → 0 < length head → closes head old new → (block : List Numbered) × IsPermutation old.head block × (new ≡ with_block block old)
closes_some [] old new any h = absurd (omega arith)
closes_some (x ∷ xs) old new any h = h

pub closes_by : (head : List Numbered) (old : ChunkContents) (block : List Numbered) → 0 < length head → IsPermutation old.head block → closes head old (with_block block old)
closes_by [] old block any h = absurd (omega arith)
closes_by (x ∷ xs) old block any h = (block, h, refl)

-- a head that has these entries at its end is closed
module _ (n now : ℕ) (es : List Entry) (some : 0 < length es) (g closed : ChunkContents) (closes_it : Closes (with_run (numbered_from n es) now g) closed) where
  abbrev run : ChunkContents
  run = with_run (numbered_from n es) now g

  head_size : size_of_entries run.head ≡ size_of_entries g.head + size_of_all es
  head_size = size-append g.head (numbered_from n es) ∙ ap (λ m. size_of_entries g.head + m) (size_numbered n es)

  closed_by : (block : List Numbered) × IsPermutation run.head block × (closed ≡ with_block block run)
  closed_by = closes_some run.head run closed (omega (arith, length_run n g.head run.head es refl, some)) closes_it

  pub size_closed : size_of_chunk closed ≡ size_of_chunk g + size_of_all es
  size_closed = ap size_of_chunk closed_by.2 ∙ omega (arith, block_size-more g.blocks run.head closed_by.0 closed_by.1, head_size)

  pub count_closed : count_in closed ≡ count_in g + length es
  count_closed = ap count_in closed_by.2 ∙ omega (arith, block_count-more g.blocks run.head closed_by.0 closed_by.1, length_run n g.head run.head es refl)

  pub head_closed : closed.head ≡ []
  head_closed = ap (λ (x : ChunkContents). x.head) closed_by.2

  pub is_closed : g.reason ≡ None → IsClosed now closed
  is_closed open_yet = record { head = head_closed; last_update = ap (λ (x : ChunkContents). x.last_update) closed_by.2; open_yet = ap (λ (x : ChunkContents). x.reason) closed_by.2 ∙ open_yet }

module _ (rules : Rules) (now : ℕ) (p : List Entry) (e : Entry) (c : ChunksContents) (g closed : ChunkContents) (some : c.growing ≡ Some g) (room : 0 < length p → HasRoom rules g p) (reached : is_reached rules g (p ++ e ∷ []) ≡ true) (closes_it : Closes (with_run (numbered_from c.next (p ++ e ∷ [])) now g) closed) where
  abbrev filled : ChunkContents
  filled = with_run (numbered_from c.next (p ++ e ∷ [])) now g

  any : 0 < length (p ++ e ∷ [])
  any = omega (arith, length-append p (e ∷ []))

  by : (block : List Numbered) × IsPermutation filled.head block × (closed ≡ with_block block filled)
  by = closed_by c.next now (p ++ e ∷ []) any g closed closes_it

  settles_full : is_full rules filled ≡ true → Settles rules filled (record closed { reason = Some Full })
  settles_full full = (by.0, by.1, ap (λ (x : ChunkContents). record x { reason = Some Full }) by.2 ∙ ap (λ f. settled f (is_to_cut rules filled) by.0 filled) (sym full))

  settles_cut : is_full rules filled ≡ false → Settles rules filled closed
  settles_cut full =
      let cuts : is_to_cut rules filled ≡ true = let h = head_size c.next now (p ++ e ∷ []) any g closed closes_it in grind (arith, nat_tests) in
      (by.0, by.1, by.2 ∙ λ i. settled ((sym full) i) ((sym cuts) i) by.0 filled)

  one_more : (mid : ChunksContents) (k : ChunkContents) → mid.growing ≡ Some k → filled ≡ with_entry e mid.next now k → (full : Bool) → is_full rules filled ≡ full → TakesOne rules now e mid (closed_into full closed (mid.next + 1) mid.waiting)
  one_more mid k grows is true full = takes_settled rules now e mid filled (record closed { reason = Some Full }) (is ∙ ap (with_entry e mid.next now) (sym (some_grows mid k grows))) (settles_full full) true full
  one_more mid k grows is false full = takes_settled rules now e mid filled closed (is ∙ ap (with_entry e mid.next now) (sym (some_grows mid k grows))) (settles_cut full) false full

  pub takes_front : Takes rules now (p ++ e ∷ []) c (closed_into (is_full rules filled) closed (c.next + length (p ++ e ∷ [])) c.waiting)
  takes_front = by_front p refl where
    by_front : (q : List Entry) → p ≡ q → Takes rules now (p ++ e ∷ []) c (closed_into (is_full rules filled) closed (c.next + length (p ++ e ∷ [])) c.waiting)
    by_front [] none =
        let is : filled ≡ with_entry e c.next now g = ap (λ (q : List Entry). with_run (numbered_from c.next (q ++ e ∷ [])) now g) none in
        let to : ChunksContents = closed_into (is_full rules filled) closed (c.next + 1) c.waiting in
        subst (λ (q : List Entry). Takes rules now (q ++ e ∷ []) c (closed_into (is_full rules filled) closed (c.next + length (q ++ e ∷ [])) c.waiting)) (sym none)
        (to, one_more c g some is (is_full rules filled) refl, refl)
    by_front (x ∷ xs) first =
        let some_front : 0 < length p = let h = ap length first in omega arith in
        let k = with_run (numbered_from c.next p) now g in
        let mid : ChunksContents = record { next = c.next + length p; waiting = c.waiting; growing = Some k } in
        let head : filled.head ≡ (with_entry e mid.next now k).head = ap (λ l. g.head ++ l) (numbered_push c.next p e) ∙ sym (append_assoc g.head (numbered_from c.next p) (record { number = c.next + length p; entry = e } ∷ [])) in
        let to : ChunksContents = closed_into (is_full rules filled) closed (mid.next + 1) c.waiting in
        let one : TakesOne rules now e mid to = one_more mid k refl (λ i. record g { head = head i; last_update = now }) (is_full rules filled) refl in
        let next : mid.next + 1 ≡ c.next + length (p ++ e ∷ []) = let h = length-append p (e ∷ []) in omega arith in
        subst (λ (n : ℕ). Takes rules now (p ++ e ∷ []) c (closed_into (is_full rules filled) closed n c.waiting)) next
        (takes_append rules now p (e ∷ []) c mid to (takes_run rules now p c g some_front some (room some_front).head (room some_front).whole) (to, one, refl))

-- ---- what comes later

-- a chunk without entries, sealed as full
pub sealed_nothing : (next : ℕ) (t : ChunkContents) → SealsChunk Full (empty_chunk next) t → t ≡ record (empty_chunk next) { reason = Some Full }
sealed_nothing next t (mid, closes_it, is) = is ∙ ap (λ (x : ChunkContents). record x { reason = Some Full }) closes_it

joined_nothing : (now n : ℕ) (g : ChunkContents) → IsClosed now g → joined g (empty_chunk n) ≡ g
joined_nothing now n g closed = λ i. record { first = g.first; blocks = append-nil g.blocks i; head = (sym closed.head) i; last_update = g.last_update; reason = (sym closed.open_yet) i }

-- entries made the chunks d, which are seen so, of a start without chunks
module _ (rules : Rules) (now size : ℕ) (es : List Entry) (next : ℕ) (d seen start : ChunksContents) (was : d ≡ seen) (begun : start ≡ record { next = next; waiting = []; growing = None }) (later : Later) (next_is : later.next ≡ d.next) where
  -- behind a chunk that is full stand others
  pub continues_full : rules.chunk_target_size ≤ size → later.tail ≡ record (empty_chunk next) { reason = Some Full } → later.sealed.items ≡ d.waiting → later.growing ≡ d.growing → Takes rules now es start seen → Continues rules now size next es later
  continues_full reached tail sealed growing takes = λ g before closed sized.
      let full : ChunkContents = record g { reason = Some Full } in
      let is_reached : nat_le rules.chunk_target_size size ≡ true = grind (arith, nat_tests) in
      let from : framed (before ++ full ∷ []) start ≡ closed_into (nat_le rules.chunk_target_size size) g next before =
      ap (framed (before ++ full ∷ [])) begun ∙ (λ i. record { next = next; waiting = append-nil (before ++ full ∷ []) i; growing = None }) ∙ ap (λ b. closed_into b g next before) (sym is_reached) in
      let whole : joined g later.tail ≡ full = ap (joined g) tail ∙ (λ i. record { first = g.first; blocks = append-nil g.blocks i; head = (sym closed.head) i; last_update = g.last_update; reason = Some Full }) in
      let to : framed (before ++ full ∷ []) seen ≡ put_behind g before later =
      ap (framed (before ++ full ∷ [])) (sym was)
      ∙ (λ i. record { next = (sym next_is) i; waiting = (append_assoc before (full ∷ []) d.waiting ∙ (λ j. before ++ (sym whole) j ∷ (sym sealed) j)) i; growing = (sym growing) i })
      ∙ ap (λ b. put_as b g before later) (sym (ap (λ (x : ChunkContents). is_none x.reason) tail)) in
      takes_same rules now es from to (takes_framed rules now es (before ++ full ∷ []) start seen takes)

  module _ (below : size < rules.chunk_target_size) (good : AreChunks d) (takes : TakesBehind rules now size es start seen) where
    continues : ((g : ChunkContents) (before : List ChunkContents) → behind g before d ≡ put_behind g before later) → Continues rules now size next es later
    continues to = λ g before closed sized.
        let none : ChunksContents = record { next = next; waiting = []; growing = None } in
        let from : behind g before none ≡ closed_into (nat_le rules.chunk_target_size size) g next before =
        (λ i. record { next = next; waiting = before; growing = Some (joined_nothing now next g closed i) }) ∙ ap (λ b. closed_into b g next before) (sym (not_reached size rules.chunk_target_size below)) in
        takes_same rules now es (ap (behind g before) begun ∙ from) (ap (behind g before) (sym was) ∙ to g before) (takes g before closed sized)

    -- the chunk itself goes on to grow
    pub continues_growing : d.waiting ≡ [] → later.tail ≡ chunk_to_grow d → Continues rules now size next es later
    continues_growing none tail = continues (λ g before.
        ap (λ (l : List ChunkContents). behind_as l g before d) none
        ∙ (λ i. record { next = (sym next_is) i; waiting = before; growing = Some (joined g ((sym tail) i)) })
        ∙ ap (λ b. put_as b g before later) (sym (ap (λ (x : ChunkContents). is_none x.reason) tail ∙ ap is_none (next_of d good).open_yet)))

    -- the chunk is sealed by its tail, and others follow
    pub continues_sealed : (t : ChunkContents) (ts : List ChunkContents) → d.waiting ≡ t ∷ ts → later.tail ≡ t → later.sealed.items ≡ ts → later.growing ≡ d.growing → Continues rules now size next es later
    continues_sealed t ts some tail sealed growing = continues (λ g before.
        let waits : IsWaiting (chunk_to_grow d).first t = All-head (IsWaiting (chunk_to_grow d).first) t ts (subst (Waits (chunk_to_grow d).first) some good.waiting) in
        ap (λ (l : List ChunkContents). behind_as l g before d) some
        ∙ (λ i. record { next = (sym next_is) i; waiting = before ++ joined g ((sym tail) i) ∷ (sym sealed) i; growing = (sym growing) i })
        ∙ ap (λ b. put_as b g before later) (sym (ap (λ (x : ChunkContents). is_none x.reason) tail ∙ waits.whole.sealed)))

-- ---- once the growing chunk has gone on

module _ (now : ℕ) (es : List Entry) (later : Later) (old seen : ChunksContents) (was : old ≡ seen) (good : AreChunks old) (g grown : ChunkContents) (some : old.growing ≡ Some g)
    (gone : (closed : ChunkContents) × Closes (with_run (numbered_from (g.first + count_in g) es) now g) closed × (grown ≡ joined closed later.tail)) where
  goes_on : (new : ChunksContents) → new ≡ put_behind gone.0 old.waiting later → GoesOn now es later seen new
  goes_on new is = record {
    chunk = g;
    grows = ap (λ (x : ChunksContents). x.growing) (sym was) ∙ some;
    closed = gone.0;
    closes = subst (λ n. Closes (with_run (numbered_from n es) now g) gone.0) (up_to_next old g good some ∙ ap (λ (x : ChunksContents). x.next) was) gone.1;
    is = is ∙ ap (λ (x : ChunksContents). put_behind gone.0 x.waiting later) was;
  }

  pub goes_on_growing : is_none later.tail.reason ≡ true → GoesOn now es later seen (record { next = later.next; waiting = old.waiting; growing = Some grown })
  goes_on_growing open_yet =
      goes_on (record { next = later.next; waiting = old.waiting; growing = Some grown })
      ((λ i. record { next = later.next; waiting = old.waiting; growing = Some (gone.2 i) }) ∙ ap (λ b. put_as b gone.0 old.waiting later) (sym open_yet))

  pub goes_on_sealed : is_none later.tail.reason ≡ false → (new : ChunksContents) → new ≡ record { next = later.next; waiting = old.waiting ++ grown ∷ later.sealed.items; growing = later.growing } → GoesOn now es later seen new
  goes_on_sealed sealed new is = goes_on new (is ∙ (λ i. record { next = later.next; waiting = old.waiting ++ gone.2 i ∷ later.sealed.items; growing = later.growing }) ∙ ap (λ b. put_as b gone.0 old.waiting later) (sym sealed))

  module _ (any : 0 < length es) where
    abbrev ends : ℕ
    ends = g.first + count_in g

    pub grown_count : count_in grown ≡ count_in g + length es + count_in later.tail
    grown_count = ap count_in gone.2 ∙ omega (arith, count_joined gone.0 later.tail (head_closed ends now es any g gone.0 gone.1), count_closed ends now es any g gone.0 gone.1)

    pub grown_size : size_of_chunk grown ≡ size_of_chunk g + size_of_all es + size_of_chunk later.tail
    grown_size = ap size_of_chunk gone.2 ∙ omega (arith, size_joined gone.0 later.tail (head_closed ends now es any g gone.0 gone.1), size_closed ends now es any g gone.0 gone.1)

-- ---- a push across a closed head

-- what it comes to, whatever head is closed into which block
pub record Crosses (rules : Rules) (now : ℕ) (es front : List Entry) (old : ChunksContents) (later : Later) : Type 0 where
  pub tail : old.next + length front + count_in later.tail ≤ 2 ^ 62
  pub all : is_none later.tail.reason ≡ false → old.next + length front + later.count ≤ 2 ^ 62
  pub stands : (new : ChunksContents) → GoesOn now front later old new → CanStand new
  pub takes : (new : ChunksContents) → GoesOn now front later old new → Takes rules now es old new

module _ (rules : Rules) (now : ℕ) (p : List Entry) (e : Entry) (rest : List Entry) (old : ChunksContents) (before : CanStand old) (g : ChunkContents) (some : old.growing ≡ Some g)
    (room : 0 < length p → HasRoom rules g p) (reached : is_reached rules g (p ++ e ∷ []) ≡ true) (later : Later)
    (continues : Continues rules now (size_of_chunk g + size_of_all (p ++ e ∷ [])) (old.next + length (p ++ e ∷ [])) rest later)
    (few : old.next + length ((p ++ e ∷ []) ++ rest) ≤ 2 ^ 62) (target : rules.chunk_target_size ≤ 2 ^ 30) (short : All IsShort ((p ++ e ∷ []) ++ rest)) where
  abbrev front : List Entry
  front = p ++ e ∷ []

  abbrev first_filled : ChunkContents
  first_filled = with_run (numbered_from old.next front) now g

  some_front : 0 < length front
  some_front = omega (arith, length-append p (e ∷ []))

  takes_closed : (closed : ChunkContents) → Closes first_filled closed → Takes rules now (front ++ rest) old (put_behind closed old.waiting later)
  takes_closed closed closes_it =
      let filled : size_of_chunk first_filled ≡ size_of_chunk g + size_of_all front = omega (arith, head_size old.next now front some_front g closed closes_it) in
      let open_yet : g.reason ≡ None = ap (λ (x : ChunkContents). x.reason) (sym (some_grows old g some)) ∙ (next_of old before.chunks).open_yet in
      takes_append rules now front rest old (closed_into (nat_le rules.chunk_target_size (size_of_chunk g + size_of_all front)) closed (old.next + length front) old.waiting) (put_behind closed old.waiting later)
      (subst (λ n. Takes rules now front old (closed_into (nat_le rules.chunk_target_size n) closed (old.next + length front) old.waiting)) filled (takes_front rules now p e old g closed some room reached closes_it))
      (continues closed old.waiting (is_closed old.next now front some_front g closed closes_it open_yet) (size_closed old.next now front some_front g closed closes_it))

  takes_gone : (new : ChunksContents) → GoesOn now front later old new → Takes rules now (front ++ rest) old new
  takes_gone new goes =
      let same : goes.chunk ≡ g = cc (goes.grows, some) in
      subst (Takes rules now (front ++ rest) old) (sym goes.is)
      (takes_closed goes.closed (subst (λ (x : ChunkContents). Closes (with_run (numbered_from old.next front) now x) goes.closed) same goes.closes))

  stands : (new : ChunksContents) → Takes rules now (front ++ rest) old new → CanStand new
  stands new = stands_all rules now (front ++ rest) old new before few target short

  -- closed in the order in which they came, say
  abbrev one_closed : ChunkContents
  one_closed = with_block first_filled.head first_filled

  one_closes : Closes first_filled one_closed
  one_closes = closes_by first_filled.head first_filled first_filled.head (omega (arith, length_run old.next g.head first_filled.head front refl, some_front)) (IsPermutation-refl first_filled.head)

  takes_as : (b : Bool) → is_none later.tail.reason ≡ b → Takes rules now (front ++ rest) old (put_as b one_closed old.waiting later)
  takes_as b is = subst (λ x. Takes rules now (front ++ rest) old (put_as x one_closed old.waiting later)) is (takes_closed one_closed one_closes)

  count_there : g.first + count_in (joined one_closed later.tail) ≡ old.next + length front + count_in later.tail
  count_there = omega (arith, count_joined one_closed later.tail refl, count_closed old.next now front some_front g one_closed one_closes, up_to_next old g before.chunks some)

  bounded_all : is_none later.tail.reason ≡ false → old.next + length front + count_in later.tail + sum_by count_in later.sealed.items ≤ 2 ^ 62
  bounded_all sealed =
      let new : ChunksContents = put_as false one_closed old.waiting later in
      let balance = count_all rules now (front ++ rest) old new before.chunks few target short (takes_as false sealed) in
      let sums = sum_by-append count_in old.waiting (joined one_closed later.tail ∷ later.sealed.items) in
      let cons = sum_by-cons count_in (joined one_closed later.tail) later.sealed.items in
      let there = stands new (takes_as false sealed) in
      omega (arith, count_there, balance, sums, cons, ap (λ (x : ChunkContents). x.first) (some_grows old g some), (next_of new there.chunks).up_to, there.chunks.few)

  bounded : (b : Bool) → is_none later.tail.reason ≡ b → old.next + length front + count_in later.tail ≤ 2 ^ 62
  bounded true open_yet =
      let there = (stands (put_as true one_closed old.waiting later) (takes_as true open_yet)).chunks in
      omega (arith, count_there, there.growing.up_to, there.few)
  bounded false sealed = omega (arith, bounded_all sealed)

  crossed : IsCounted later → Crosses rules now (front ++ rest) front old later
  crossed counted = record {
    tail = bounded (is_none later.tail.reason) refl;
    all = λ sealed. omega (arith, bounded_all sealed, counted.count sealed);
    stands = λ new goes. stands new (takes_gone new goes);
    takes = takes_gone;
  }

-- the chunk has this size, and the next number is this one, once the first of them are in
pub crosses : (rules : Rules) (now : ℕ) (es : List Entry) (count : ℕ) (old : ChunksContents) → CanStand old → Reaches rules es count old → (later : Later) → IsCounted later → old.next + length es ≤ 2 ^ 62 → rules.chunk_target_size ≤ 2 ^ 30 → All IsShort es
    → (front rest : List Entry) (size next : ℕ) → front ≡ take (count + 1) es → rest ≡ drop (count + 1) es → size ≡ size_of_chunk (chunk_to_grow old) + size_of_all front → next ≡ old.next + length front → Continues rules now size next rest later → Crosses rules now es front old later
crosses rules now es count old before reaches later counted few target short front rest size next is rest_is size_is next_is goes =
    let g = reaches.chunk in
    let e : Entry = get_or es count (record { stamp = 0; line = [] }) in
    let p = take count es in
    let split : take (count + 1) es ≡ p ++ e ∷ [] = take_more es count (record { stamp = 0; line = [] }) reaches.below in
    let there = is ∙ split in
    let whole : (p ++ e ∷ []) ++ rest ≡ es = (λ i. (sym split) i ++ rest_is i) ∙ take-append-drop (count + 1) es in
    let sized : size ≡ size_of_chunk g + size_of_all (p ++ e ∷ []) = size_is ∙ (λ i. size_of_chunk (some_grows old g reaches.grows i) + size_of_all (there i)) in
    let goes_on : Continues rules now (size_of_chunk g + size_of_all (p ++ e ∷ [])) (old.next + length (p ++ e ∷ [])) rest later =
    subst (λ n. Continues rules now n (old.next + length (p ++ e ∷ [])) rest later) sized (subst (λ n. Continues rules now size n rest later) (next_is ∙ ap (λ l. old.next + length l) there) goes) in
    let count_p : length p ≡ count = omega (arith, length-take count es, reaches.below) in
    subst (λ l. Crosses rules now l front old later) whole (subst (λ f. Crosses rules now ((p ++ e ∷ []) ++ rest) f old later) (sym there)
    (crossed rules now p e rest old before g reaches.grows (λ some. reaches.room (omega arith)) (subst (λ l. is_reached rules g l ≡ true) split reaches.reached) later goes_on
    (subst (λ l. old.next + length l ≤ 2 ^ 62) (sym whole) few) target (subst (All IsShort) (sym whole) short) counted))
