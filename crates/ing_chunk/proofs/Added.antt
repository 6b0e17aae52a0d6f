-- Accepted entries: what the code's steps come to.
use Rattle.std.proofs.Common.{◌≡◌, ℕ, ◌+◌, Bool, true, false, [], ◌∷◌, ◌++◌, sym, ap, subst, ◌∙◌, Some, None, ◌<◌, List, length, nat_le, refl, arith, append_assoc, length-append}
use Rattle.std.specs.Option.{unwrap_or}
use Rattle.ing_rows.specs.declared.entry.Entry.{Entry}
use Rattle.ing_rows.specs.declared.rules.Rules.{Rules}
use Rattle.ing_chunk.specs.Chunks.{ChunkContents, ChunksContents, with_entry, chunk_to_grow, empty_chunk, settled, placed, is_full, is_to_cut, Settles, TakesOne, size_of_entries, size_of_chunk, size_of_all, with_run, numbered_from, Takes}
use Rattle.std.proofs.lemmas.Bool.Decides.{nat_tests}
use Rattle.std.proofs.lemmas.List.Sorted.{IsPermutation-refl}
use Rattle.std.proofs.lemmas.List.Sums.{sum_by-cons, sum_by_push}
use Rattle.ing_rows.specs.Rows.{size_of}
use Rattle.ing_chunk.specs.declared.numbered.Numbered.{Numbered}

-- where a chunk stands that has one more entry
abbrev pub stood : Bool → ChunkContents → ℕ → List ChunkContents → ChunksContents
stood true done next before = record { next = next; waiting = before ++ done ∷ []; growing = None }
stood false done next before = record { next = next; waiting = before; growing = Some done }

pub takes_settled : (rules : Rules) (now : ℕ) (e : Entry) (c : ChunksContents) (g done : ChunkContents) → g ≡ with_entry e c.next now (chunk_to_grow c) → Settles rules g done → (full : Bool) → is_full rules g ≡ full → TakesOne rules now e c (stood full done (c.next + 1) c.waiting)
takes_settled rules now e c g done grew settles full full_is =
    let more : ChunkContents = with_entry e c.next now (chunk_to_grow c) in
    let settled_so : Settles rules more done = subst (λ x. Settles rules x done) grew settles in
    let same : is_full rules more ≡ full = ap (is_full rules) (sym grew) ∙ full_is in
    subst (λ t. TakesOne rules now e c (stood t done (c.next + 1) c.waiting)) same (record {
      block = settled_so.0;
      reorders = settled_so.1;
      is = ap (λ x. stood (is_full rules more) x (c.next + 1) c.waiting) settled_so.2 ∙ placed_is (is_full rules more) (is_to_cut rules more) settled_so.0 more;
    }) where
      placed_is : (t cut : Bool) (block : List Numbered) (x : ChunkContents) → stood t (settled t cut block x) (c.next + 1) c.waiting ≡ placed t cut block x c
      placed_is true cut block x = refl
      placed_is false cut block x = refl

-- the growing chunk, or a new one
pub none_grows : (c : ChunksContents) → c.growing ≡ None → chunk_to_grow c ≡ empty_chunk c.next
none_grows c none = ap (λ o. unwrap_or o (empty_chunk c.next)) none

pub some_grows : (c : ChunksContents) (g : ChunkContents) → c.growing ≡ Some g → chunk_to_grow c ≡ g
some_grows c g some = ap (λ o. unwrap_or o (empty_chunk c.next)) some

-- ---- entries that reach no size go into the head together

pub not_reached : (size limit : ℕ) → size < limit → nat_le limit size ≡ false
not_reached size limit h = grind (arith, nat_tests)

module _ (rules : Rules) (now : ℕ) where
  takes_in_head : (e : Entry) (c : ChunksContents) (g : ChunkContents) → c.growing ≡ Some g → size_of_entries g.head + size_of e < rules.chunk_block_size → size_of_chunk g + size_of e < rules.chunk_target_size
      → TakesOne rules now e c (record { next = c.next + 1; waiting = c.waiting; growing = Some (with_entry e c.next now g) })
  takes_in_head e c g some head whole =
      let more : ChunkContents = with_entry e c.next now g in
      let size : size_of_entries (g.head ++ record { number = c.next; entry = e } ∷ []) ≡ size_of_entries g.head + size_of e = sum_by_push (λ (x : Numbered). size_of x.entry) g.head (record { number = c.next; entry = e }) in
      let full : is_full rules more ≡ false = not_reached (size_of_chunk more) rules.chunk_target_size (omega (arith, size)) in
      let cut : is_to_cut rules more ≡ false = not_reached (size_of_entries more.head) rules.chunk_block_size (omega (arith, size)) in
      takes_settled rules now e c more more (ap (with_entry e c.next now) (sym (some_grows c g some))) (more.head, IsPermutation-refl more.head, λ i. settled ((sym full) i) ((sym cut) i) more.head more) false full

  pub takes_run : (es : List Entry) (c : ChunksContents) (g : ChunkContents) → 0 < length es → c.growing ≡ Some g → size_of_entries g.head + size_of_all es < rules.chunk_block_size → size_of_chunk g + size_of_all es < rules.chunk_target_size
      → Takes rules now es c (record { next = c.next + length es; waiting = c.waiting; growing = Some (with_run (numbered_from c.next es) now g) })
  takes_run [] c g any some head whole = absurd (omega arith)
  takes_run (e ∷ []) c g any some head whole =
      let size = sum_by-cons size_of e [] in
      (record { next = c.next + 1; waiting = c.waiting; growing = Some (with_entry e c.next now g) }, takes_in_head e c g some (omega (arith, size)) (omega (arith, size)), refl)
  takes_run (e ∷ f ∷ es) c g any some head whole =
      let size = sum_by-cons size_of e (f ∷ es) in
      let more : ChunkContents = with_entry e c.next now g in
      let mid : ChunksContents = record { next = c.next + 1; waiting = c.waiting; growing = Some more } in
      let bigger = sum_by_push (λ (x : Numbered). size_of x.entry) g.head (record { number = c.next; entry = e }) in
      let rest = takes_run (f ∷ es) mid more (omega arith) refl (omega (arith, size, bigger)) (omega (arith, size, bigger)) in
      let next : c.next + 1 + length (f ∷ es) ≡ c.next + length (e ∷ f ∷ es) = omega arith in
      let joined : more.head ++ numbered_from (c.next + 1) (f ∷ es) ≡ g.head ++ numbered_from c.next (e ∷ f ∷ es) = append_assoc g.head (record { number = c.next; entry = e } ∷ []) (numbered_from (c.next + 1) (f ∷ es)) in (
        mid,
        takes_in_head e c g some (omega (arith, size)) (omega (arith, size)),
        subst (λ (x : ChunksContents). Takes rules now (f ∷ es) mid x) (λ i. record { next = next i; waiting = c.waiting; growing = Some (record g { head = joined i; last_update = now }) }) rest,
      )

pub length_numbered : (n : ℕ) (es : List Entry) → length (numbered_from n es) ≡ length es
length_numbered n [] = refl
length_numbered n (e ∷ es) = omega (arith, length_numbered (n + 1) es)

pub length_run : (n : ℕ) (head new : List Numbered) (es : List Entry) → new ≡ head ++ numbered_from n es → length new ≡ length head + length es
length_run n head new es is = omega (arith, ap length is, length-append head (numbered_from n es), length_numbered n es)
