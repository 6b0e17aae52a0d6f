-- A cursor tells of the stamps behind it.
use Rattle.std.proofs.Common.{◌≡◌, ◌<◌, ◌≤◌, ◌==◌, ◌&&◌, ◌+◌, Bool, true, false, cond, nat_le, nat_lt, refl, ap, sym, subst, ◌∙◌, Some, arith}
use Rattle.std.specs.Cmp.Lexicographic.{slice_cmp}
use Rattle.std.specs.declared.cmp.Ordering.{Ordering}
use Rattle.std.specs.declared.cmp.Ordering.TheVariants.{Less, Equal, Greater}
use Rattle.std.specs.Ordering.{is_lt, nat_cmp, ordering_then}
use Rattle.std.proofs.lemmas.Bool.{le-leb, le-ltb, leb-false, leb-true, lt-ltb, ne_eqb, true≢false}
use Rattle.ing_rows.specs.Cursors.{Cursor}
use Rattle.ing_rows.specs.declared.order.Order.TheVariants.{Forward, Backward}
use Rattle.ing_parts.specs.declared.found.Found.{Found}
use Rattle.ing_parts.specs.Answers.{comes_first, precedes}
use Rattle.ing_parts.specs.Parts.{found_there, is_behind, is_within}
use Rattle.ing_parts.specs.Questions.{Question}

-- how names and numbers stand to each other
ties : Found → Found → Ordering
ties f g = ordering_then (slice_cmp nat_cmp f.name g.name) (nat_cmp f.number g.number)

-- one of a later stamp does not come first
later : (f g : Found) → g.entry.stamp < f.entry.stamp → comes_first f g ≡ false
unfolding ties
later f g h =
    ap (λ b. is_lt (ordering_then (cond b Less (cond (f.entry.stamp == g.entry.stamp) Equal Greater)) (ties f g))) (le-ltb f.entry.stamp g.entry.stamp (omega (arith, h)))
    ∙ ap (λ b. is_lt (ordering_then (cond b Equal Greater) (ties f g))) (ne_eqb f.entry.stamp g.entry.stamp (λ is. absurd (omega (arith, h, is))))

not_later : (f g : Found) → comes_first f g ≡ true → f.entry.stamp ≤ g.entry.stamp
not_later f g first = by (nat_le f.entry.stamp g.entry.stamp) refl where
  by : (t : Bool) → nat_le f.entry.stamp g.entry.stamp ≡ t → f.entry.stamp ≤ g.entry.stamp
  by true is = leb-true f.entry.stamp g.entry.stamp is
  by false is = absurd (true≢false (sym first ∙ later f g (leb-false f.entry.stamp g.entry.stamp is)))

-- beside a test that fails, others do not count
same_with : (p q b : Bool) → (b ≡ true → p ≡ q) → (p && b) ≡ (q && b)
same_with p q true h = ap (λ x. x && true) (h refl)
same_with true true false h = refl
same_with true false false h = refl
same_with false true false h = refl
same_with false false false h = refl

module _ (q : Question) (c : Cursor) (at : q.after ≡ Some c) where
  -- behind a cursor no stamp is less, where stamps rise
  pub start_narrowed : q.order ≡ Forward → q.start < c.stamp → (f : Found) → is_within (record { start = c.stamp; end = q.end; order = q.order; limit = q.limit; after = q.after }) f ≡ is_within q f
  start_narrowed forward h f = same_with _ _ (is_behind q.order q.after f) (λ behind.
      let x = f.entry.stamp in
      let first : precedes Forward (found_there c) f ≡ true = subst (λ o. is_behind o (Some c) f ≡ true) forward (subst (λ a. is_behind q.order a f ≡ true) at behind) in
      let from : c.stamp ≤ x = not_later (found_there c) f first in
      ap (λ b. b && nat_lt x q.end) (le-leb c.stamp x from ∙ sym (le-leb q.start x (omega (arith, h, from)))))

  -- and none is greater, where they fall
  pub end_narrowed : q.order ≡ Backward → c.stamp < q.end → (f : Found) → is_within (record { start = q.start; end = c.stamp + 1; order = q.order; limit = q.limit; after = q.after }) f ≡ is_within q f
  end_narrowed backward h f = same_with _ _ (is_behind q.order q.after f) (λ behind.
      let x = f.entry.stamp in
      let first : precedes Backward (found_there c) f ≡ true = subst (λ o. is_behind o (Some c) f ≡ true) backward (subst (λ a. is_behind q.order a f ≡ true) at behind) in
      let upto : x ≤ c.stamp = not_later f (found_there c) first in
      ap (λ b. nat_le q.start x && b) (lt-ltb x (c.stamp + 1) (omega (arith, upto)) ∙ sym (lt-ltb x q.end (omega (arith, upto, h)))))
