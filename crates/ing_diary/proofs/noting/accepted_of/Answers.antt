use Rattle.std.proofs.Common.{◌≡◌, ◌+◌, ◌++◌, suc, List, ◌∷◌, slice_get, ap, sym, ◌∙◌, append_assoc, arith, drop, length}
use Rattle.std.specs.Vec.Iter.{into_iter_items}
use Rattle.ing_rows.specs.declared.entry.Entry.{Entry}
use Rattle.ing_diary.specs.Notes.{note_under, noted, notes_of, number_told}
use Rattle.ing_diary.proofs.NoteLaws.{noted_next}
use Rattle.ing_diary.proofs.noting.accepted_of.Goals as goal

pub loop-entry-preserved : goal.loop-entry-preserved
loop-entry-preserved c =
    let at = c.loop-entry.invariant in
    let e = c.in-Some.entry in
    let more = into_iter_items c.next.new.self in
    let vs = c.args.verdicts.now in
    let place = c.loop-entry.place in
    let items : into_iter_items c.loop-entry.entry-iterator ≡ e ∷ more = c.in-Some.ensures.steps.0 in
    let longer : length (into_iter_items c.loop-entry.entry-iterator) ≡ suc (length more) = ap length items in
    let next : place + 1 ≡ suc place = omega arith in
    record {
      rest = λ s.
          let was = at.rest s in
          let under = note_under s e c.number_at.result in
          let new : notes_of s c.add_under.new.accepted.items ≡ notes_of s c.loop-entry.accepted.items ++ under = c.add_under.ensures.noted s in
          let told : under ≡ note_under s e (number_told (slice_get vs place)) = ap (note_under s e) c.number_at.ensures in
          ap (λ l. l ++ noted s more (drop (place + 1) vs)) new
          ∙ append_assoc (notes_of s c.loop-entry.accepted.items) under (noted s more (drop (place + 1) vs))
          ∙ ap (λ n. notes_of s c.loop-entry.accepted.items ++ (under ++ noted s more (drop n vs))) next
          ∙ ap (λ l. notes_of s c.loop-entry.accepted.items ++ (l ++ noted s more (drop (suc place) vs))) told
          ∙ ap (λ l. notes_of s c.loop-entry.accepted.items ++ l) (sym (noted_next s e more place vs))
          ∙ ap (λ (es : List Entry). notes_of s c.loop-entry.accepted.items ++ noted s es (drop place vs)) (sym items)
          ∙ was;
      room = omega (arith, at.room, longer, c.add_under.ensures.count, c.add_under.ensures.room);
      few = omega (arith, at.few, longer);
      left = omega (arith, c.in-Some.ensures.steps.1, at.left, longer);
    }
