use Rattle.std.proofs.Common.{◌≡◌, ◌++◌, List, filter, length, map, ap, sym, subst, ◌∙◌}
use Rattle.std.specs.Prelude.{IsPermutation}
use Rattle.std.specs.List.{flat_map}
use Rattle.std.proofs.lemmas.List.Sorted.{IsPermutation-sym, IsPermutation-trans}
use Rattle.ing_diary.specs.Faults.{stream_in}
use Rattle.ing_diary.specs.Fronts.{front_in, rows_since}
use Rattle.ing_diary.specs.Notes.{IsUnlike, Note, is_note_at, note_of}
use Rattle.ing_diary.proofs.MovedLaws.{counted_moved, unlike_moved}
use Rattle.ing_diary.proofs.settling.settle.Goals as goal

pub returns-in-None-clause-settled : goal.returns-in-None-clause-settled
returns-in-None-clause-settled g c honest =
    let rows = map note_of (rows_since (front_in c.args.fronts.now) c.args.shard.now.state.rows) in
    let ours = c.sort.new.notes.items in
    let theirs = c.sort-2.new.notes.items in
    let notes = c.args.notes.items in
    let spread : c.spread.new.notes.items ≡ flat_map (λ (noted : List Note). noted) c.in_ok-read.read.items =
    c.in_ok-spread.ensures
    ∙ ap (λ l. l ++ flat_map (λ (noted : List Note). noted) c.deref.result.now) c.new-ours.ensures.items
    ∙ ap (flat_map (λ (noted : List Note). noted)) c.deref.ensures.value in
    let read : IsPermutation rows c.spread.new.notes.items = subst (IsPermutation rows) (sym spread) (c.in_ok-read.ensures.all.exact honest) in
    let same : ours ≡ theirs = sym c.deref-2.ensures.value ∙ c.in-None.ensures.same ∙ c.deref-3.ensures.value in
    let mine = IsPermutation-trans rows c.spread.new.notes.items ours read c.sort.ensures.same in
    IsPermutation-trans rows theirs notes (subst (IsPermutation rows) same mine) (IsPermutation-sym notes theirs c.sort-2.ensures.same)

pub returns-in-None-clause-places : goal.returns-in-None-clause-places
returns-in-None-clause-places g c s number =
    let at = is_note_at s number in
    let ours = c.sort.new.notes.items in
    let theirs = c.sort-2.new.notes.items in
    let notes = c.args.notes.items in
    let spread : c.spread.new.notes.items ≡ flat_map (λ (noted : List Note). noted) c.in_ok-read.read.items =
    c.in_ok-spread.ensures
    ∙ ap (λ l. l ++ flat_map (λ (noted : List Note). noted) c.deref.result.now) c.new-ours.ensures.items
    ∙ ap (flat_map (λ (noted : List Note). noted)) c.deref.ensures.value in
    let same : ours ≡ theirs = sym c.deref-2.ensures.value ∙ c.in-None.ensures.same ∙ c.deref-3.ensures.value in
    c.in_ok-read.ensures.all.places (s, number)
    ∙ ap (λ l. length (filter at l)) (sym spread)
    ∙ sym (counted_moved at c.spread.new.notes.items ours c.sort.ensures.same)
    ∙ ap (λ l. length (filter at l)) same
    ∙ counted_moved at notes theirs c.sort-2.ensures.same

pub returns-clause-differs : goal.returns-clause-differs
returns-clause-differs g c honest =
    let rows = map note_of (rows_since (front_in c.args.fronts.now) c.args.shard.now.state.rows) in
    let ours = c.sort.new.notes.items in
    let theirs = c.sort-2.new.notes.items in
    let mismatch = c.in_ok-named-in-Some.field-0 in
    let spread : c.spread.new.notes.items ≡ flat_map (λ (noted : List Note). noted) c.in_ok-read.read.items =
    c.in_ok-spread.ensures
    ∙ ap (λ l. l ++ flat_map (λ (noted : List Note). noted) c.deref.result.now) c.new-ours.ensures.items
    ∙ ap (flat_map (λ (noted : List Note). noted)) c.deref.ensures.value in
    let read : IsPermutation rows c.spread.new.notes.items = subst (IsPermutation rows) (sym spread) (c.in_ok-read.ensures.all.exact honest) in
    let mine = IsPermutation-trans rows c.spread.new.notes.items ours read c.sort.ensures.same in
    unlike_moved (stream_in mismatch) mismatch.number rows ours c.args.notes.items theirs mine c.sort-2.ensures.same
    (subst (λ l. IsUnlike (stream_in mismatch) mismatch.number l theirs) c.deref-in-Some.ensures.value
    (subst (λ l. IsUnlike (stream_in mismatch) mismatch.number c.deref-in-Some.result.now l) c.deref-in-Some-2.ensures.value c.in_ok-named-in-Some.ensures))
