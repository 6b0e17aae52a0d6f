use Rattle.std.proofs.lemmas.List.{nil_from_length}
use Rattle.std.proofs.Common.{◌≡◌, ◌++◌, [], List, ap, sym, subst, ◌∙◌, append-nil, filter, map}
use Rattle.std.specs.Vec.Iter.{into_iter_items}
use Rattle.ing_chunk.specs.declared.numbered.Numbered.{Numbered}
use Rattle.ing_parts.specs.declared.found.Found.{Found}
use Rattle.ing_parts.specs.Parts.{found_in}
use Rattle.ing_diary.specs.Fronts.{is_from}
use Rattle.ing_diary.specs.Notes.{AreRead, has_number, numbered_of}
use Rattle.ing_diary.proofs.ReadLaws.{part_read, read_both, read_from, read_itself}
use Rattle.ing_diary.proofs.reading.add_read.Goals as goal

pub returns-clause-all : goal.returns-clause-all
returns-clause-all g c =
    let old = c.args.entries.now.items in
    let front = c.args.front in
    let honest = g.S.StoreEnd.is_honest in
    let all = map numbered_of (found_in c.args.part.now) in
    let found = c.in_ok-found-items.found-items.items in
    let empty : into_iter_items c.loop-found.found-iterator ≡ [] = nil_from_length (into_iter_items c.loop-found.found-iterator) (sym c.loop-found.invariant.left ∙ c.in-None.ensures.steps.0) in
    let gives : into_iter_items c.into_iter-found-iterator.result ≡ found = c.into_iter-found-iterator.ensures.into_iter_gives.0 in
    let items : c.loop-found.entries.items ≡ old ++ filter (is_from front) (map numbered_of found) =
    sym (append-nil c.loop-found.entries.items)
    ∙ ap (λ (fs : List Found). c.loop-found.entries.items ++ filter (is_from front) (map numbered_of fs)) (sym empty)
    ∙ c.loop-found.invariant.rest
    ∙ ap (λ (fs : List Found). old ++ filter (is_from front) (map numbered_of fs)) gives in
    let read = part_read honest front c.args.part.now found c.in_ok-found-items.ensures.some c.in_ok-found-items.ensures.answer in
    subst (λ (es : List Numbered). AreRead has_number honest (old ++ filter (is_from front) all) es) (sym items)
    (read_both has_number honest old old (filter (is_from front) all) (filter (is_from front) (map numbered_of found))
    (read_itself has_number honest old) (read_from honest front all (map numbered_of found) read))
