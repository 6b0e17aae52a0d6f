use Rattle.std.proofs.lemmas.List.{nil_from_length}
use Rattle.std.proofs.Common.{◌≡◌, ◌++◌, [], List, ap, sym, subst, ◌∙◌, append-nil, map}
use Rattle.std.specs.Prelude.{IsPermutation}
use Rattle.std.specs.Vec.Iter.{into_iter_items}
use Rattle.std.proofs.lemmas.List.Sorted.{IsPermutation-append_right, IsPermutation-map}
use Rattle.ing_chunk.specs.declared.numbered.Numbered.{Numbered}
use Rattle.ing_parts.specs.declared.found.Found.{Found}
use Rattle.ing_parts.specs.Parts.{found_in}
use Rattle.ctl_export.specs.Reads.{numbered_of}
use Rattle.ctl_export.proofs.reading.add_part.Goals as goal

pub returns-clause-all : goal.returns-clause-all
returns-clause-all g c honest =
    let old = c.args.entries.now.items in
    let all = found_in c.args.part.now in
    let found = c.in_ok-found-items.found-items.items in
    let empty : into_iter_items c.loop-found.found-iterator ≡ [] = nil_from_length (into_iter_items c.loop-found.found-iterator) (sym c.loop-found.invariant.left ∙ c.in-None.ensures.steps.0) in
    let gives : into_iter_items c.into_iter-found-iterator.result ≡ found = c.into_iter-found-iterator.ensures.into_iter_gives.0 in
    let items : c.loop-found.entries.items ≡ old ++ map numbered_of found =
    sym (append-nil c.loop-found.entries.items)
    ∙ ap (λ (fs : List Found). c.loop-found.entries.items ++ map numbered_of fs) (sym empty)
    ∙ c.loop-found.invariant.rest
    ∙ ap (λ (fs : List Found). old ++ map numbered_of fs) gives in
    subst (λ (es : List Numbered). IsPermutation (old ++ map numbered_of all) es) (sym items)
    (IsPermutation-append_right old (map numbered_of all) (map numbered_of found) (IsPermutation-map numbered_of all found (c.in_ok-found-items.ensures.answer honest)))
