use Rattle.std.proofs.Common.{List, ◌∙◌, map, subst}
use Rattle.std.specs.Prelude.{IsPermutation}
use Rattle.std.proofs.lemmas.List.Sorted.{IsPermutation-map, IsPermutation-sym}
use Rattle.ing_chunk.specs.declared.numbered.Numbered.{Numbered}
use Rattle.ing_parts.specs.Parts.{found_of}
use Rattle.ing_parts.proofs.PartLaws.{parts_alike}
use Rattle.ing_parts.proofs.listing.list_head.Goals as goal

pub returns : goal.returns
returns g c =
    let name = c.args.name.now in
    let head = c.args.head.now in
    let block = c.of_head.result in
    let same : IsPermutation head block = subst (λ (l : List Numbered). IsPermutation l block) (c.in_ok-copies.ensures ∙ c.entries.ensures) c.of_head.ensures in
    parts_alike (map (found_of name) block) (map (found_of name) head) c.args.parts.now.items c.add_part.new.parts.items
    (IsPermutation-map (found_of name) block head (IsPermutation-sym head block same)) c.in_ok-add_part.ensures
