use Rattle.std.proofs.Common.{List, ℕ, map, subst}
use Rattle.ing_parts.specs.Parts.{AddsParts, entries_in, found_of}
use Rattle.ing_parts.proofs.PartLaws.{parts_one}
use Rattle.ing_parts.proofs.listing.add_part.Goals as goal

pub returns : goal.returns
returns g c =
    let old = c.args.parts.now.items in
    let new = c.push.new.self.items in
    subst (λ (name : List ℕ). AddsParts (map (found_of name) (entries_in c.args.source)) old new) c.in_ok-name.ensures
    (parts_one (record { name = c.in_ok-name.name; source = c.args.source }) old new c.in_ok-push.ensures.items)
