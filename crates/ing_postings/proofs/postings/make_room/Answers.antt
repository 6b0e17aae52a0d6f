use Rattle.std.proofs.Common.{◌≡◌, [], arith, refl}
use Rattle.std.proofs.lemmas.Map.Text.{text_keys}
use Rattle.ing_postings.specs.Index.{list_of}
use Rattle.ing_postings.proofs.postings.make_room.Goals as goal

pub returns-in-Some-clause-same : goal.returns-in-Some-clause-same
returns-in-Some-clause-same c = λ n v. grind (arith, text_keys, c.make_room_in.ensures.same v)

pub returns-in-Some-clause-kept : goal.returns-in-Some-clause-kept
returns-in-Some-clause-kept c = λ n v. grind (arith, text_keys, c.make_room_in.ensures.kept v)

pub returns-clause-same : goal.returns-clause-same
returns-clause-same c = λ n v.
    let none : list_of c.new-lists.result v ≡ [] = rw c.new-lists.ensures.empty refl in
    grind (arith, text_keys, c.in_ok-make_room_in.ensures.same v, none)

pub returns-clause-kept : goal.returns-clause-kept
returns-clause-kept c = λ n v. grind (arith, text_keys, c.in_ok-make_room_in.ensures.kept v)
