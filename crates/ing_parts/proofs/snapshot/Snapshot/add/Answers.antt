use Rattle.std.proofs.Common.{List, ℕ, map, refl, subst}
use Rattle.ing_parts.specs.declared.snapshot.Snapshot.{Snapshot}
use Rattle.ing_parts.specs.Parts.{Adds, entries_in, found_of}
use Rattle.ing_parts.proofs.RangeLaws.{adds_part}
use Rattle.ing_parts.proofs.snapshot.Snapshot.add.Goals as goal

pub returns : goal.returns
returns g c =
    let old = c.args.self.now in
    let new : Snapshot g.row.R.Denot = record { front = old.front; question = old.question; best = old.best; parts = c.push.new.self } in
    subst (λ (name : List ℕ). Adds (map (found_of name) (entries_in c.args.source)) old new) c.in_ok-name.ensures
    (adds_part (record { name = c.in_ok-name.name; source = c.args.source }) old new refl refl refl c.in_ok-push.ensures.items)
