use Rattle.std.proofs.Common.{None, ap, refl, sym, subst, ◌∙◌, is_some}
use Rattle.std.proofs.lemmas.Map.Text.{btree_map_updates_text}
use Rattle.ing_shard.specs.declared.names.StreamNames.{StreamNames}
use Rattle.ing_shard.proofs.NameLaws.{IsOut, hashed_out, nothing_out, both_out}
use Rattle.ing_shard.proofs.names.StreamNames.remove.Goals as goal
use Rattle.ing_shard.proofs.names.StreamNames.remove.Goals.{then-is_some+in-Some-1, then-is_some+in-None-1, else-is_some}

pub returns : goal.returns
returns c =
    let name = c.args.name.now in
    let old = c.args.self.now in
    let mid = c.if-is_some.self in
    let new : StreamNames = record { by_hash = mid.by_hash; others = c.remove-2.new.self } in
    let out : IsOut name old mid = elim c.if-is_some.branch [
      | then-is_some+in-Some-1 w ↦ subst (IsOut name old) (sym w.self-is) (hashed_out name old (record { by_hash = w.remove.new.self; others = old.others }) w.hash_of.result w.hash_of.ensures refl
          (ap is_some (sym c.find_hashed.ensures) ∙ sym c.is_some.ensures ∙ w.if-is_some.true) w.remove.ensures.updates)
      | then-is_some+in-None-1 w ↦ subst (IsOut name old) (sym w.self-is) (hashed_out name old (record { by_hash = w.remove.new.self; others = old.others }) w.hash_of.result w.hash_of.ensures refl
          (ap is_some (sym c.find_hashed.ensures) ∙ sym c.is_some.ensures ∙ w.if-is_some.true) w.remove.ensures.updates)
      | else-is_some w ↦ subst (IsOut name old) (sym w.self-is) (nothing_out name old (ap is_some (sym c.find_hashed.ensures) ∙ sym c.is_some.ensures ∙ w.if-is_some.false))
    ] in
    both_out name old mid new out refl (btree_map_updates_text name mid.others c.remove-2.new.self None c.remove-2.ensures.updates)
