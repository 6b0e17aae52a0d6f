use Rattle.std.proofs.Common.{Some, ap, cond, rules, refl, sym, ◌∙◌, bytes_eq, string_bytes}
use Rattle.std.specs.BTreeMap.{get_by_text}
use Rattle.std.proofs.lemmas.Map.Text.{btree_map_updates_text}
use Rattle.ing_labels.specs.Canonical.{canonical_of}
use Rattle.ing_shard.specs.declared.names.Named.{Named}
use Rattle.ing_shard.specs.declared.names.StreamNames.{StreamNames}
use Rattle.ing_shard.specs.Names.{name_hash}
use Rattle.ing_shard.proofs.NameLaws.{not_hashed, other_written, hashed_added}
use Rattle.ing_shard.proofs.names.StreamNames.insert.Goals as goal

pub returns-then-contains_key-clause-ok : goal.returns-then-contains_key-clause-ok
returns-then-contains_key-clause-ok c =
    let name = canonical_of c.args.labels.now in
    let old = c.args.self.now in
    let new : StreamNames = record { by_hash = old.by_hash; others = c.insert.new.self } in
    other_written name (Some c.args.number) old new refl (not_hashed old name c.requires)
    (λ n. btree_map_updates_text (string_bytes c.in_ok-other.other) old.others c.insert.new.self (Some c.args.number) c.in_ok-insert.ensures.updates n
    ∙ ap (λ bs. cond (bytes_eq bs n) (Some c.args.number) (get_by_text old.others n)) (c.in_ok-other.ensures.ok ∙ c.name-name.ensures.text))

pub returns-clause-ok : goal.returns-clause-ok
returns-clause-ok c =
    let name = canonical_of c.args.labels.now in
    let old = c.args.self.now in
    let named : Named = record { labels = c.in_ok-clone.field-0; number = c.args.number } in
    let new : StreamNames = record { by_hash = c.insert-2.new.self; others = old.others } in
    hashed_added name named old new c.hash_of-hash.result (ap canonical_of (search rules)) (c.hash_of-hash.ensures ∙ ap name_hash c.name-name.ensures.text) refl
    (sym c.contains_key.ensures ∙ c.if-contains_key.false) c.in_ok-insert-2.ensures.updates
