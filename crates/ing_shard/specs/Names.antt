-- The streams of a tenant by their names, as contracts see it.
use Rattle.std.specs.Prelude.{ℕ, List, Option, Some, None, bytes_eq, if◌then◌else◌}
use Rattle.std.specs.Hash.FoldHasher as folding
use Rattle.std.specs.Option.{option_map_or, option_or}
use Rattle.std.specs.Ordering.{nat_cmp}
use Rattle.std.specs.BTreeMap as tree
use Rattle.std.specs.BTreeMap.{get_by_text}
use Rattle.ing_labels.specs.Canonical.{canonical_of}
use Rattle.ing_shard.specs.declared.names.Named.{Named}
use Rattle.ing_shard.specs.declared.names.StreamNames.{StreamNames}

-- what the standard library's fast hasher gives for the bytes of a name
unfoldable pub name_hash : List ℕ → ℕ
name_hash name = folding.finish (folding.write folding.initial name)

-- the number of a stream, where this is its canonical name
abbrev pub number_if_named : List ℕ → Named → Option ℕ
number_if_named n named = if bytes_eq (canonical_of named.labels) n then Some named.number else None

-- the number of the stream of this name, where it is kept under the hash of the name
abbrev pub find_hashed : StreamNames → List ℕ → Option ℕ
find_hashed names n = option_map_or (number_if_named n) (tree.get nat_cmp names.by_hash (name_hash n)) None

-- the number of the stream of this name
unfoldable pub find_in : StreamNames → List ℕ → Option ℕ
find_in names n = option_or (find_hashed names n) (get_by_text names.others n)
