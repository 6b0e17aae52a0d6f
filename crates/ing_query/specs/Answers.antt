-- What a query is asked of (Loki documentation: HTTP API, query range).
use Rattle.std.specs.Prelude.{List}
use Rattle.std.specs.List.{flat_map}
use Rattle.ing_parts.specs.declared.found.Found.{Found}
use Rattle.ing_parts.specs.declared.snapshot.Snapshot.{Snapshot}
use Rattle.ing_parts.specs.Parts.{standing, wanted}

-- what stands in all of these
abbrev pub standing_in : {R : Type 0} → List (Snapshot R) → List Found
standing_in snapshots = flat_map standing snapshots

-- what is wanted of all of these
abbrev pub wanted_in : {R : Type 0} → List (Snapshot R) → List Found
wanted_in snapshots = flat_map wanted snapshots
