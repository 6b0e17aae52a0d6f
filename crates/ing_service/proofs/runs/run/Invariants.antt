use Rattle.ing_service.specs.Held.{begun_new}
use Rattle.ing_service.proofs.runs.run.Given as goal

-- the shards are named by how many they are
abbrev pub ghosts-run_own : goal.ghosts-run_own
ghosts-run_own g a = record { begun = begun_new a.settings.shards }
