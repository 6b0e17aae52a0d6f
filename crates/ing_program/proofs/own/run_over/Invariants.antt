use Rattle.std.proofs.Common.{reverse}
use Rattle.ing_program.proofs.OwnLaws.{begun_with}
use Rattle.ing_program.proofs.own.run_over.Given as goal

-- the shards are named by what they begin with
abbrev pub ghosts-run_begun : goal.ghosts-run_begun
ghosts-run_begun g a = record { begun = begun_with (reverse a.shards.last_first.items) }
