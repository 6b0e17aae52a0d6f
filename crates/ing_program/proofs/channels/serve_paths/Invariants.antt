use Rattle.std.proofs.Common.{reverse, true}
use Rattle.ing_lanes.specs.Earlier.{earlier_of}
use Rattle.ing_lanes.specs.Names.{names_at}
use Rattle.ing_program.proofs.channels.serve_paths.Given as goal

-- the shards are named by what they begin with
abbrev pub ghosts-run_paths : goal.ghosts-run_paths
ghosts-run_paths g a = record {
  settings = a.shards.settings;
  has_logs = true;
  books = names_at (reverse a.shards.last_first.items);
  earlier = earlier_of (reverse a.shards.last_first.items);
}
