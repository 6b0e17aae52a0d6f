use Rattle.std.proofs.Common.{reverse, true}
use Rattle.ing_node.specs.Earlier.{earlier_of}
use Rattle.ing_node.specs.Names.{names_at}
use Rattle.test_nodes.proofs.pauses.times_of.Given as goal

-- the settings and the books of the shards that were just made
abbrev pub ghosts-lived : goal.ghosts-lived
ghosts-lived g a = record {
  settings = a.shards.settings;
  has_logs = true;
  books = names_at (reverse a.shards.last_first.items);
  earlier = earlier_of (reverse a.shards.last_first.items);
}
