use Rattle.std.proofs.Common.{true}
use Rattle.ing_node.specs.Earlier.{no_earlier}
use Rattle.ing_node.specs.Names.{no_names}
use Rattle.test_rounds.proofs.queue.operations_without_room_are_left.Given as goal

-- the settings alone
abbrev pub ghosts-swept : goal.ghosts-swept
ghosts-swept g a = record {
  settings = a.settings.now;
  has_logs = true;
  books = λ _. no_names;
  earlier = no_earlier;
}
