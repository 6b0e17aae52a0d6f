use Rattle.std.proofs.Common.{◌≡◌, ◌+◌, ◌≤◌, drop}
use Rattle.ing_node.specs.Pushes.{accepted_in}
use Rattle.ing_node.proofs.pusher.accepted_in.Given as goal

-- those counted and those to come are all of them
abbrev pub invariant-loop-verdict : goal.invariant-loop-verdict
invariant-loop-verdict l = record {
  few : l.count ≤ l.verdict-index;
  all : l.count + accepted_in (drop l.verdict-index l.verdicts) ≡ accepted_in l.verdicts;
}
