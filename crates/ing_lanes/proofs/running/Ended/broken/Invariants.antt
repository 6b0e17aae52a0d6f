use Rattle.std.proofs.Common.{◌≡◌, ◌≤◌, ◌+◌, drop}
use Rattle.ing_lanes.specs.Served.{broken_in}
use Rattle.ing_lanes.proofs.running.Ended.broken.Given as goal

-- those so far, and those behind them, are all
abbrev pub invariant-loop-line : goal.invariant-loop-line
invariant-loop-line g l = record {
  so_far : l.count + broken_in (drop l.line-index l.line-items) ≡ broken_in l.line-items;
  few : l.count ≤ l.line-index;
}
