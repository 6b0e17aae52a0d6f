use Rattle.std.proofs.Common.{arith, sym}
use Rattle.ing_lanes.proofs.LedgerLaws.{none_told}
use Rattle.ing_lanes.proofs.opening.lane_of.Goals as goal

-- nothing is told, and nothing is counted
pub returns-in-Ok-clause-nothing : goal.returns-in-Ok-clause-nothing
returns-in-Ok-clause-nothing g c = record {
  told = λ measure. sym (none_told c.in_ok-pusher.pusher c.in_ok-pusher.ensures.zero c.in_ok-pusher.ensures.empty measure);
  chunks = omega arith;
  none = λ is. c.in-Ok.ensures.none;
  board = λ i. (omega arith, omega arith);
}
