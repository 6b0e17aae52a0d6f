use Rattle.std.proofs.Common.{◌≡◌, ◌≤◌, ◌*◌, ◌^◌, take, reverse}
use Rattle.ing_rows.specs.Gauges as model
use Rattle.ing_plain.specs.Plain.{at_kind}
use Rattle.ing_plain.proofs.plain.measure.gauge_of.Given as goal

-- the gauge of the rows so far
abbrev pub invariant-loop-row : goal.invariant-loop-row
invariant-loop-row l = record {
  counted : l.entries ≡ (model.gauge_of (at_kind l.kind) (reverse (take l.row-index l.rows)) l.tenant).entries;
  summed : l.bytes ≡ (model.gauge_of (at_kind l.kind) (reverse (take l.row-index l.rows)) l.tenant).bytes;
  few : l.entries ≤ l.row-index;
  small : l.bytes ≤ l.row-index * 2 ^ 65;
}
