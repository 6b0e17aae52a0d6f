use Rattle.std.proofs.Common.{◌≡◌, ◌<◌, ℕ, vec_len}
use Rattle.ing_flush.specs.Tallies.{amount_at}
use Rattle.ing_node.specs.Reports.{recovered_at}
use Rattle.ing_node.proofs.earlier.Earlier.note.Given as goal

abbrev pub invariant-loop-place : goal.invariant-loop-place
invariant-loop-place g l = record {
  all : vec_len l.reports ≡ g.N.NodeName.settings.shards;
  noted : (i : ℕ) → i < l.place → recovered_at i l.reports.items ≡ amount_at i l.self.told;
}
