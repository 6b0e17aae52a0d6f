use Rattle.std.proofs.Common.{◌≡◌, drop}
use Rattle.std.specs.List.{list_any}
use Rattle.ing_relist.specs.Ends.{is_other}
use Rattle.ing_relist.proofs.ends.one_is_other.Given as goal

-- the entries before are none
abbrev pub invariant-loop-lent : goal.invariant-loop-lent
invariant-loop-lent l = list_any (is_other l.end l.entry) (drop l.lent-index l.entries) ≡ list_any (is_other l.end l.entry) l.entries
