use Rattle.std.proofs.Common.{◌≡◌, ℕ, Bool, true, List, map, drop}
use Rattle.std.specs.List.{list_all}
use Rattle.std.specs.Option.{option_or}
use Rattle.toml.specs.Data.{Data, get_member}
use Rattle.toml.specs.View.{table_view}
use Rattle.ctl_explain.specs.InForce.{stated, given_member, all_entries}
use Rattle.ctl_explain.proofs.in_force.fill.Given as goal

-- what the table has, and what is still to be given, are together what they were, and pass what they passed
abbrev pub invariant-loop-key : goal.invariant-loop-key
invariant-loop-key l = record {
  found : (name : List ℕ) → option_or (get_member name (table_view l.table)) (stated (map given_member (drop l.key-index l.givens)) name)
      ≡ option_or (get_member name (table_view l.initial.table)) (stated (map given_member l.givens) name);
  kept : (p : List ℕ → Data → Bool) → all_entries p (table_view l.initial.table) ≡ true → list_all (λ e. p e.0 e.1) (map given_member l.givens) ≡ true
      → (all_entries p (table_view l.table) ≡ true) × (list_all (λ e. p e.0 e.1) (map given_member (drop l.key-index l.givens)) ≡ true);
}
