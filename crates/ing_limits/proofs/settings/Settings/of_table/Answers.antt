use Rattle.std.proofs.Common.{◌≡◌, codes, ap, sym, subst, ◌∙◌}
use Rattle.std.specs.FinMap.{from_entries}
use Rattle.toml.specs.View.{table_view}
use Rattle.ing_limits.specs.Held.{held_tenants}
use Rattle.ing_limits.specs.Settings.{StoreSettings, settings_in, rules_by_tenant, entries_of, members_at}
use Rattle.ing_limits.specs.Ranges.{AreInRange}
use Rattle.ing_limits.proofs.Ranges.{settings_in-range}
use Rattle.ing_limits.proofs.Tenants.{same_tenants}
use Rattle.ing_limits.proofs.settings.Settings.of_table.Goals as goal

-- what the fields spell is what the table says
held : goal.After-flag → StoreSettings
held c = record {
  shards = c.count_of.result;
  flushers = c.count_of-2.result;
  flush_queue_length = c.count_of-3.result;
  flush_check_period = c.setting.result;
  checkpoint_log_size = c.setting-2.result;
  diaries = c.flag.result;
  rules = c.common_rules-rules.result;
  tenants = from_entries (held_tenants c.in_ok-tenants.tenants.entries);
}

made : (c : goal.After-flag) → settings_in (table_view c.args.table.now) ≡ held c
unfolding held
made c =
    let es = entries_of (members_at (codes "tenants") (table_view c.args.table.now)) in
    let tenants =
    same_tenants (rules_by_tenant c.common_rules-rules.result es) c.in_ok-tenants.tenants c.in_ok-tenants.ensures
    ∙ ap (λ r. from_entries (rules_by_tenant r es)) c.common_rules-rules.ensures in
    λ i. record {
      shards = sym c.count_of.ensures i;
      flushers = sym c.count_of-2.ensures i;
      flush_queue_length = sym c.count_of-3.ensures i;
      flush_check_period = sym c.setting.ensures i;
      checkpoint_log_size = sym c.setting-2.ensures i;
      diaries = sym c.flag.ensures i;
      rules = sym c.common_rules-rules.ensures i;
      tenants = sym tenants i;
    }

pub invariant_of-result : goal.invariant_of-result
unfolding held
invariant_of-result c = subst AreInRange (made c) (settings_in-range (table_view c.args.table.now))

pub returns : goal.returns
unfolding held
returns c = sym (made c)
