use Rattle.std.proofs.Common.{◌≡◌, ap, sym, subst, ◌∙◌}
use Rattle.std.specs.FinMap.{from_entries}
use Rattle.ing_limits.specs.Held.{held_settings, held_tenants}
use Rattle.ing_limits.specs.Ranges.{AreInRange}
use Rattle.ing_limits.specs.Settings.{StoreSettings}
use Rattle.ing_limits.proofs.Tenants.{copied_tenants}
use Rattle.ing_limits.proofs.settings.Settings.try_clone.Goals as goal

-- what the copy spells, and what was copied
copy : goal.In_ok-clone → StoreSettings
copy c = record {
  shards = c.self.inside.shards;
  flushers = c.self.inside.flushers;
  flush_queue_length = c.self.inside.flush_queue_length;
  flush_check_period = c.self.inside.flush_check_period;
  checkpoint_log_size = c.self.inside.checkpoint_log_size;
  diaries = c.self.inside.diaries;
  rules = c.self.inside.rules;
  tenants = from_entries (held_tenants c.in_ok-clone.field-0.entries);
}

same : (c : goal.In_ok-clone) → copy c ≡ held_settings c.self.inside
unfolding copy
same c =
    let tenants = ap from_entries (copied_tenants c.self.inside.tenants.entries c.in_ok-clone.field-0.entries c.in_ok-clone.ensures.cases) in
    λ i. record {
      shards = c.self.inside.shards;
      flushers = c.self.inside.flushers;
      flush_queue_length = c.self.inside.flush_queue_length;
      flush_check_period = c.self.inside.flush_check_period;
      checkpoint_log_size = c.self.inside.checkpoint_log_size;
      diaries = c.self.inside.diaries;
      rules = c.self.inside.rules;
      tenants = tenants i;
    }

pub invariant_of-result : goal.invariant_of-result
unfolding copy
invariant_of-result c = subst AreInRange (sym (same c)) c.self.invariant

pub returns : goal.returns
unfolding copy
returns c = same c ∙ c.self.view_is
