-- Codes, by which a proof tells settings apart.
use Rattle.std.specs.Prelude.{ℕ, Bool, refl}
use Rattle.std.specs.Coded.{Coded, code_by, coded×, coded_ℕ, coded_bool, coded_list}
use Rattle.std.specs.FinMap as finmap
use Rattle.ing_rows.specs.declared.rules.Rules.{Rules}
use Rattle.ing_limits.specs.Settings.{StoreSettings, TenantRules}

-- rules are stored as their numbers
abbrev pub rules_code : Coded Rules
rules_code =
    code_by (ℕ × (ℕ × (ℕ × (ℕ × (ℕ × (ℕ × (ℕ × (ℕ × (ℕ × ℕ)))))))))
    (coded× coded_ℕ (coded× coded_ℕ (coded× coded_ℕ (coded× coded_ℕ (coded× coded_ℕ (coded× coded_ℕ (coded× coded_ℕ (coded× coded_ℕ (coded× coded_ℕ coded_ℕ)))))))))
    (λ r. (r.chunk_block_size, (r.chunk_target_size, (r.chunk_idle_period, (r.max_chunk_age, (r.max_label_names, (r.max_label_name_length, (r.max_label_value_length, (r.max_line_size, (r.max_streams_per_tenant, r.max_entries_per_push))))))))))
    (λ p. record {
      chunk_block_size = p.0;
      chunk_target_size = p.1.0;
      chunk_idle_period = p.1.1.0;
      max_chunk_age = p.1.1.1.0;
      max_label_names = p.1.1.1.1.0;
      max_label_name_length = p.1.1.1.1.1.0;
      max_label_value_length = p.1.1.1.1.1.1.0;
      max_line_size = p.1.1.1.1.1.1.1.0;
      max_streams_per_tenant = p.1.1.1.1.1.1.1.1.0;
      max_entries_per_push = p.1.1.1.1.1.1.1.1.1;
    })
    (λ _. refl)

-- settings are stored as their parts
abbrev pub settings_code : Coded StoreSettings
settings_code =
    code_by (ℕ × (ℕ × (ℕ × (ℕ × (ℕ × (Bool × (Rules × TenantRules)))))))
    (coded× coded_ℕ (coded× coded_ℕ (coded× coded_ℕ (coded× coded_ℕ (coded× coded_ℕ (coded× coded_bool (coded× rules_code (finmap.code (coded_list coded_ℕ) rules_code))))))))
    (λ s. (s.shards, (s.flushers, (s.flush_queue_length, (s.flush_check_period, (s.checkpoint_log_size, (s.diaries, (s.rules, s.tenants))))))))
    (λ p. record {
      shards = p.0;
      flushers = p.1.0;
      flush_queue_length = p.1.1.0;
      flush_check_period = p.1.1.1.0;
      checkpoint_log_size = p.1.1.1.1.0;
      diaries = p.1.1.1.1.1.0;
      rules = p.1.1.1.1.1.1.0;
      tenants = p.1.1.1.1.1.1.1;
    })
    (λ _. refl)
