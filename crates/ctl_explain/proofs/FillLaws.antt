-- Tables that are filled, and what settings they give.
use Rattle.std.proofs.Common.{◌≡◌, ℕ, Bool, true, false, not, ◌&&◌, cond, eqb, pos, List, BTreeMap, String, Option, Some, None, Result, Ok, refl, sym, ap, ◌∙◌}
use Rattle.std.specs.Prelude.{codes, option_map, option_and_then, is_some}
use Rattle.std.proofs.lemmas.Bool.{and_parts, eqb-true}
use Rattle.std.specs.declared.alloc.Global.{Global}
use Rattle.std.specs.BTreeMap.{get_by_text}
use Rattle.std.specs.FinMap.{from_entries}
use Rattle.std.specs.Option.{option_or, unwrap_or}
use Rattle.ing_rows.specs.declared.rules.Rules.{Rules}
use Rattle.toml.specs.Data.{Data, string, integer, boolean, Members, get_member, as_bool}
use Rattle.toml.specs.View.{view, members_view}
use Rattle.toml.specs.declared.value.Value.{Value}
use Rattle.toml.proofs.Views.{view-lookup}
use Rattle.ing_limits.specs.Durations.{parts_sum}
use Rattle.ing_limits.specs.Settings.{StoreSettings, Refusal, setting, flag, kind_of, number_of, members_at, entries_of, rules_by_tenant, common_rules, settings_in, settings_of_document, settings_of_table, or_refused, least_of, all_flawed}
use Rattle.ing_limits.specs.declared.keys.Level.{Level}
use Rattle.ing_limits.specs.declared.keys.Level.TheVariants.{Top, Tenant}
use Rattle.ing_limits.specs.declared.flaws.Flaw.TheVariants.{Unknown, Bad}
use Rattle.ctl_explain.specs.InForce.{default_members, all_names, FillsIn, HasAll}

-- ---- one key

map_or : (o : Option Value) (b : Bool) (v : Value) → option_map view (option_or o (cond b (Some v) None)) ≡ option_or (option_map view o) (cond b (Some (view v)) None)
map_or (Some x) b v = refl
map_or None true v = refl
map_or None false v = refl

pub put_data : (old new : BTreeMap (String Global) Value) (name : List ℕ) (b : Bool) (v : Value) (d : Data)
    → get_by_text new name ≡ option_or (get_by_text old name) (cond b (Some v) None) → view v ≡ d
    → get_member name (members_view new.entries) ≡ option_or (get_member name (members_view old.entries)) (cond b (Some d) None)
put_data old new name b v d e is =
    sym (view-lookup name new.entries) ∙ ap (option_map view) e ∙ map_or (get_by_text old name) b v
    ∙ ap (λ o. option_or o (cond b (Some (view v)) None)) (view-lookup name old.entries)
    ∙ ap (λ x. option_or (get_member name (members_view old.entries)) (cond b (Some x) None)) is

-- ---- several keys

pub fill_step : (before after : Option Data) (b : Bool) (v : Data) (rest : Option Data)
    → after ≡ option_or before (cond b (Some v) None) → option_or after rest ≡ option_or before (cond b (Some v) rest)
fill_step (Some x) after b v rest e = rw e refl
fill_step None after true v rest e = rw e refl
fill_step None after false v rest e = rw e refl

-- ---- settings

setting_same : (level : Level) (key : List ℕ) (default : ℕ) (old new : Option Data) (d : Data) → new ≡ option_or old (Some d)
    → option_and_then (λ kind. number_of kind d) (kind_of level key) ≡ Some default
    → unwrap_or (option_and_then (λ x. option_and_then (λ kind. number_of kind x) (kind_of level key)) new) default
    ≡ unwrap_or (option_and_then (λ x. option_and_then (λ kind. number_of kind x) (kind_of level key)) old) default
setting_same level key default (Some x) new d e is = rw e refl
setting_same level key default None new d e is = rw e (rw is refl)

same-shards : (old new : Members) → FillsIn default_members old new → setting Top (codes "shards") 1 new ≡ setting Top (codes "shards") 1 old
same-shards old new f = setting_same Top (codes "shards") 1 (get_member (codes "shards") old) (get_member (codes "shards") new) (integer (pos 1)) (f (codes "shards")) refl

same-flushers : (old new : Members) → FillsIn default_members old new → setting Top (codes "flushers") 1 new ≡ setting Top (codes "flushers") 1 old
same-flushers old new f = setting_same Top (codes "flushers") 1 (get_member (codes "flushers") old) (get_member (codes "flushers") new) (integer (pos 1)) (f (codes "flushers")) refl

same-flush_queue_length : (old new : Members) → FillsIn default_members old new → setting Top (codes "flush_queue_length") 1024 new ≡ setting Top (codes "flush_queue_length") 1024 old
same-flush_queue_length old new f = setting_same Top (codes "flush_queue_length") 1024 (get_member (codes "flush_queue_length") old) (get_member (codes "flush_queue_length") new) (integer (pos 1024)) (f (codes "flush_queue_length")) refl

same-flush_check_period : (old new : Members) → FillsIn default_members old new → setting Top (codes "flush_check_period") 0 new ≡ setting Top (codes "flush_check_period") 0 old
unfolding parts_sum
same-flush_check_period old new f = setting_same Top (codes "flush_check_period") 0 (get_member (codes "flush_check_period") old) (get_member (codes "flush_check_period") new) (string (codes "0s")) (f (codes "flush_check_period")) refl

same-checkpoint_log_size : (old new : Members) → FillsIn default_members old new → setting Top (codes "checkpoint_log_size") 0 new ≡ setting Top (codes "checkpoint_log_size") 0 old
same-checkpoint_log_size old new f = setting_same Top (codes "checkpoint_log_size") 0 (get_member (codes "checkpoint_log_size") old) (get_member (codes "checkpoint_log_size") new) (integer (pos 0)) (f (codes "checkpoint_log_size")) refl

flag_same : (default : Bool) (old new : Option Data) → new ≡ option_or old (Some (boolean default))
    → unwrap_or (option_and_then as_bool new) default ≡ unwrap_or (option_and_then as_bool old) default
flag_same default (Some x) new e = rw e refl
flag_same default None new e = rw e refl

same-diaries : (old new : Members) → FillsIn default_members old new → flag (codes "diaries") false new ≡ flag (codes "diaries") false old
same-diaries old new f = flag_same false (get_member (codes "diaries") old) (get_member (codes "diaries") new) (f (codes "diaries"))

same-chunk_block_size : (old new : Members) → FillsIn default_members old new → setting Top (codes "chunk_block_size") 262144 new ≡ setting Top (codes "chunk_block_size") 262144 old
same-chunk_block_size old new f = setting_same Top (codes "chunk_block_size") 262144 (get_member (codes "chunk_block_size") old) (get_member (codes "chunk_block_size") new) (integer (pos 262144)) (f (codes "chunk_block_size")) refl

same-chunk_target_size : (old new : Members) → FillsIn default_members old new → setting Top (codes "chunk_target_size") 1572864 new ≡ setting Top (codes "chunk_target_size") 1572864 old
same-chunk_target_size old new f = setting_same Top (codes "chunk_target_size") 1572864 (get_member (codes "chunk_target_size") old) (get_member (codes "chunk_target_size") new) (integer (pos 1572864)) (f (codes "chunk_target_size")) refl

same-chunk_idle_period : (old new : Members) → FillsIn default_members old new → setting Top (codes "chunk_idle_period") 1800000000000 new ≡ setting Top (codes "chunk_idle_period") 1800000000000 old
unfolding parts_sum
same-chunk_idle_period old new f = setting_same Top (codes "chunk_idle_period") 1800000000000 (get_member (codes "chunk_idle_period") old) (get_member (codes "chunk_idle_period") new) (string (codes "30m")) (f (codes "chunk_idle_period")) refl

same-max_chunk_age : (old new : Members) → FillsIn default_members old new → setting Top (codes "max_chunk_age") 7200000000000 new ≡ setting Top (codes "max_chunk_age") 7200000000000 old
unfolding parts_sum
same-max_chunk_age old new f = setting_same Top (codes "max_chunk_age") 7200000000000 (get_member (codes "max_chunk_age") old) (get_member (codes "max_chunk_age") new) (string (codes "2h")) (f (codes "max_chunk_age")) refl

same-max_label_names : (old new : Members) → FillsIn default_members old new → setting Tenant (codes "max_label_names") 15 new ≡ setting Tenant (codes "max_label_names") 15 old
same-max_label_names old new f = setting_same Tenant (codes "max_label_names") 15 (get_member (codes "max_label_names") old) (get_member (codes "max_label_names") new) (integer (pos 15)) (f (codes "max_label_names")) refl

same-max_label_name_length : (old new : Members) → FillsIn default_members old new → setting Tenant (codes "max_label_name_length") 1024 new ≡ setting Tenant (codes "max_label_name_length") 1024 old
same-max_label_name_length old new f = setting_same Tenant (codes "max_label_name_length") 1024 (get_member (codes "max_label_name_length") old) (get_member (codes "max_label_name_length") new) (integer (pos 1024)) (f (codes "max_label_name_length")) refl

same-max_label_value_length : (old new : Members) → FillsIn default_members old new → setting Tenant (codes "max_label_value_length") 2048 new ≡ setting Tenant (codes "max_label_value_length") 2048 old
same-max_label_value_length old new f = setting_same Tenant (codes "max_label_value_length") 2048 (get_member (codes "max_label_value_length") old) (get_member (codes "max_label_value_length") new) (integer (pos 2048)) (f (codes "max_label_value_length")) refl

same-max_line_size : (old new : Members) → FillsIn default_members old new → setting Tenant (codes "max_line_size") 262144 new ≡ setting Tenant (codes "max_line_size") 262144 old
same-max_line_size old new f = setting_same Tenant (codes "max_line_size") 262144 (get_member (codes "max_line_size") old) (get_member (codes "max_line_size") new) (integer (pos 262144)) (f (codes "max_line_size")) refl

same-max_streams_per_tenant : (old new : Members) → FillsIn default_members old new → setting Tenant (codes "max_streams_per_tenant") 1000 new ≡ setting Tenant (codes "max_streams_per_tenant") 1000 old
same-max_streams_per_tenant old new f = setting_same Tenant (codes "max_streams_per_tenant") 1000 (get_member (codes "max_streams_per_tenant") old) (get_member (codes "max_streams_per_tenant") new) (integer (pos 1000)) (f (codes "max_streams_per_tenant")) refl

same-max_entries_per_push : (old new : Members) → FillsIn default_members old new → setting Tenant (codes "max_entries_per_push") 10000 new ≡ setting Tenant (codes "max_entries_per_push") 10000 old
same-max_entries_per_push old new f = setting_same Tenant (codes "max_entries_per_push") 10000 (get_member (codes "max_entries_per_push") old) (get_member (codes "max_entries_per_push") new) (integer (pos 10000)) (f (codes "max_entries_per_push")) refl

or_none : {A : Type 0} (o : Option A) → option_or o None ≡ o
or_none None = refl
or_none (Some x) = refl

pub same-tenants : (old new : Members) → FillsIn default_members old new → members_at (codes "tenants") new ≡ members_at (codes "tenants") old
same-tenants old new f =
    let at : get_member (codes "tenants") new ≡ get_member (codes "tenants") old = f (codes "tenants") ∙ or_none (get_member (codes "tenants") old) in
    rw at refl

same-rules : (old new : Members) → FillsIn default_members old new → common_rules new ≡ common_rules old
same-rules old new f = λ i. record {
  chunk_block_size = same-chunk_block_size old new f i;
  chunk_target_size = same-chunk_target_size old new f i;
  chunk_idle_period = same-chunk_idle_period old new f i;
  max_chunk_age = same-max_chunk_age old new f i;
  max_label_names = same-max_label_names old new f i;
  max_label_name_length = same-max_label_name_length old new f i;
  max_label_value_length = same-max_label_value_length old new f i;
  max_line_size = same-max_line_size old new f i;
  max_streams_per_tenant = same-max_streams_per_tenant old new f i;
  max_entries_per_push = same-max_entries_per_push old new f i;
}

pub same_settings : (old new : Members) → FillsIn default_members old new → settings_in new ≡ settings_in old
same_settings old new f = λ i. record {
  shards = same-shards old new f i;
  flushers = same-flushers old new f i;
  flush_queue_length = same-flush_queue_length old new f i;
  flush_check_period = same-flush_check_period old new f i;
  checkpoint_log_size = same-checkpoint_log_size old new f i;
  diaries = same-diaries old new f i;
  rules = same-rules old new f i;
  tenants = from_entries (rules_by_tenant (same-rules old new f i) (entries_of (same-tenants old new f i)));
}

-- settings that a table gives are those in it
refused_not : (o : Option (List ℕ)) (refusal : List ℕ → Refusal) (later : Result StoreSettings Refusal) (s : StoreSettings) → or_refused o refusal later ≡ Ok s → later ≡ Ok s
refused_not None refusal later s e = e
refused_not (Some name) refusal later s e = absurd cc

pub given_by : (ms : Members) (s : StoreSettings) → settings_of_table ms ≡ Ok s → settings_in ms ≡ s
given_by ms s e =
    let known = refused_not (least_of (all_flawed Unknown ms)) _ _ s e in
    let good = refused_not (least_of (all_flawed Bad ms)) _ (Ok (settings_in ms)) s known in
    cc (good)

pub settings_are : (text : List ℕ) (o : Option Members) (ms : Members) (s : StoreSettings) → o ≡ Some ms → settings_of_document o ≡ Ok s → settings_in ms ≡ s
settings_are text o ms s is e = given_by ms s (ap settings_of_document (sym is) ∙ e)

-- ---- every key

pub has_one : (o n : Option Data) (d : Data) → n ≡ option_or o (Some d) → is_some n ≡ true
has_one None n d e = rw e refl
has_one (Some x) n d e = rw e refl

pub filled_is_whole : (old new : Members) → FillsIn default_members old new → HasAll all_names new
filled_is_whole old new f = rw (
  has_one (get_member (codes "shards") old) (get_member (codes "shards") new) (integer (pos 1)) (f (codes "shards")),
  has_one (get_member (codes "flushers") old) (get_member (codes "flushers") new) (integer (pos 1)) (f (codes "flushers")),
  has_one (get_member (codes "flush_queue_length") old) (get_member (codes "flush_queue_length") new) (integer (pos 1024)) (f (codes "flush_queue_length")),
  has_one (get_member (codes "flush_check_period") old) (get_member (codes "flush_check_period") new) (string (codes "0s")) (f (codes "flush_check_period")),
  has_one (get_member (codes "checkpoint_log_size") old) (get_member (codes "checkpoint_log_size") new) (integer (pos 0)) (f (codes "checkpoint_log_size")),
  has_one (get_member (codes "diaries") old) (get_member (codes "diaries") new) (boolean false) (f (codes "diaries")),
  has_one (get_member (codes "chunk_block_size") old) (get_member (codes "chunk_block_size") new) (integer (pos 262144)) (f (codes "chunk_block_size")),
  has_one (get_member (codes "chunk_target_size") old) (get_member (codes "chunk_target_size") new) (integer (pos 1572864)) (f (codes "chunk_target_size")),
  has_one (get_member (codes "chunk_idle_period") old) (get_member (codes "chunk_idle_period") new) (string (codes "30m")) (f (codes "chunk_idle_period")),
  has_one (get_member (codes "max_chunk_age") old) (get_member (codes "max_chunk_age") new) (string (codes "2h")) (f (codes "max_chunk_age")),
  has_one (get_member (codes "max_label_names") old) (get_member (codes "max_label_names") new) (integer (pos 15)) (f (codes "max_label_names")),
  has_one (get_member (codes "max_label_name_length") old) (get_member (codes "max_label_name_length") new) (integer (pos 1024)) (f (codes "max_label_name_length")),
  has_one (get_member (codes "max_label_value_length") old) (get_member (codes "max_label_value_length") new) (integer (pos 2048)) (f (codes "max_label_value_length")),
  has_one (get_member (codes "max_line_size") old) (get_member (codes "max_line_size") new) (integer (pos 262144)) (f (codes "max_line_size")),
  has_one (get_member (codes "max_streams_per_tenant") old) (get_member (codes "max_streams_per_tenant") new) (integer (pos 1000)) (f (codes "max_streams_per_tenant")),
  has_one (get_member (codes "max_entries_per_push") old) (get_member (codes "max_entries_per_push") new) (integer (pos 10000)) (f (codes "max_entries_per_push")),
) refl

-- ---- rules that were compared

not_false : (b : Bool) → false ≡ not b → b ≡ true
not_false true e = refl
not_false false e = absurd cc

pub equal_rules : (r s : Rules) → false ≡ not (eqb r.chunk_block_size s.chunk_block_size && (eqb r.chunk_target_size s.chunk_target_size && (eqb r.chunk_idle_period s.chunk_idle_period && (eqb r.max_chunk_age s.max_chunk_age && (eqb r.max_label_names s.max_label_names && (eqb r.max_label_name_length s.max_label_name_length && (eqb r.max_label_value_length s.max_label_value_length && (eqb r.max_line_size s.max_line_size && (eqb r.max_streams_per_tenant s.max_streams_per_tenant && (eqb r.max_entries_per_push s.max_entries_per_push)))))))))) → r ≡ s
equal_rules r s e =
    let p0 = not_false _ e in
    let p1 = and_parts (eqb r.chunk_block_size s.chunk_block_size) _ p0 in
    let p2 = and_parts (eqb r.chunk_target_size s.chunk_target_size) _ p1.1 in
    let p3 = and_parts (eqb r.chunk_idle_period s.chunk_idle_period) _ p2.1 in
    let p4 = and_parts (eqb r.max_chunk_age s.max_chunk_age) _ p3.1 in
    let p5 = and_parts (eqb r.max_label_names s.max_label_names) _ p4.1 in
    let p6 = and_parts (eqb r.max_label_name_length s.max_label_name_length) _ p5.1 in
    let p7 = and_parts (eqb r.max_label_value_length s.max_label_value_length) _ p6.1 in
    let p8 = and_parts (eqb r.max_line_size s.max_line_size) _ p7.1 in
    let p9 = and_parts (eqb r.max_streams_per_tenant s.max_streams_per_tenant) _ p8.1 in
    λ i. record {
      chunk_block_size = eqb-true r.chunk_block_size s.chunk_block_size p1.0 i;
      chunk_target_size = eqb-true r.chunk_target_size s.chunk_target_size p2.0 i;
      chunk_idle_period = eqb-true r.chunk_idle_period s.chunk_idle_period p3.0 i;
      max_chunk_age = eqb-true r.max_chunk_age s.max_chunk_age p4.0 i;
      max_label_names = eqb-true r.max_label_names s.max_label_names p5.0 i;
      max_label_name_length = eqb-true r.max_label_name_length s.max_label_name_length p6.0 i;
      max_label_value_length = eqb-true r.max_label_value_length s.max_label_value_length p7.0 i;
      max_line_size = eqb-true r.max_line_size s.max_line_size p8.0 i;
      max_streams_per_tenant = eqb-true r.max_streams_per_tenant s.max_streams_per_tenant p9.0 i;
      max_entries_per_push = eqb-true r.max_entries_per_push s.max_entries_per_push p9.1 i;
    }
