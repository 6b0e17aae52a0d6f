-- The rules of a tenant, written out.
use Rattle.std.proofs.Common.{◌≡◌, ℕ, ◌+◌, ◌*◌, ◌^◌, ◌<◌, ◌≤◌, ◌++◌, Bool, true, ◌&&◌, cond, pos, List, [], ◌∷◌, length, nat_le, nat_lt, Option, Some, None, Ok, refl, sym, ap, ◌∙◌, arith, rules}
use Rattle.std.specs.Prelude.{codes, decimal, option_and_then}
use Rattle.std.proofs.Common.{append-nil}
use Rattle.std.proofs.lemmas.Bool.Decides.{nat_tests}
use Rattle.std.proofs.lemmas.Cmp.{nat_list_cmp_total}
use Rattle.std.proofs.lemmas.Fmt.{digits_decimal, digits_value-decimal, length-decimal-le, decimal_is_IsNumeral}
use Rattle.std.proofs.lemmas.Str.Parse.{IsNumeralModel, numerals_by_weight}
use Rattle.std.specs.FinMap.{get, from_entries, get-from_entries}
use Rattle.std.specs.Cmp.Lexicographic.{slice_cmp}
use Rattle.std.specs.Ordering.{nat_cmp}
use Rattle.std.specs.List.{list_all}
use Rattle.std.specs.Option.{unwrap_or}
use Rattle.toml.specs.Data.{Data, string, integer, Members, no_members, get_member}
use Rattle.ing_rows.specs.Texts.{is_digit, digits_value}
use Rattle.ing_rows.specs.declared.rules.Rules.{Rules}
use Rattle.ing_limits.specs.Durations.{duration_of}
use Rattle.ing_limits.specs.DurationTexts.{Unit, unit_text, unit_nanoseconds, DurationsAreExact}
use Rattle.ing_limits.specs.Greatest.{most_bytes, most_label_names, most_name_bytes, most_value_bytes, most_line_bytes, most_streams, most_entries}
use Rattle.ing_limits.specs.Ranges.{IsUpTo, AreRulesInRange, rules_for}
use Rattle.ing_limits.specs.Settings.{kind_of, number_of, common_rules, settings_in, members_at, entries_of, rules_by_tenant, settings_of_table}
use Rattle.ing_limits.specs.declared.keys.Kind.TheVariants.{Whole}
use Rattle.ing_limits.specs.declared.keys.Level.{Level}
use Rattle.ing_limits.specs.declared.keys.Level.TheVariants.{Top, Tenant}
use Rattle.ctl_explain.specs.InForce.{rule_members, rule_names, FillsIn, HasAll, all_entries, is_good, is_setting}
use Rattle.ctl_explain.proofs.FillLaws.{has_one}
use Rattle.ctl_explain.proofs.Flawless.{filled_is_accepted}

-- ---- durations

own : IsNumeralModel (λ ds. list_all is_digit ds ≡ true) digits_value
own = numerals_by_weight _ (search rules) digits_value (search rules)

part_is : (ds : List ℕ) → 0 < length ds → length ds ≤ 19 → list_all is_digit ds ≡ true → ((nat_lt 0 (length ds) && nat_le (length ds) 19) && list_all is_digit ds) ≡ true
part_is ds some few digits = grind (arith, nat_tests, some, few, digits)

pub duration_is : DurationsAreExact → (count : ℕ) (u : Unit) (n : ℕ) (text : List ℕ) → text ≡ decimal count ++ unit_text u → count * unit_nanoseconds u ≡ n → count ≤ n → n < 2 ^ 63 → duration_of text ≡ Some n
duration_is exact count u n text spelt sum few below =
    let small : count < 2 ^ 64 = omega (arith, few, below) in
    let numeral = decimal_is_IsNumeral count small in
    let short = length-decimal-le 19 count (omega arith) (omega (arith, few, below)) small in
    let total : count * unit_nanoseconds u + 0 ≡ n = omega (arith, sum) in
    let value : digits_value (decimal count) ≡ count = digits_value-decimal own count small in
    (exact text n).1 (
      record { digits = decimal count; unit = u } ∷ [],
      record {
        some = λ e. absurd (cc (e));
        parts = rw (part_is (decimal count) numeral.0.0 short (digits_decimal own count small)) refl;
        spelt = append-nil (decimal count ++ unit_text u) ∙ sym spelt;
        sum = ap (λ v. v * unit_nanoseconds u + 0) value ∙ total;
        below = below;
      },
    )

-- ---- numbers in their ranges

whole_is : (most n : ℕ) → IsUpTo most n → number_of (Whole most) (integer (pos n)) ≡ Some n
whole_is most n range = let low = range.0 in let high = range.1 in whole_at (nat_le 1 n) (nat_le n most) n (grind (arith, nat_tests, low)) (grind (arith, nat_tests, high)) where
  whole_at : (a b : Bool) (m : ℕ) → a ≡ true → b ≡ true → cond (a && b) (Some m) None ≡ Some m
  whole_at a b m ea eb = rw (ea, eb) refl

-- ---- the rules

setting_is : (level : Level) (name : List ℕ) (default : ℕ) (new : Option Data) (d : Data) (n : ℕ) → new ≡ Some d
    → option_and_then (λ kind. number_of kind d) (kind_of level name) ≡ Some n
    → unwrap_or (option_and_then (λ x. option_and_then (λ kind. number_of kind x) (kind_of level name)) new) default ≡ n
setting_is level name default new d n e is = rw e (rw is refl)

pub rules_are_good : (r : Rules) (idle age : List ℕ) → AreRulesInRange r → duration_of idle ≡ Some r.chunk_idle_period → duration_of age ≡ Some r.max_chunk_age
    → list_all (λ e. is_good Top e.0 e.1) (rule_members r idle age) ≡ true
rules_are_good r idle age range is_idle is_age = rw (
  whole_is most_bytes r.chunk_block_size range.block_size,
  whole_is most_bytes r.chunk_target_size range.target_size,
  is_idle,
  is_age,
  whole_is most_label_names r.max_label_names range.limits.label_names,
  whole_is most_name_bytes r.max_label_name_length range.limits.label_name_length,
  whole_is most_value_bytes r.max_label_value_length range.limits.label_value_length,
  whole_is most_line_bytes r.max_line_size range.limits.line_size,
  whole_is most_streams r.max_streams_per_tenant range.limits.streams_per_tenant,
  whole_is most_entries r.max_entries_per_push range.limits.entries_per_push,
) refl

pub rules_same : (r : Rules) (idle age : List ℕ) (new : Members) → AreRulesInRange r → duration_of idle ≡ Some r.chunk_idle_period → duration_of age ≡ Some r.max_chunk_age
    → FillsIn (rule_members r idle age) no_members new → common_rules new ≡ r
rules_same r idle age new range is_idle is_age f = λ i. record {
  chunk_block_size = setting_is Top (codes "chunk_block_size") 262144 (get_member (codes "chunk_block_size") new) (integer (pos r.chunk_block_size)) r.chunk_block_size (f (codes "chunk_block_size")) (whole_is most_bytes r.chunk_block_size range.block_size) i;
  chunk_target_size = setting_is Top (codes "chunk_target_size") 1572864 (get_member (codes "chunk_target_size") new) (integer (pos r.chunk_target_size)) r.chunk_target_size (f (codes "chunk_target_size")) (whole_is most_bytes r.chunk_target_size range.target_size) i;
  chunk_idle_period = setting_is Top (codes "chunk_idle_period") 1800000000000 (get_member (codes "chunk_idle_period") new) (string idle) r.chunk_idle_period (f (codes "chunk_idle_period")) (is_idle) i;
  max_chunk_age = setting_is Top (codes "max_chunk_age") 7200000000000 (get_member (codes "max_chunk_age") new) (string age) r.max_chunk_age (f (codes "max_chunk_age")) (is_age) i;
  max_label_names = setting_is Tenant (codes "max_label_names") 15 (get_member (codes "max_label_names") new) (integer (pos r.max_label_names)) r.max_label_names (f (codes "max_label_names")) (whole_is most_label_names r.max_label_names range.limits.label_names) i;
  max_label_name_length = setting_is Tenant (codes "max_label_name_length") 1024 (get_member (codes "max_label_name_length") new) (integer (pos r.max_label_name_length)) r.max_label_name_length (f (codes "max_label_name_length")) (whole_is most_name_bytes r.max_label_name_length range.limits.label_name_length) i;
  max_label_value_length = setting_is Tenant (codes "max_label_value_length") 2048 (get_member (codes "max_label_value_length") new) (integer (pos r.max_label_value_length)) r.max_label_value_length (f (codes "max_label_value_length")) (whole_is most_value_bytes r.max_label_value_length range.limits.label_value_length) i;
  max_line_size = setting_is Tenant (codes "max_line_size") 262144 (get_member (codes "max_line_size") new) (integer (pos r.max_line_size)) r.max_line_size (f (codes "max_line_size")) (whole_is most_line_bytes r.max_line_size range.limits.line_size) i;
  max_streams_per_tenant = setting_is Tenant (codes "max_streams_per_tenant") 1000 (get_member (codes "max_streams_per_tenant") new) (integer (pos r.max_streams_per_tenant)) r.max_streams_per_tenant (f (codes "max_streams_per_tenant")) (whole_is most_streams r.max_streams_per_tenant range.limits.streams_per_tenant) i;
  max_entries_per_push = setting_is Tenant (codes "max_entries_per_push") 10000 (get_member (codes "max_entries_per_push") new) (integer (pos r.max_entries_per_push)) r.max_entries_per_push (f (codes "max_entries_per_push")) (whole_is most_entries r.max_entries_per_push range.limits.entries_per_push) i;
}

no_tenants : (r : Rules) (idle age : List ℕ) (new : Members) → FillsIn (rule_members r idle age) no_members new → members_at (codes "tenants") new ≡ no_members
no_tenants r idle age new f =
    let none : get_member (codes "tenants") new ≡ None = f (codes "tenants") in
    rw none refl

not_own : (o : Option Rules) (r : Rules) → o ≡ None → unwrap_or o r ≡ r
not_own o r e = rw e refl

none_own : (common : Rules) (ms : Members) (tenant : List ℕ) → ms ≡ no_members → get (from_entries {R = slice_cmp nat_cmp} (rules_by_tenant common (entries_of ms))) tenant ≡ None
none_own common ms tenant e = ap (λ m. get (from_entries {R = slice_cmp nat_cmp} (rules_by_tenant common (entries_of m))) tenant) e ∙ get-from_entries nat_list_cmp_total [] tenant

pub rules_for_all : (r : Rules) (idle age : List ℕ) (new : Members) (tenant : List ℕ) → AreRulesInRange r → duration_of idle ≡ Some r.chunk_idle_period → duration_of age ≡ Some r.max_chunk_age
    → FillsIn (rule_members r idle age) no_members new → rules_for (settings_in new) tenant ≡ r
rules_for_all r idle age new tenant range is_idle is_age f =
    not_own (get (from_entries {R = slice_cmp nat_cmp} (rules_by_tenant (common_rules new) (entries_of (members_at (codes "tenants") new)))) tenant) (common_rules new)
    (none_own (common_rules new) (members_at (codes "tenants") new) tenant (no_tenants r idle age new f))
    ∙ rules_same r idle age new range is_idle is_age f

pub rules_accepted : (r : Rules) (idle age : List ℕ) (new : Members) → FillsIn (rule_members r idle age) no_members new → all_entries (is_good Top) new ≡ true
    → settings_of_table new ≡ Ok (settings_in new)
rules_accepted r idle age new f good = filled_is_accepted no_members new (settings_in no_members) refl (λ _. good) (no_tenants r idle age new f)

pub rules_are_whole : (r : Rules) (idle age : List ℕ) (new : Members) → FillsIn (rule_members r idle age) no_members new → HasAll rule_names new
rules_are_whole r idle age new f = rw (
  has_one None (get_member (codes "chunk_block_size") new) (integer (pos r.chunk_block_size)) (f (codes "chunk_block_size")),
  has_one None (get_member (codes "chunk_target_size") new) (integer (pos r.chunk_target_size)) (f (codes "chunk_target_size")),
  has_one None (get_member (codes "chunk_idle_period") new) (string idle) (f (codes "chunk_idle_period")),
  has_one None (get_member (codes "max_chunk_age") new) (string age) (f (codes "max_chunk_age")),
  has_one None (get_member (codes "max_label_names") new) (integer (pos r.max_label_names)) (f (codes "max_label_names")),
  has_one None (get_member (codes "max_label_name_length") new) (integer (pos r.max_label_name_length)) (f (codes "max_label_name_length")),
  has_one None (get_member (codes "max_label_value_length") new) (integer (pos r.max_label_value_length)) (f (codes "max_label_value_length")),
  has_one None (get_member (codes "max_line_size") new) (integer (pos r.max_line_size)) (f (codes "max_line_size")),
  has_one None (get_member (codes "max_streams_per_tenant") new) (integer (pos r.max_streams_per_tenant)) (f (codes "max_streams_per_tenant")),
  has_one None (get_member (codes "max_entries_per_push") new) (integer (pos r.max_entries_per_push)) (f (codes "max_entries_per_push")),
) refl

-- a table that was empty, filled with the rules
pub fills_rules : (given es : List (List ℕ × Data)) (old new : Members) → given ≡ es → old ≡ no_members → FillsIn given old new → FillsIn es no_members new
fills_rules given es old new is empty f = λ name. f name ∙ rw (is, empty) refl

pub passes_rules : (p : List ℕ → Data → Bool) (given es : List (List ℕ × Data)) (old new : Members) → given ≡ es → old ≡ no_members
    → (all_entries p old ≡ true → list_all (λ e. p e.0 e.1) given ≡ true → all_entries p new ≡ true) → list_all (λ e. p e.0 e.1) es ≡ true → all_entries p new ≡ true
passes_rules p given es old new is empty kept pass = kept (ap (all_entries p) empty) (ap (list_all (λ e. p e.0 e.1)) is ∙ pass)

pub rules_are_settings : (r : Rules) (idle age : List ℕ) → list_all (λ e. is_setting e.0 e.1) (rule_members r idle age) ≡ true
rules_are_settings r idle age = refl
