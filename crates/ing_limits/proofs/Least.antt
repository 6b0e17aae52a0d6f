-- The first of some names, some of them met.
use Rattle.std.proofs.Common.{◌≡◌, ℕ, List, [], ◌∷◌, ◌++◌, Option, Some, None, Result, Ok, Err, IfOk, MatchOption, option_map, option_and_then, codes, String, BTreeMap, Global, Bor, string_bytes, refl, ap, sym, ◌∙◌}
use Rattle.std.specs.Option.{unwrap_or}
use Rattle.std.specs.declared.alloc.AllocError.{AllocError}
use Rattle.toml.specs.View.{table_view}
use Rattle.toml.specs.declared.value.Value.{Value}
use Rattle.ing_limits.specs.declared.keys.Level.TheVariants.{Top, Tenants, Tenant}
use Rattle.ing_limits.specs.declared.flaws.Flaw.{Flaw}
use Rattle.toml.specs.Data.{Data, Members, no_members, member, table, string, integer, float, boolean, datetime, array, as_table, get_member}
use Rattle.ing_limits.specs.Settings.{lesser, least_with, least_of, members_in, members_at, flawed_names, tenants_flawed, all_flawed, entries_of}

pub least_with-append : (least : Option (List ℕ)) (names more : List (List ℕ)) → least_with least (names ++ more) ≡ least_with (least_with least names) more
least_with-append least [] more = refl
least_with-append least (n ∷ names) more = least_with-append (lesser least n) names more

pub members_in-table : (d : Data) (ms : Members) → Some ms ≡ as_table d → members_in d ≡ ms
members_in-table (table ns) ms e = cc
members_in-table (string s) ms e = cc
members_in-table (integer z) ms e = cc
members_in-table (float x) ms e = cc
members_in-table (boolean b) ms e = cc
members_in-table (datetime t) ms e = cc
members_in-table (array a) ms e = cc

pub members_in-none : (d : Data) → None ≡ as_table d → members_in d ≡ no_members
members_in-none (table ns) e = cc
members_in-none (string s) e = refl
members_in-none (integer z) e = refl
members_in-none (float x) e = refl
members_in-none (boolean b) e = refl
members_in-none (datetime t) e = refl
members_in-none (array a) e = refl

-- the look-up of a table at a key
pub found_table : (r : Option (Bor (BTreeMap (String Global) Value))) (d : Data) (key : List ℕ) (ms : Members) → Some d ≡ get_member key ms → option_map (λ t. table_view t.now) r ≡ as_table d
    → MatchOption r (members_at key ms ≡ no_members) (λ t. members_at key ms ≡ table_view t.now)
found_table None d key ms found e = ap (λ o. unwrap_or (option_and_then (λ x. Some (members_in x)) o) no_members) (sym found) ∙ members_in-none d e
found_table (Some t) d key ms found e = ap (λ o. unwrap_or (option_and_then (λ x. Some (members_in x)) o) no_members) (sym found) ∙ members_in-table d (table_view t.now) e

pub no_table : (key : List ℕ) (ms : Members) → None ≡ get_member key ms → members_at key ms ≡ no_members
no_table key ms found = ap (λ o. unwrap_or (option_and_then (λ x. Some (members_in x)) o) no_members) (sym found)

-- one tenant's table more
pub tenant_step : (flaw : Flaw) (least found : Option (List ℕ)) (tenant prefix : List ℕ) (d : Data) (ms rest : Members) → Some ms ≡ as_table d → prefix ≡ (codes "tenants." ++ tenant) ++ codes "."
    → found ≡ least_with least (flawed_names flaw Tenant prefix (entries_of ms))
    → least_with found (tenants_flawed flaw (entries_of rest)) ≡ least_with least (tenants_flawed flaw (entries_of (member tenant d rest)))
tenant_step flaw least found tenant prefix d ms rest is-table is-prefix is-found =
    ap (λ f. least_with f (tenants_flawed flaw (entries_of rest))) (is-found ∙ ap (λ p. least_with least (flawed_names flaw Tenant p (entries_of ms))) is-prefix)
    ∙ sym (ap (λ m. least_with least (flawed_names flaw Tenant ((codes "tenants." ++ tenant) ++ codes ".") (entries_of m) ++ tenants_flawed flaw (entries_of rest))) (members_in-table d ms is-table)
    ∙ least_with-append least (flawed_names flaw Tenant ((codes "tenants." ++ tenant) ++ codes ".") (entries_of ms)) (tenants_flawed flaw (entries_of rest)))

-- all the names together
pub all_together : (flaw : Flaw) (ms tenants : Members) (first second third : Option (List ℕ)) → members_at (codes "tenants") ms ≡ tenants
    → first ≡ least_with None (flawed_names flaw Top [] (entries_of ms))
    → second ≡ least_with first (flawed_names flaw Tenants (codes "tenants.") (entries_of tenants))
    → third ≡ least_with second (tenants_flawed flaw (entries_of tenants))
    → third ≡ least_of (all_flawed flaw ms)
all_together flaw ms tenants first second third at one two three =
    let top = flawed_names flaw Top [] (entries_of ms) in
    let named = flawed_names flaw Tenants (codes "tenants.") (entries_of tenants) in
    let inner = tenants_flawed flaw (entries_of tenants) in
    three
    ∙ ap (λ o. least_with o inner) (two ∙ ap (λ o. least_with o named) one ∙ sym (least_with-append None top named))
    ∙ sym (least_with-append None (top ++ named) inner)
    ∙ ap (λ m. least_of ((top ++ flawed_names flaw Tenants (codes "tenants.") (entries_of m)) ++ tenants_flawed flaw (entries_of m))) (sym at)

pub under_ok : (r : Result (Option (String Global)) AllocError) (flaw : Flaw) (ms tenants : Members) (first second : Option (List ℕ)) → members_at (codes "tenants") ms ≡ tenants
    → first ≡ least_with None (flawed_names flaw Top [] (entries_of ms))
    → second ≡ least_with first (flawed_names flaw Tenants (codes "tenants.") (entries_of tenants))
    → IfOk r (λ name. option_map string_bytes name ≡ least_with second (tenants_flawed flaw (entries_of tenants)))
    → IfOk r (λ name. option_map string_bytes name ≡ least_of (all_flawed flaw ms))
under_ok (Ok name) flaw ms tenants first second at one two three = all_together flaw ms tenants first second _ at one two three
under_ok (Err e) flaw ms tenants first second at one two three = tt
