-- A table that gives settings, filled with defaults, gives settings and can be written.
use Rattle.std.proofs.Common.{◌≡◌, ℕ, ◌+◌, ◌≤◌, ◌++◌, Bool, true, false, not, ◌&&◌, ◌||◌, cond, List, [], ◌∷◌, map, String, Option, Some, None, Result, Ok, Err, refl, sym, ap, ◌∙◌, arith, string_bytes, nat_cmp}
use Rattle.std.specs.Prelude.{codes, bytes_eq, filter, is_some, is_ok}
use Rattle.std.proofs.lemmas.Bool.{and_parts}
use Rattle.std.proofs.lemmas.Map.Text.{is_eq-slice_cmp}
use Rattle.std.proofs.lemmas.Slice.Eq.{bytes_eq-Decides}
use Rattle.std.specs.declared.alloc.Global.{Global}
use Rattle.std.specs.declared.cmp.Ordering.{Ordering}
use Rattle.std.specs.declared.cmp.Ordering.TheVariants.{Less, Equal, Greater}
use Rattle.std.specs.Ordering.{is_eq, is_lt, match_ordering, ordering_reverse}
use Rattle.std.proofs.lemmas.Cmp.{nat_list_cmp_total}
use Rattle.std.specs.Cmp.{tied_itself}
use Rattle.std.specs.List.Sorted.{IsStrictlySortedBy}
use Rattle.std.specs.Map.{keys_of}
use Rattle.std.specs.Cmp.Lexicographic.{slice_cmp}
use Rattle.std.specs.String.{string_cmp}
use Rattle.std.specs.BTreeMap.{insert_entry}
use Rattle.std.specs.List.{list_any, list_all, AllByRecursion}
use Rattle.toml.specs.Data.{Data, string, integer, float, boolean, datetime, array, table, Members, no_members, member, get_member, depth, members_depth, has_valid_dates, members_have_valid_dates, as_bool}
use Rattle.toml.specs.View.{view, members_view}
use Rattle.toml.specs.declared.value.Value.{Value}
use Rattle.ing_rows.specs.Texts.{is_tenant}
use Rattle.ing_limits.specs.Durations.{parts_sum}
use Rattle.ing_limits.specs.Settings.{StoreSettings, Refusal, kind_in, kind_of, number_of, fits, is_table, is_misfit, has_flaw, store_keys, limit_keys, entries_of, members_in, members_at, tenants_flawed, all_flawed, least_with, least_of, settings_in, settings_of_table, or_refused}
use Rattle.ing_limits.specs.declared.keys.Kind.{Kind}
use Rattle.ing_limits.specs.declared.keys.Kind.TheVariants.{Whole, UpTo, Duration, Flag, Table, Nothing}
use Rattle.ing_limits.specs.declared.keys.Level.{Level}
use Rattle.ing_limits.specs.declared.keys.Level.TheVariants.{Top, Tenants, Tenant}
use Rattle.ing_limits.specs.declared.flaws.Flaw.TheVariants.{Unknown, Bad}
use Rattle.ctl_explain.specs.InForce.{default_members, all_entries, is_plain_or, is_limit, is_tenant_table, is_setting, is_good, IsUniqueIn}

-- ---- entries that all pass

same_text : (a b : List ℕ) → slice_cmp nat_cmp a b ≡ Equal → a ≡ b
same_text a b e = (bytes_eq-Decides a b).0 (sym (is_eq-slice_cmp a b) ∙ ap is_eq e)

kept_at : (o : Ordering) (p : List ℕ → Data → Bool) (k : String Global) (v : Value) (e : String Global × Value) (es : List (String Global × Value))
    → string_cmp k e.0 ≡ o → p (string_bytes e.0) (view e.1) ≡ true → all_entries p (members_view es) ≡ true → p (string_bytes k) (view v) ≡ true
    → all_entries p (members_view (insert_entry string_cmp es k v)) ≡ true
    → all_entries p (members_view (match_ordering o ((k, v) ∷ e ∷ es) ((e.0, v) ∷ es) (e ∷ insert_entry string_cmp es k v))) ≡ true
kept_at Less p k v e es is first rest new inner = rw (new, first, rest) refl
kept_at Equal p k v e es is first rest new inner =
    let same : string_bytes k ≡ string_bytes e.0 = same_text (string_bytes k) (string_bytes e.0) is in
    rw (ap (λ t. p t (view v)) (sym same) ∙ new, rest) refl
kept_at Greater p k v e es is first rest new inner = rw (first, inner) refl

pub entries_kept : (p : List ℕ → Data → Bool) (k : String Global) (v : Value) (es : List (String Global × Value))
    → all_entries p (members_view es) ≡ true → p (string_bytes k) (view v) ≡ true → all_entries p (members_view (insert_entry string_cmp es k v)) ≡ true
entries_kept p k v [] all new = rw new refl
entries_kept p k v (e ∷ es) all new =
    let parts = and_parts (p (string_bytes e.0) (view e.1)) (all_entries p (members_view es)) all in
    kept_at (string_cmp k e.0) p k v e es refl parts.0 parts.1 new (entries_kept p k v es parts.1 new)

-- ---- no flaw

none_with_at : (b : Bool) (name least : List ℕ) (names : List (List ℕ)) → ((l : List ℕ) → least_with (Some l) names ≡ None → ⊥) → least_with (cond b (Some name) (Some least)) names ≡ None → ⊥
none_with_at true name least names later e = later name e
none_with_at false name least names later e = later least e

none_with : (least : List ℕ) (names : List (List ℕ)) → least_with (Some least) names ≡ None → ⊥
none_with least [] e = absurd cc
none_with least (n ∷ ns) e = none_with_at (is_lt (slice_cmp nat_cmp n least)) n least ns (λ l h. none_with l ns h) e

none_least : (names : List (List ℕ)) → least_of names ≡ None → names ≡ []
none_least [] e = refl
none_least (n ∷ ns) e = absurd (none_with n ns e)

refused_none : (o : Option (List ℕ)) (refusal : List ℕ → Refusal) (later : Result StoreSettings Refusal) (s : StoreSettings) → or_refused o refusal later ≡ Ok s → (o ≡ None) × (later ≡ Ok s)
refused_none None refusal later s e = (refl, e)
refused_none (Some name) refusal later s e = absurd cc

no_parts : {A : Type 0} (xs ys : List A) → xs ++ ys ≡ [] → (xs ≡ []) × (ys ≡ [])
no_parts [] ys e = (refl, e)
no_parts (x ∷ xs) ys e = absurd cc

not_mapped : {A B : Type 0} (f : A → B) (xs : List A) → map f xs ≡ [] → xs ≡ []
not_mapped f [] e = refl
not_mapped f (x ∷ xs) e = absurd cc

not_kept : {A : Type 0} (b : Bool) (x : A) (xs : List A) → cond b (x ∷ xs) xs ≡ [] → (b ≡ false) × (xs ≡ [])
not_kept true x xs e = absurd cc
not_kept false x xs e = (refl, e)

-- the entries of a table at a level have no flaw
record NoFlaw (level : Level) (es : List (List ℕ × Data)) : Type 0 where
  known : filter (has_flaw Unknown level) es ≡ []
  good : filter (has_flaw Bad level) es ≡ []

-- nor have the tenants
record GoodTenants (tenants : List (List ℕ × Data)) : Type 0 where
  names : NoFlaw Tenants tenants
  unknown : tenants_flawed Unknown tenants ≡ []
  bad : tenants_flawed Bad tenants ≡ []

record IsFlawless (ms : Members) : Type 0 where
  top : NoFlaw Top (entries_of ms)
  tenants : GoodTenants (entries_of (members_at (codes "tenants") ms))

flawless : (ms : Members) (s : StoreSettings) → settings_of_table ms ≡ Ok s → IsFlawless ms
flawless ms s e =
    let known = refused_none (least_of (all_flawed Unknown ms)) _ _ s e in
    let good = refused_none (least_of (all_flawed Bad ms)) _ (Ok (settings_in ms)) s known.1 in
    let u = no_parts _ _ (none_least (all_flawed Unknown ms) known.0) in
    let b = no_parts _ _ (none_least (all_flawed Bad ms) good.0) in
    let uu = no_parts _ _ u.0 in
    let bb = no_parts _ _ b.0 in
    record {
      top = record { known = not_mapped _ _ uu.0; good = not_mapped _ _ bb.0 };
      tenants = record { names = record { known = not_mapped _ _ uu.1; good = not_mapped _ _ bb.1 }; unknown = u.1; bad = b.1 };
    }

settled : (ms : Members) (u b : List (List ℕ)) → all_flawed Unknown ms ≡ u → all_flawed Bad ms ≡ b → u ≡ [] → b ≡ [] → settings_of_table ms ≡ Ok (settings_in ms)
settled ms u b eu eb nu nb = rw (eu, eb, nu, nb) refl

parts_none : (a b c : List (List ℕ)) → a ≡ [] → b ≡ [] → c ≡ [] → (a ++ b) ++ c ≡ []
parts_none a b c ea eb ec = rw (ea, eb, ec) refl

accepted : (ms : Members) → IsFlawless ms → settings_of_table ms ≡ Ok (settings_in ms)
accepted ms f =
    settled ms (all_flawed Unknown ms) (all_flawed Bad ms) refl refl
    (parts_none _ _ _ (ap (map (λ e. [] ++ e.0)) f.top.known) (ap (map (λ e. codes "tenants." ++ e.0)) f.tenants.names.known) f.tenants.unknown)
    (parts_none _ _ _ (ap (map (λ e. [] ++ e.0)) f.top.good) (ap (map (λ e. codes "tenants." ++ e.0)) f.tenants.names.good) f.tenants.bad)

-- ---- flaws and entries

all_good : (level : Level) (ms : Members) → NoFlaw level (entries_of ms) → all_entries (is_good level) ms ≡ true
all_good level no_members f = refl
all_good level (member k d ms) f =
    let u = not_kept (has_flaw Unknown level (k, d)) (k, d) (filter (has_flaw Unknown level) (entries_of ms)) f.known in
    let b = not_kept (has_flaw Bad level (k, d)) (k, d) (filter (has_flaw Bad level) (entries_of ms)) f.good in
    rw (u.0, b.0, all_good level ms (record { known = u.1; good = b.1 })) refl

both_false : (a b : Bool) → (not a && not b) ≡ true → (a ≡ false) × (b ≡ false)
both_false true b e = absurd cc
both_false false true e = absurd cc
both_false false false e = (refl, refl)

not_flawed : (level : Level) (ms : Members) → all_entries (is_good level) ms ≡ true → NoFlaw level (entries_of ms)
not_flawed level no_members e = record { known = refl; good = refl }
not_flawed level (member k d ms) e =
    let parts = and_parts (is_good level k d) (all_entries (is_good level) ms) e in
    let flaws = both_false (has_flaw Unknown level (k, d)) (has_flaw Bad level (k, d)) parts.0 in
    let rest = not_flawed level ms parts.1 in
    record { known = rw (flaws.0, rest.known) refl; good = rw (flaws.1, rest.good) refl }

-- filled with good entries, it has still no flaw
pub filled_is_accepted : (old new : Members) (s : StoreSettings) → settings_of_table old ≡ Ok s
    → (all_entries (is_good Top) old ≡ true → all_entries (is_good Top) new ≡ true) → members_at (codes "tenants") new ≡ members_at (codes "tenants") old
    → settings_of_table new ≡ Ok (settings_in new)
filled_is_accepted old new s e kept same =
    let f = flawless old s e in
    accepted new (record {
      top = not_flawed Top new (kept (all_good Top old f.top));
      tenants = rw same f.tenants;
    })

pub defaults_are_good : list_all (λ e. is_good Top e.0 e.1) default_members ≡ true
unfolding parts_sum
defaults_are_good = refl

pub defaults_are_settings : list_all (λ e. is_setting e.0 e.1) default_members ≡ true
defaults_are_settings = refl

-- ---- depth and dates

-- no deeper than this, and each date can be written
record Fits (n : ℕ) (d : Data) : Type 0 where
  deep : depth d ≤ n
  dates : has_valid_dates d ≡ true

record AllFit (n : ℕ) (ms : Members) : Type 0 where
  deep : members_depth ms ≤ n
  dates : members_have_valid_dates ms ≡ true

all_fit : (p : List ℕ → Data → Bool) (n : ℕ) → ((k : List ℕ) (d : Data) → p k d ≡ true → Fits n d) → (ms : Members) → all_entries p ms ≡ true → AllFit n ms
all_fit p n each no_members e = record { deep = omega arith; dates = refl }
all_fit p n each (member k d ms) e =
    let parts = and_parts (p k d) (all_entries p ms) e in
    let here = each k d parts.0 in
    let rest = all_fit p n each ms parts.1 in
    let one = here.deep in
    let two = rest.deep in
    record { deep = omega (arith, one, two); dates = rw (here.dates, rest.dates) refl }

limit_fits : (k : List ℕ) (d : Data) → is_limit k d ≡ true → Fits 0 d
limit_fits k (string s) e = record { deep = omega arith; dates = refl }
limit_fits k (integer z) e = record { deep = omega arith; dates = refl }
limit_fits k (float x) e = absurd cc
limit_fits k (boolean b) e = absurd cc
limit_fits k (datetime x) e = absurd cc
limit_fits k (array ds) e = absurd cc
limit_fits k (table ms) e = absurd cc

plain_or_fits : (p : List ℕ → Data → Bool) (n : ℕ) → ((k : List ℕ) (d : Data) → p k d ≡ true → Fits n d) → (d : Data) → is_plain_or p d ≡ true → Fits (n + 1) d
plain_or_fits p n each (string s) e = record { deep = omega arith; dates = refl }
plain_or_fits p n each (integer z) e = record { deep = omega arith; dates = refl }
plain_or_fits p n each (float x) e = absurd cc
plain_or_fits p n each (boolean b) e = record { deep = omega arith; dates = refl }
plain_or_fits p n each (datetime x) e = absurd cc
plain_or_fits p n each (array ds) e = absurd cc
plain_or_fits p n each (table ms) e =
    let inner = all_fit p n each ms e in
    let one = inner.deep in
    record { deep = omega (arith, one); dates = inner.dates }

settings_fit : (ms : Members) → all_entries is_setting ms ≡ true → AllFit 2 ms
settings_fit = all_fit is_setting 2 (λ k d e. plain_or_fits is_tenant_table 1 (λ l f g. plain_or_fits is_limit 0 limit_fits f g) d e)

pub settings_are_written : (ms : Members) → all_entries is_setting ms ≡ true → (members_depth ms ≤ 80) × (members_have_valid_dates ms ≡ true)
settings_are_written ms e = let f = settings_fit ms e in let two = f.deep in (omega (arith, two), f.dates)

-- ---- what a table without flaws has

abbrev is_table_kind : Kind → Bool
is_table_kind (Whole most) = false
is_table_kind (UpTo most) = false
is_table_kind Duration = false
is_table_kind Flag = false
is_table_kind Table = true
is_table_kind Nothing = false

abbrev is_no_kind : Kind → Bool
is_no_kind (Whole most) = false
is_no_kind (UpTo most) = false
is_no_kind Duration = false
is_no_kind Flag = false
is_no_kind Table = false
is_no_kind Nothing = true

abbrev is_duration : Kind → Bool
is_duration (Whole most) = false
is_duration (UpTo most) = false
is_duration Duration = true
is_duration Flag = false
is_duration Table = false
is_duration Nothing = false

abbrev is_up_to : Kind → Bool
is_up_to (Whole most) = false
is_up_to (UpTo most) = true
is_up_to Duration = false
is_up_to Flag = false
is_up_to Table = false
is_up_to Nothing = false

abbrev is_flag : Kind → Bool
is_flag (Whole most) = false
is_flag (UpTo most) = false
is_flag Duration = false
is_flag Flag = true
is_flag Table = false
is_flag Nothing = false

or_later : (a : Bool) → (a || true) ≡ true
or_later true = refl
or_later false = refl

-- a key of this kind stands in the list
kind_at : (q : Kind → Bool) (b : Bool) (here kind : Kind) (rest : Option Kind) (more : Bool) → cond b (Some here) rest ≡ Some kind → q kind ≡ true → (rest ≡ Some kind → more ≡ true) → ((q here && b) || more) ≡ true
kind_at q true here kind rest more e is later =
    let same : here ≡ kind = cc in rw (ap q same ∙ is) refl
kind_at q false here kind rest more e is later = rw (later e) (or_later (q here && false))

kind_there : (q : Kind → Bool) (ks : List (List ℕ × Kind)) (key : List ℕ) (kind : Kind) → kind_in ks key ≡ Some kind → q kind ≡ true → list_any (λ e. q e.1 && bytes_eq key e.0) ks ≡ true
kind_there q [] key kind e is = absurd cc
kind_there q (k ∷ ks) key kind e is = kind_at q (bytes_eq key k.0) k.1 kind (kind_in ks key) (list_any (λ x. q x.1 && bytes_eq key x.0) ks) e is (λ h. kind_there q ks key kind h is)

or_false : (b : Bool) → (b || false) ≡ true → b ≡ true
or_false true e = refl
or_false false e = e

whole_plain : (p : List ℕ → Data → Bool) (most : ℕ) (d : Data) → is_some (number_of (Whole most) d) ≡ true → is_plain_or p d ≡ true
whole_plain p most (string s) e = refl
whole_plain p most (integer z) e = refl
whole_plain p most (float x) e = absurd cc
whole_plain p most (boolean b) e = refl
whole_plain p most (datetime x) e = absurd cc
whole_plain p most (array ds) e = absurd cc
whole_plain p most (table ms) e = absurd cc

up_to_plain : (p : List ℕ → Data → Bool) (most : ℕ) (d : Data) → is_some (number_of (UpTo most) d) ≡ true → is_plain_or p d ≡ true
up_to_plain p most (string s) e = refl
up_to_plain p most (integer z) e = refl
up_to_plain p most (float x) e = absurd cc
up_to_plain p most (boolean b) e = refl
up_to_plain p most (datetime x) e = absurd cc
up_to_plain p most (array ds) e = absurd cc
up_to_plain p most (table ms) e = absurd cc

duration_plain : (p : List ℕ → Data → Bool) (d : Data) → is_some (number_of Duration d) ≡ true → is_plain_or p d ≡ true
duration_plain p (string s) e = refl
duration_plain p (integer z) e = refl
duration_plain p (float x) e = absurd cc
duration_plain p (boolean b) e = refl
duration_plain p (datetime x) e = absurd cc
duration_plain p (array ds) e = absurd cc
duration_plain p (table ms) e = absurd cc

flag_plain : (p : List ℕ → Data → Bool) (d : Data) → is_some (as_bool d) ≡ true → is_plain_or p d ≡ true
flag_plain p (string s) e = refl
flag_plain p (integer z) e = refl
flag_plain p (float x) e = absurd cc
flag_plain p (boolean b) e = refl
flag_plain p (datetime x) e = absurd cc
flag_plain p (array ds) e = absurd cc
flag_plain p (table ms) e = absurd cc

not_true : (b : Bool) → not b ≡ false → b ≡ true
not_true true e = refl
not_true false e = absurd cc

-- a value at the top, by the kind of its key
top_plain_at : (o : Option Kind) (k : List ℕ) (d : Data) → kind_of Top k ≡ o → not (is_some o) ≡ false → is_misfit o d ≡ false
    → (bytes_eq k (codes "tenants") ≡ true → is_table d ≡ true → is_setting k d ≡ true) → is_setting k d ≡ true
top_plain_at None k d is known good tenants = absurd cc
top_plain_at (Some (Whole most)) k d is known good tenants = whole_plain is_tenant_table most d (not_true _ good)
top_plain_at (Some (UpTo most)) k d is known good tenants = up_to_plain is_tenant_table most d (not_true _ good)
top_plain_at (Some Duration) k d is known good tenants = duration_plain is_tenant_table d (not_true _ good)
top_plain_at (Some Flag) k d is known good tenants = flag_plain is_tenant_table d (not_true _ good)
top_plain_at (Some Table) k d is known good tenants =
    tenants (or_false (bytes_eq k (codes "tenants")) (kind_there is_table_kind (store_keys ++ limit_keys) k Table is refl)) (not_true _ good)
top_plain_at (Some Nothing) k d is known good tenants = absurd cc

top_plain : (k : List ℕ) (d : Data) → is_good Top k d ≡ true → (bytes_eq k (codes "tenants") ≡ true → is_table d ≡ true → is_setting k d ≡ true) → is_setting k d ≡ true
top_plain k d e tenants =
    let flaws = both_false (has_flaw Unknown Top (k, d)) (has_flaw Bad Top (k, d)) e in
    top_plain_at (kind_of Top k) k d refl flaws.0 flaws.1 tenants

whole_limit : (k : List ℕ) (most : ℕ) (d : Data) → is_some (number_of (Whole most) d) ≡ true → is_limit k d ≡ true
whole_limit k most (string s) e = refl
whole_limit k most (integer z) e = refl
whole_limit k most (float x) e = absurd cc
whole_limit k most (boolean b) e = absurd cc
whole_limit k most (datetime x) e = absurd cc
whole_limit k most (array ds) e = absurd cc
whole_limit k most (table ms) e = absurd cc

limit_plain_at : (o : Option Kind) (k : List ℕ) (d : Data) → kind_in limit_keys k ≡ o → not (is_some o) ≡ false → is_misfit o d ≡ false → is_limit k d ≡ true
limit_plain_at None k d is known good = absurd cc
limit_plain_at (Some (Whole most)) k d is known good = whole_limit k most d (not_true _ good)
limit_plain_at (Some (UpTo most)) k d is known good = absurd (cc (kind_there is_up_to limit_keys k (UpTo most) is refl))
limit_plain_at (Some Duration) k d is known good = absurd (cc (kind_there is_duration limit_keys k Duration is refl))
limit_plain_at (Some Flag) k d is known good = absurd (cc (kind_there is_flag limit_keys k Flag is refl))
limit_plain_at (Some Table) k d is known good = absurd (cc (kind_there is_table_kind limit_keys k Table is refl))
limit_plain_at (Some Nothing) k d is known good = absurd (cc (kind_there is_no_kind limit_keys k Nothing is refl))

limits_plain : (ms : Members) → NoFlaw Tenant (entries_of ms) → all_entries is_limit ms ≡ true
limits_plain no_members f = refl
limits_plain (member k d ms) f =
    let u = not_kept (has_flaw Unknown Tenant (k, d)) (k, d) (filter (has_flaw Unknown Tenant) (entries_of ms)) f.known in
    let b = not_kept (has_flaw Bad Tenant (k, d)) (k, d) (filter (has_flaw Bad Tenant) (entries_of ms)) f.good in
    rw (limit_plain_at (kind_of Tenant k) k d refl u.0 b.0, limits_plain ms (record { known = u.1; good = b.1 })) refl

-- a name beside a good table
tenant_fits : (b : Bool) (d : Data) → fits (cond b Table Nothing) d ≡ true → is_table d ≡ true
tenant_fits true d e = e
tenant_fits false d e = absurd cc

tenant_plain : (d : Data) → is_table d ≡ true → NoFlaw Tenant (entries_of (members_in d)) → is_plain_or is_limit d ≡ true
tenant_plain (string s) is f = absurd cc
tenant_plain (integer z) is f = absurd cc
tenant_plain (float x) is f = absurd cc
tenant_plain (boolean b) is f = absurd cc
tenant_plain (datetime x) is f = absurd cc
tenant_plain (array ds) is f = absurd cc
tenant_plain (table ms) is f = limits_plain ms f

tenants_plain : (ms : Members) → GoodTenants (entries_of ms) → all_entries is_tenant_table ms ≡ true
tenants_plain no_members g = refl
tenants_plain (member k d ms) g =
    let u = not_kept (has_flaw Unknown Tenants (k, d)) (k, d) (filter (has_flaw Unknown Tenants) (entries_of ms)) g.names.known in
    let b = not_kept (has_flaw Bad Tenants (k, d)) (k, d) (filter (has_flaw Bad Tenants) (entries_of ms)) g.names.good in
    let unknown = no_parts _ _ g.unknown in
    let bad = no_parts _ _ g.bad in
    let is = tenant_fits (is_tenant k) d (not_true _ b.0) in
    rw (
      tenant_plain d is (record { known = not_mapped _ _ unknown.0; good = not_mapped _ _ bad.0 }),
      tenants_plain ms (record { names = record { known = u.1; good = b.1 }; unknown = unknown.1; bad = bad.1 }),
    ) refl

table_setting : (k : List ℕ) (d : Data) (whole : Members) → get_member (codes "tenants") whole ≡ Some d → is_table d ≡ true → GoodTenants (entries_of (members_at (codes "tenants") whole)) → is_setting k d ≡ true
table_setting k (string s) whole there is g = refl
table_setting k (integer z) whole there is g = refl
table_setting k (float x) whole there is g = absurd cc
table_setting k (boolean b) whole there is g = absurd cc
table_setting k (datetime x) whole there is g = absurd cc
table_setting k (array ds) whole there is g = absurd cc
table_setting k (table ms) whole there is g = tenants_plain ms (rw there at g)

settings_in_part : (whole ms : Members) → IsUniqueIn whole ms → all_entries (is_good Top) ms ≡ true → GoodTenants (entries_of (members_at (codes "tenants") whole)) → all_entries is_setting ms ≡ true
settings_in_part whole no_members unique good g = refl
settings_in_part whole (member k d ms) unique good g =
    let parts = and_parts (is_good Top k d) (all_entries (is_good Top) ms) good in
    rw (
      top_plain k d parts.0 (λ named is. table_setting k d whole (ap (λ n. get_member n whole) (sym ((bytes_eq-Decides k (codes "tenants")).0 named)) ∙ unique.0) is g),
      settings_in_part whole ms unique.1 parts.1 g,
    ) refl

-- a table that gives settings has plain values, and tables of them
pub given_settings_are_plain : (ms : Members) (s : StoreSettings) → settings_of_table ms ≡ Ok s → IsUniqueIn ms ms → all_entries is_setting ms ≡ true
given_settings_are_plain ms s e unique =
    let f = flawless ms s e in
    settings_in_part ms ms unique (all_good Top ms f.top) f.tenants

-- ---- keys that ascend

behind : (k l : List ℕ) → slice_cmp nat_cmp k l ≡ Less → slice_cmp nat_cmp l k ≡ Greater
behind k l e = nat_list_cmp_total.antisymm l k ∙ ap ordering_reverse e

found_later : (o : Ordering) (d : Data) (rest : Option Data) → o ≡ Greater → match_ordering o rest (Some d) rest ≡ rest
found_later o d rest e = rw e refl

-- what is unique in a table is so behind a lesser key
unique_behind : (k : String Global) (d : Data) (whole : Members) (es : List (String Global × Value)) → AllByRecursion (λ y. string_cmp k y ≡ Less) (keys_of es)
    → IsUniqueIn whole (members_view es) → IsUniqueIn (member (string_bytes k) d whole) (members_view es)
unique_behind k d whole [] before unique = tt
unique_behind k d whole (e ∷ es) before unique = (
  found_later (slice_cmp nat_cmp (string_bytes e.0) (string_bytes k)) d (get_member (string_bytes e.0) whole) (behind (string_bytes k) (string_bytes e.0) before.0) ∙ unique.0,
  unique_behind k d whole es before.1 unique.1,
)

pub ascending_is_unique : (es : List (String Global × Value)) → IsStrictlySortedBy string_cmp (keys_of es) → IsUniqueIn (members_view es) (members_view es)
unfolding IsStrictlySortedBy
ascending_is_unique [] sorted = tt
ascending_is_unique (e ∷ es) sorted = (
  rw (tied_itself nat_list_cmp_total (string_bytes e.0)) refl,
  unique_behind e.0 (view e.1) (members_view es) es sorted.0 (ascending_is_unique es sorted.1),
)

-- ---- the whole

pub ok_is : (r : Result StoreSettings Refusal) → is_ok r ≡ true → (s : StoreSettings) × (r ≡ Ok s)
ok_is (Ok s) e = (s, refl)
ok_is (Err refusal) e = absurd cc
