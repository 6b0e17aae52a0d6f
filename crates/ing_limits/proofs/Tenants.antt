-- How the rules of tenants are found.
use Rattle.std.proofs.Common.{◌≡◌, ℕ, cond, Option, List, [], ◌∷◌, Some, None, true, false, Bool, length, arith, refl, ap, sym, ◌∙◌, String, BTreeMap, string_bytes, nat_cmp}
use Rattle.std.specs.Ordering.{is_eq}
use Rattle.std.specs.Cmp.Lexicographic.{slice_cmp}
use Rattle.std.specs.List.{AllZip}
use Rattle.std.specs.Map.{lookup}
use Rattle.std.specs.Option.{option_or}
use Rattle.std.specs.BTreeMap.{get_by_text}
use Rattle.std.specs.FinMap.{get, find, from_entries, get-from_entries, same_map, nat_cmp-IsAntisymmetric, slice_cmp-IsAntisymmetric}
use Rattle.std.specs.Prelude.{bytes_eq, if◌then◌else◌}
use Rattle.std.proofs.lemmas.Cmp.{nat_list_cmp_total}
use Rattle.std.proofs.lemmas.Map.Text.{is_eq-slice_cmp}
use Rattle.ing_rows.specs.declared.rules.Rules.{Rules}
use Rattle.ing_limits.specs.Held.{held_tenants, IsTenantRules}

find_held : {Z : Type 0} (es : List (String Z × Rules)) (tenant : List ℕ) → find (slice_cmp nat_cmp) tenant (held_tenants es) ≡ lookup (λ k. is_eq (slice_cmp nat_cmp tenant (string_bytes k))) es
find_held [] tenant = refl
find_held (e ∷ es) tenant =
    elim (is_eq (slice_cmp nat_cmp tenant (string_bytes e.0))) as (λ b. cond b (Some e.1) (find (slice_cmp nat_cmp) tenant (held_tenants es)) ≡ cond b (Some e.1) (lookup (λ k. is_eq (slice_cmp nat_cmp tenant (string_bytes k))) es)) [
      | true ↦ refl
      | false ↦ find_held es tenant
    ]

-- what the entries spell answers as the map does
pub held_get : {Z : Type 0} (held : BTreeMap (String Z) Rules) (tenant : List ℕ) → get (from_entries {R = slice_cmp nat_cmp} (held_tenants held.entries)) tenant ≡ get_by_text held tenant
held_get held tenant = get-from_entries nat_list_cmp_total (held_tenants held.entries) tenant ∙ find_held held.entries tenant

-- a map that finds each tenant as a list does spells the map that the list makes
pub same_tenants : {Z : Type 0} (tenants : List (List ℕ × Rules)) (held : BTreeMap (String Z) Rules) → IsTenantRules tenants held
    → from_entries {R = slice_cmp nat_cmp} (held_tenants held.entries) ≡ from_entries tenants
same_tenants tenants held is =
    same_map nat_list_cmp_total (slice_cmp-IsAntisymmetric nat_cmp-IsAntisymmetric) _ _
    (λ tenant. held_get held tenant ∙ is tenant ∙ sym (get-from_entries nat_list_cmp_total tenants tenant))

-- where no tenant is held, none is found
pub none_held : {Z : Type 0} (es : List (String Z × Rules)) (tenant : List ℕ) → length es ≡ 0 → get (from_entries {R = slice_cmp nat_cmp} (held_tenants es)) tenant ≡ None
none_held [] tenant none = get-from_entries nat_list_cmp_total [] tenant
none_held (e ∷ es) tenant none = absurd (omega (arith, none))

-- one more tenant is put into a map, unless it is there already
chosen : (old new target : Option Rules) (b : Bool) (rules : Rules) (rest : Option Rules) → new ≡ option_or old (cond b (Some rules) None)
    → option_or old (cond b (Some rules) rest) ≡ target → option_or new rest ≡ target
chosen None new target true rules rest put is = ap (λ o. option_or o rest) put ∙ is
chosen None new target false rules rest put is = ap (λ o. option_or o rest) put ∙ is
chosen (Some x) new target b rules rest put is = ap (λ o. option_or o rest) put ∙ is

pub one_more : (tenant name : List ℕ) (rules : Rules) (rest : List (List ℕ × Rules)) (old new target : Option Rules)
    → new ≡ option_or old (if bytes_eq tenant name then Some rules else None)
    → option_or old (find (slice_cmp nat_cmp) tenant ((name, rules) ∷ rest)) ≡ target → option_or new (find (slice_cmp nat_cmp) tenant rest) ≡ target
one_more tenant name rules rest old new target put is = chosen old new target (is_eq (slice_cmp nat_cmp tenant name)) rules (find (slice_cmp nat_cmp) tenant rest)
    (put ∙ ap (λ b. option_or old (cond b (Some rules) None)) (sym (is_eq-slice_cmp tenant name))) is

-- copies of tenants and of their rules are held alike
pub copied_tenants : {Z : Type 0} (es fs : List (String Z × Rules)) → AllZip (λ p q. (string_bytes q.0 ≡ string_bytes p.0) × (q.1 ≡ p.1)) es fs → held_tenants fs ≡ held_tenants es
copied_tenants [] [] all = refl
copied_tenants [] (f ∷ fs) all = absurd all
copied_tenants (e ∷ es) [] all = absurd all
copied_tenants (e ∷ es) (f ∷ fs) all =
    ap (λ t. (t, f.1) ∷ held_tenants fs) all.0.0
    ∙ ap (λ r. (string_bytes e.0, r) ∷ held_tenants fs) all.0.1
    ∙ ap (λ ts. (string_bytes e.0, e.1) ∷ ts) (copied_tenants es fs all.1)
