-- Walks over lists of values, as walks over the data that they hold.
use Rattle.std.proofs.Common.{◌≡◌, ℕ, ◌+◌, Bool, cond, List, [], ◌∷◌, Option, Some, None, Result, Ok, String, refl, ap}
use Rattle.std.specs.Prelude.{codes, option_map, option_and_then}
use Rattle.std.specs.Option.{ok_or}
use Rattle.std.specs.List.{position_from}
use Rattle.std.specs.declared.alloc.Global.{Global}
use Rattle.serde_json.specs.Data.{Data}
use Rattle.serde_json.specs.View.{view, items_view, members_view}
use Rattle.serde_json.specs.declared.value.Value.{Value}
use Rattle.serde_json.specs.Find.{get, as_array, as_object}
use Rattle.ing_commands.specs.declared.fault.LineFault.{LineFault}
use Rattle.ing_commands.specs.declared.fault.LineFault.TheVariants.{BadCommand}
use Rattle.ing_commands.specs.Shapes.{array_at, object_at}
use Rattle.ctl_explain.specs.declared.member.Part.TheVariants as part
use Rattle.ctl_explain.specs.Walks.{first_item, first_label, label_has, value_has, label_found, value_found}

pub first_item_of_list : (p : Data → Bool) (at : ℕ) → (xs : List Value) → position_from (λ v. p (view v)) at xs ≡ first_item p at (items_view xs)
first_item_of_list p at [] = refl
first_item_of_list p at (x ∷ xs) = ap (λ o. cond (p (view x)) (Some at) o) (first_item_of_list p (at + 1) xs)

pub first_label_of_list : (p : Data → Bool) (at : ℕ) → (xs : List (String Global × Value)) → position_from (λ e. p (view e.1)) at xs ≡ first_label p at (members_view xs)
first_label_of_list p at [] = refl
first_label_of_list p at (x ∷ xs) = ap (λ o. cond (p (view x.1)) (Some at) o) (first_label_of_list p (at + 1) xs)

ok_is : {A : Type 0} (o : Option A) (x : A) → ◌≡◌ {A = Result A LineFault} (ok_or o BadCommand) (Ok x) → o ≡ Some x
ok_is None x e = absurd cc
ok_is (Some y) x e = let same : y ≡ x = cc in ap (λ z. Some z) same

pub label_found_is : (fault : LineFault) (d : Data) (xs : List (String Global × Value)) → object_at (codes "stream") d ≡ Ok (members_view xs)
    → label_found fault d ≡ option_map (λ n. part.Label n) (position_from (λ e. label_has fault (view e.1)) 0 xs)
label_found_is fault d xs e =
    rw (ok_is (option_and_then as_object (get (codes "stream") d)) (members_view xs) e, first_label_of_list (label_has fault) 0 xs) refl

pub value_found_is : (fault : LineFault) (d : Data) (xs : List Value) → array_at (codes "values") d ≡ Ok (items_view xs)
    → value_found fault d ≡ option_map (λ n. part.Value n) (position_from (λ v. value_has fault (view v)) 0 xs)
value_found_is fault d xs e =
    rw (ok_is (option_and_then as_array (get (codes "values") d)) (items_view xs) e, first_item_of_list (value_has fault) 0 xs) refl
