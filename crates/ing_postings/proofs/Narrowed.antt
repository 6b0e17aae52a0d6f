-- What a matcher for one value picks has that label.
use Rattle.std.proofs.Common.{◌≡◌, ℕ, suc, zero, ◌<◌, length, get_or, filter, Any, All, Option, Some, None, Bool, true, false, cond, not, ◌&&◌, ◌||◌, ◌==◌, List, [], ◌∷◌, refl, sym, ap, subst, ◌∙◌, arith}
use Rattle.std.specs.List.{list_any, list_all, filter_map, slice_get}
use Rattle.std.specs.List.Sorted.{IsStrictlyIncreasing}
use Rattle.std.specs.Option.{unwrap_or, option_map_or}
use Rattle.std.specs.Str.{bytes_eq}
use Rattle.std.specs.Ordering.{is_eq}
use lib.Dec.{T}
use Rattle.std.specs.FinMap.{entries, entries_sorted, find, get, get-entries}
use Rattle.std.specs.FinMap.Entries.{is_sorted}
use Rattle.std.proofs.Math.Bool.{and-true, or-false}
use Rattle.std.proofs.lemmas.Bool.{and_parts, and_right}
use Rattle.std.proofs.lemmas.Cmp.{nat_list_eq_equiv}
use Rattle.std.proofs.lemmas.List.Elements.{filter_agree}
use Rattle.std.proofs.lemmas.List.Recursion.{and_at}
use Rattle.std.proofs.lemmas.Map.Text.{is_eq-slice_cmp}
use Rattle.ing_labels.specs.Labels.{LabelMap, Pair, name_order}
use Rattle.ing_labels.specs.Selectors.{Match, match_holds, selects, asks_for_value, agrees}
use Rattle.ing_labels.specs.declared.selector.MatchOp.{MatchOp}
use Rattle.ing_labels.specs.declared.selector.MatchOp.TheVariants.{Equals, Differs}
use Rattle.ing_postings.specs.declared.postings.Listed.{Listed}
use Rattle.ing_postings.specs.Streams.{is_pair, has_label, selected}
use Rattle.ing_postings.specs.Index.{Index, IsIndexOf, Narrows}
use Rattle.ing_postings.proofs.Places.{places_read, places_within, places_rise}
use Rattle.ing_postings.proofs.Posted.{once, rest_sorted}

-- entries in order have a pair where its name is found with its value
pair_found : (es : List Pair) (name value : List ℕ) → T (is_sorted name_order es) → list_any (is_pair name value) es ≡ option_map_or (λ v. bytes_eq v value) (find name_order name es) false
pair_found [] name value sorted = refl
pair_found (e ∷ es) name value sorted =
    let tied : is_eq (name_order name e.0) ≡ bytes_eq e.0 name = is_eq-slice_cmp name e.0 ∙ nat_list_eq_equiv.symm name e.0 in
    elim (bytes_eq e.0 name) as (λ b. bytes_eq e.0 name ≡ b → (b && bytes_eq e.1 value || list_any (is_pair name value) es) ≡ option_map_or (λ v. bytes_eq v value) (cond b (Some e.1) (find name_order name es)) false) [
      | true ↦ λ h. ap (λ b. bytes_eq e.1 value || b) (once e name value es sorted h) ∙ or-false (bytes_eq e.1 value)
      | false ↦ λ h. pair_found es name value (rest_sorted e es sorted)
    ] refl
    ∙ ap (λ b. option_map_or (λ v. bytes_eq v value) (cond b (Some e.1) (find name_order name es)) false) (sym tied)

-- an absent label has an empty value
absent : (o : Option (List ℕ)) (value : List ℕ) → not (length value == 0) ≡ true → bytes_eq (unwrap_or o []) value ≡ option_map_or (λ v. bytes_eq v value) o false
absent (Some v) value some = refl
absent None [] some = absurd (cc)
absent None (b ∷ value) some = refl

-- a matcher with a value looks for its label
pub holds_labelled : (m : LabelMap) (x : Match) → not (length x.value == 0) ≡ true → match_holds m x ≡ agrees x.op (has_label x.name x.value m)
holds_labelled m x some =
    ap (agrees x.op) (absent (get m x.name) x.value some ∙ ap (λ o. option_map_or (λ v. bytes_eq v x.value) o false) (get-entries m x.name) ∙ sym (pair_found (entries m) x.name x.value (entries_sorted m)))

asks_labelled : (m : LabelMap) (x : Match) → asks_for_value x ≡ true → match_holds m x ≡ has_label x.name x.value m
asks_labelled m x asks = holds_labelled m x (and_parts _ _ asks).1 ∙ equals x.op (and_parts _ _ asks).0 (has_label x.name x.value m) where
  equals : (op : MatchOp) → agrees op true ≡ true → (b : Bool) → agrees op b ≡ b
  equals Equals asks b = refl
  equals Differs asks b = absurd (cc)

pub filter_both : {X : Type 0} (f g : X → Bool) (xs : List X) → filter g (filter f xs) ≡ filter (λ p. f p && g p) xs
filter_both f g [] = refl
filter_both f g (x ∷ xs) =
    elim (f x) as (λ b. filter g (cond b (x ∷ filter f xs) (filter f xs)) ≡ cond (b && g x) (x ∷ filter (λ p. f p && g p) xs) (filter (λ p. f p && g p) xs)) [
      | true ↦ ap (λ ys. cond (g x) (x ∷ ys) ys) (filter_both f g xs)
      | false ↦ filter_both f g xs
    ]

weaker : (a b : Bool) → (b ≡ true → a ≡ true) → (a && b) ≡ b
weaker a true h = and-true a ∙ h refl
weaker a false h = and_right a false refl

module _ (index : Index) (ms : List Match) (xs : List Listed) (list : List ℕ) (indexed : IsIndexOf index xs) where
  -- a walk over the list of such a matcher finds all that the selector picks
  pub walk_finds : Any (Narrows index list) ms → selected ms (filter_map (slice_get xs) list) ≡ selected ms xs
  walk_finds (k, x, within, is, (asks, named)) =
      let has : Listed → Bool = λ s. has_label x.name x.value s.labels in
      let picked : Listed → Bool = λ s. selects ms s.labels in
      let holds = λ (s : Listed) (all : picked s ≡ true).
      subst (λ z. match_holds s.labels z ≡ true) is (and_at (list_all (match_holds s.labels)) (match_holds s.labels) refl (λ _ _. refl) ms k x within all) in
      ap (λ ps. selected ms (filter_map (slice_get xs) ps)) (named ∙ indexed x.name x.value)
      ∙ ap (selected ms) (places_read x.name x.value xs)
      ∙ filter_both has picked xs
      ∙ filter_agree (λ s. has s && picked s) picked (λ s. weaker _ _ (λ all. sym (asks_labelled s.labels x asks) ∙ holds s all)) xs

  -- where there is no other matcher, all streams in the list are picked
  pub one_finds : length ms ≡ 1 → Any (Narrows index list) ms → filter_map (slice_get xs) list ≡ selected ms xs
  one_finds one (k, x, within, is, (asks, named)) =
      ap (filter_map (slice_get xs)) (named ∙ indexed x.name x.value)
      ∙ places_read x.name x.value xs
      ∙ filter_agree (λ s. has_label x.name x.value s.labels) (λ s. selects (x ∷ []) s.labels) (λ s. sym (and-true (match_holds s.labels x) ∙ asks_labelled s.labels x asks)) xs
      ∙ ap (λ all. selected all xs) (alone ms k one within is) where
        alone : (all : List Match) (k : ℕ) → length all ≡ 1 → k < length all → get_or all k x ≡ x → x ∷ [] ≡ all
        alone [] k one within is = absurd (omega arith)
        alone (y ∷ []) zero one within is = ap (λ z. z ∷ []) (sym is)
        alone (y ∷ []) (suc k) one within is = absurd (omega arith)
        alone (y ∷ z ∷ all) k one within is = absurd (omega arith)

  -- each place in such a list is that of a stream, and they rise
  pub walk_within : Any (Narrows index list) ms → All (λ p. p < length xs) list
  walk_within (k, x, within, is, (asks, named)) = subst (All (λ p. p < length xs)) (sym (named ∙ indexed x.name x.value)) (places_within x.name x.value xs)

  pub walk_rises : Any (Narrows index list) ms → IsStrictlyIncreasing list
  walk_rises (k, x, within, is, (asks, named)) = subst IsStrictlyIncreasing (sym (named ∙ indexed x.name x.value)) (places_rise x.name x.value xs)
