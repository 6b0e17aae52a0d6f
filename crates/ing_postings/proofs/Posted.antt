-- What the loops over the labels of a stream keep.
use Rattle.std.proofs.Common.{◌≡◌, ℕ, Bool, true, false, cond, ◌&&◌, ◌||◌, IsTrue, List, [], ◌∷◌, ◌++◌, refl, sym, ap, subst, ◌∙◌, append-nil}
use lib.Dec.{T}
use Rattle.std.specs.declared.cmp.Ordering.TheVariants.{Less, Equal, Greater}
use Rattle.std.specs.Ordering.{is_lt, is_eq}
use Rattle.std.specs.List.{list_any}
use Rattle.std.specs.Str.{bytes_eq}
use Rattle.std.specs.FinMap.{entries, entries_sorted}
use Rattle.std.specs.FinMap.Entries.{is_sorted, below_all}
use Rattle.std.proofs.lemmas.Bool.{and_parts, both_ways, false_from_ne_true, or_right}
use Rattle.std.proofs.lemmas.Cmp.{nat_list_eq_equiv}
use Rattle.std.proofs.lemmas.Map.Text.{is_eq-slice_cmp}
use Rattle.std.proofs.lemmas.Slice.Eq.{bytes_eq-Decides}
use Rattle.ing_labels.specs.Labels.{Pair, name_order, LabelMap}
use Rattle.ing_postings.specs.Streams.{is_pair}
use Rattle.ing_postings.specs.Index.{Index, list_at, has_room, HasRooms}

-- each of all pairs but those that are left has a list with room
abbrev pub HasRoomsBut : List Pair → List Pair → Index → Type 0
HasRoomsBut all left index = (n v : List ℕ) → IsTrue (list_any (is_pair n v) all) → list_any (is_pair n v) left ≡ false → IsTrue (has_room index n v)

-- the index began as `first`, and the lists stay while the pairs get room
pub record MakesRooms (all left : List Pair) (first index : Index) : Type 0 where
  pub same : (n v : List ℕ) → list_at index n v ≡ list_at first n v
  pub rooms : HasRoomsBut all left index

-- the index began as `first`, and the place is in the list of each pair but those that are left
pub record Posts (all left : List Pair) (place : ℕ) (first index : Index) : Type 0 where
  pub posted : (n v : List ℕ) → list_at index n v ++ cond (list_any (is_pair n v) left) (place ∷ []) [] ≡ list_at first n v ++ cond (list_any (is_pair n v) all) (place ∷ []) []
  pub rooms : HasRooms index left
  pub sorted : T (is_sorted name_order left)

pub posts_start : (m : LabelMap) (place : ℕ) (index : Index) → HasRooms index (entries m) → Posts (entries m) (entries m) place index index
posts_start m place index rooms = record { posted = λ n v. refl; rooms = rooms; sorted = entries_sorted m }

first : (a b : Bool) → T (a && b) → T a
first true b p = tt
first false b p = p

second : (a b : Bool) → T (a && b) → T b
second true b p = p
second false b p = absurd p

-- a name below another is not the same
other_name : (x y : List ℕ) → T (is_lt (name_order x y)) → bytes_eq y x ≡ false
other_name x y below =
    let apart : is_eq (name_order x y) ≡ false = elim (name_order x y) as (λ r. T (is_lt r) → is_eq r ≡ false) [ Less ↦ λ _. refl | Equal ↦ λ h. absurd h | Greater ↦ λ h. refl ] below in
    nat_list_eq_equiv.symm y x ∙ sym (is_eq-slice_cmp x y) ∙ apart

-- of names in order, no later one is the first
named_once : (name value : List ℕ) (left : List Pair) → T (below_all name_order name left) → list_any (is_pair name value) left ≡ false
named_once name value [] below = refl
named_once name value (q ∷ left) below =
    ap (λ b. b && bytes_eq q.1 value || list_any (is_pair name value) left) (other_name name q.0 (first _ _ below))
    ∙ named_once name value left (second _ _ below)

-- one list grows by the place
grown : (xs ys rs : List ℕ) (place : ℕ) (here later : Bool) → (here ≡ true → later ≡ false) → ys ≡ xs ++ cond here (place ∷ []) [] → xs ++ cond (here || later) (place ∷ []) [] ≡ rs → ys ++ cond later (place ∷ []) [] ≡ rs
grown xs ys rs place true later once grew total =
    ap (λ b. ys ++ cond b (place ∷ []) []) (once refl) ∙ append-nil ys ∙ grew ∙ total
grown xs ys rs place false later once grew total =
    ap (λ zs. zs ++ cond later (place ∷ []) []) (grew ∙ append-nil xs) ∙ total

-- of names in order, no later one is that of a pair
pub once : (e : Pair) (n v : List ℕ) (left : List Pair) → T (is_sorted name_order (e ∷ left)) → bytes_eq e.0 n ≡ true → list_any (is_pair n v) left ≡ false
once e n v left sorted h = subst (λ q. list_any (is_pair q v) left ≡ false) ((bytes_eq-Decides e.0 n).0 h) (named_once e.0 v left (first _ _ sorted))

pub posts_more : (all left : List Pair) (name value : List ℕ) (place : ℕ) (start old new : Index) → Posts all ((name, value) ∷ left) place start old → ((n v : List ℕ) → list_at new n v ≡ list_at old n v ++ cond (is_pair n v (name, value)) (place ∷ []) []) → ((n v : List ℕ) → is_pair n v (name, value) ≡ false → IsTrue (has_room old n v) → IsTrue (has_room new n v)) → Posts all left place start new
posts_more all left name value place start old new before posted kept =
    let alone : (n v : List ℕ) → is_pair n v (name, value) ≡ true → list_any (is_pair n v) left ≡ false = λ n v h. once (name, value) n v left before.sorted (and_parts _ _ h).0 in
    record {
      posted = λ n v. grown _ _ _ place _ _ (alone n v) (posted n v) (before.posted n v);
      rooms = λ n v h. kept n v (false_from_ne_true _ (λ e. both_ways _ (alone n v e) h)) (before.rooms n v (or_right _ _ h));
      sorted = second _ _ before.sorted;
    }

pub rest_sorted : (p : Pair) (left : List Pair) → T (is_sorted name_order (p ∷ left)) → T (is_sorted name_order left)
rest_sorted p left sorted = second _ _ sorted
