-- One more label among those that are there.
use Rattle.std.proofs.Common.{◌≡◌, ℕ, suc, ◌+◌, ◌<◌, ◌||◌, Bool, true, false, not, cond, Bor, length, arith, List, [], ◌∷◌, Option, Some, None, option_map, Ok, Err, Ordering, Less, Equal, Greater, nat_cmp, is_eq, string_bytes, refl, ap, ◌∙◌}
use Rattle.std.specs.Prelude.{is_ok, is_some, MatchOption}
use Rattle.std.specs.List.{before_first, after_first, list_any, position_or_len}
use Rattle.std.specs.Option.{ok_or}
use Rattle.std.specs.Cmp.Lexicographic.{slice_cmp}
use Rattle.std.specs.Ordering.{match_ordering}
use Rattle.std.specs.BTreeMap.{insert_entry, is_at}
use Rattle.std.specs.Map.{lookup}
use Rattle.std.proofs.lemmas.Map.Text.{is_eq-slice_cmp}
use Rattle.serde_json.specs.Data.{Data, string, Members, member, put}
use Rattle.serde_json.specs.Find.{get_member}
use Rattle.serde_json.specs.View.{view, members_view}
use Rattle.serde_json.proofs.Views.{Entry, view-lookup}
use Rattle.ing_refusals.specs.Results.{Returns}
use Rattle.ing_commands.specs.PushCommands.{raw_labels}
use Rattle.ctl_feed.specs.declared.labels.LabelFault.TheVariants.{NoEquals, TwiceNamed}
use Rattle.ctl_feed.specs.Labels.{is_equals, is_named, label_members, label_of, members_labels, with_argument}
use Rattle.ctl_feed.proofs.ReadBack.{labels_back, members_are, read_is}

-- ---- members that are texts

pub texts_are : (ms : Members) → is_ok (raw_labels ms) ≡ true → ms ≡ label_members (members_labels ms)
texts_are ms h = members_are ms (members_labels ms) (read_is (raw_labels ms) h)

put_by : (o : Ordering) (k v : List ℕ) (label : List ℕ × List ℕ) (labels more : List (List ℕ × List ℕ))
    → match_ordering o (member k (string v) (member label.0 (string label.1) (label_members labels))) (member label.0 (string v) (label_members labels)) (member label.0 (string label.1) (label_members more))
    ≡ label_members (match_ordering o ((k, v) ∷ label ∷ labels) ((label.0, v) ∷ labels) (label ∷ more))
put_by Less k v label labels more = refl
put_by Equal k v label labels more = refl
put_by Greater k v label labels more = refl

put_label : (k v : List ℕ) (labels : List (List ℕ × List ℕ)) → put k (string v) (label_members labels) ≡ label_members (insert_entry (slice_cmp nat_cmp) labels k v)
put_label k v [] = refl
put_label k v (label ∷ labels) =
    let more = put_label k v labels in
    ap (λ ms. match_ordering (slice_cmp nat_cmp k label.0) (member k (string v) (member label.0 (string label.1) (label_members labels))) (member label.0 (string v) (label_members labels)) (member label.0 (string label.1) ms)) more
    ∙ put_by (slice_cmp nat_cmp k label.0) k v label labels (insert_entry (slice_cmp nat_cmp) labels k v)

-- the members with one label more
pub put_read : (k v : List ℕ) (ms : Members) → is_ok (raw_labels ms) ≡ true → raw_labels (put k (string v) ms) ≡ Ok (insert_entry (slice_cmp nat_cmp) (members_labels ms) k v)
put_read k v ms h =
    ap (λ m. raw_labels (put k (string v) m)) (texts_are ms h) ∙ ap raw_labels (put_label k v (members_labels ms)) ∙ labels_back (insert_entry (slice_cmp nat_cmp) (members_labels ms) k v)

-- ---- a name that is there

found_by : (o : Ordering) (rest : Option Data) (d : Data) (b : Bool) → is_some rest ≡ b → is_some (match_ordering o rest (Some d) rest) ≡ (is_eq o || b)
found_by Less rest d b h = h
found_by Equal rest d b h = refl
found_by Greater rest d b h = h

named_found : (name : List ℕ) (labels : List (List ℕ × List ℕ)) → is_some (get_member name (label_members labels)) ≡ is_named name labels
named_found name [] = refl
named_found name (label ∷ labels) =
    found_by (slice_cmp nat_cmp name label.0) (get_member name (label_members labels)) (string label.1) (is_named name labels) (named_found name labels)
    ∙ ap (λ b. b || is_named name labels) (is_eq-slice_cmp name label.0)

some_mapped : {A B : Type 0} (f : A → B) (o : Option A) → is_some o ≡ is_some (option_map f o)
some_mapped f None = refl
some_mapped f (Some a) = refl

-- whether a map has the name
pub name_found : (name : List ℕ) (es : List Entry) → is_ok (raw_labels (members_view es)) ≡ true
    → is_some (lookup (is_at (λ k. slice_cmp nat_cmp name (string_bytes k))) es) ≡ is_named name (members_labels (members_view es))
name_found name es h =
    some_mapped view (lookup (is_at (λ k. slice_cmp nat_cmp name (string_bytes k))) es) ∙ ap is_some (view-lookup name es)
    ∙ ap (λ ms. is_some (get_member name ms)) (texts_are (members_view es) h) ∙ named_found name (members_labels (members_view es))

-- ---- the label of an argument

any_by : (b : Bool) (n : ℕ) (rest : List ℕ) → (n ≡ length rest → list_any is_equals rest ≡ false) → cond (not b) (1 + n) 0 ≡ suc (length rest) → (b || list_any is_equals rest) ≡ false
any_by true n rest below h = absurd (omega arith)
any_by false n rest below h = below (omega arith)

none_found : (xs : List ℕ) → position_or_len is_equals xs ≡ length xs → list_any is_equals xs ≡ false
none_found [] h = refl
none_found (x ∷ xs) h = any_by (is_equals x) (position_or_len is_equals xs) xs (none_found xs) h

some_by : (b : Bool) (n : ℕ) (rest : List ℕ) → (n < length rest → list_any is_equals rest ≡ true) → cond (not b) (1 + n) 0 < suc (length rest) → (b || list_any is_equals rest) ≡ true
some_by true n rest below h = refl
some_by false n rest below h = below (omega arith)

one_found : (xs : List ℕ) → position_or_len is_equals xs < length xs → list_any is_equals xs ≡ true
one_found [] h = absurd (omega arith)
one_found (x ∷ xs) h = some_by (is_equals x) (position_or_len is_equals xs) xs (one_found xs) h

abbrev pair_now : Bor (List ℕ) × Bor (List ℕ) → List ℕ × List ℕ
pair_now pair = (pair.0.now, pair.1.now)

pub label_split : (at : ℕ) (argument : List ℕ) (r : Option (Bor (List ℕ) × Bor (List ℕ)))
    → MatchOption r (position_or_len is_equals argument ≡ length argument)
    (λ x. (x.0.now ≡ before_first is_equals argument) × (x.1.now ≡ after_first is_equals argument) × (position_or_len is_equals argument < length argument))
    → Returns pair_now (ok_or r (NoEquals at)) (ok_or (label_of argument) (NoEquals at))
label_split at argument None h = rw (none_found argument h)
label_split at argument (Some x) h = rw (one_found argument h.2, h.0, h.1)

-- ---- one more argument

pub named_twice : (at : ℕ) (labels : List (List ℕ × List ℕ)) (argument : List ℕ) (label : List ℕ × List ℕ) → ok_or (label_of argument) (NoEquals at) ≡ Ok label → is_named label.0 labels ≡ true
    → with_argument at labels argument ≡ Err (TwiceNamed at)
named_twice at labels argument label is twice = rw (is, twice)

pub one_more : (at : ℕ) (labels : List (List ℕ × List ℕ)) (argument : List ℕ) (label : List ℕ × List ℕ) → ok_or (label_of argument) (NoEquals at) ≡ Ok label → is_named label.0 labels ≡ false
    → with_argument at labels argument ≡ Ok (insert_entry (slice_cmp nat_cmp) labels label.0 label.1)
one_more at labels argument label is new = rw (is, new)
