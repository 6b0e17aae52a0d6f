-- Members that are texts, and labels whose names rise.
use Rattle.std.proofs.Common.{◌≡◌, ℕ, zero, suc, ◌+◌, ◌-◌, ◌<◌, List, [], ◌∷◌, map, take, drop, length, get_or, Ok, refl, sym, ap, subst, ◌∙◌, arith}
use Rattle.std.proofs.lemmas.List.{drop_more, get_or-map, length-map}
use Rattle.std.specs.List.{insert}
use Rattle.std.specs.List.Sorted.{IsStrictlySortedBy}
use Rattle.std.specs.Borrow.{Bor}
use Rattle.std.specs.declared.cmp.Ordering.TheVariants.{Less, Greater}
use Rattle.std.specs.Ordering.{nat_cmp, ordering_reverse}
use Rattle.std.specs.Cmp.Lexicographic.{slice_cmp}
use Rattle.std.proofs.lemmas.Cmp.{nat_list_cmp_total}
use Rattle.json.specs.Json as json
use Rattle.json.specs.Value.{value_view}
use Rattle.serde_json.specs.Data.{string, Members, no_members, member, put}
use Rattle.serde_json.specs.Read.{of_members}
use Rattle.ing_commands.specs.PushCommands.{raw_labels}
use Rattle.ing_commands.specs.Views.{label_view}
use Rattle.ing_pushes.specs.Usual.{GoesAt, Over, Rise, Under}
use Rattle.ing_pushes.proofs.OneByOne.{Member, Reads, reads_more}

abbrev pub Pair : Type 0
Pair = List ℕ × List ℕ

-- the members that labels are
abbrev pub members_with : List Pair → Members
members_with [] = no_members
members_with (p ∷ ps) = member p.0 (string p.1) (members_with ps)

-- which labels they are
pub labels_with : (ps : List Pair) → raw_labels (members_with ps) ≡ Ok ps
labels_with [] = refl
labels_with (p ∷ ps) = rw (labels_with ps) refl

greater : (k l : List ℕ) → slice_cmp nat_cmp l k ≡ Less → slice_cmp nat_cmp k l ≡ Greater
greater k l less = nat_list_cmp_total.antisymm k l ∙ ap ordering_reverse less

-- what lies below a name that lies below all of these lies below all of them
under_lower : (k l : List ℕ) (ps : List Pair) → slice_cmp nat_cmp k l ≡ Less → Under l ps → Under k ps
under_lower k l [] less under = tt
under_lower k l (p ∷ ps) less under = (nat_list_cmp_total.trans k l p.0 less under.0, under_lower k l ps less under.1)

-- a name stays below with a label among them that lies above it
under_insert : (k : List ℕ) (ps : List Pair) (at : ℕ) (p : Pair) → slice_cmp nat_cmp k p.0 ≡ Less → Under k ps → Under k (insert ps at p)
under_insert k ps zero p less under = (less, under)
under_insert k [] (suc at) p less under = (less, tt)
under_insert k (q ∷ ps) (suc at) p less under = (under.0, under_insert k ps at p less under.1)

-- a label that goes to its place leaves names that rise
pub rise_insert : (ps : List Pair) (at : ℕ) (p : Pair) → Rise ps → GoesAt p.0 ps at → Rise (insert ps at p)
unfolding IsStrictlySortedBy
rise_insert ps zero p rise goes = (goes.under, rise)
rise_insert [] (suc at) p rise goes = (tt, tt)
rise_insert (q ∷ ps) (suc at) p rise goes = (under_insert q.0 ps at p goes.over.0 rise.0, rise_insert ps at p rise.1 (record { over = goes.over.1; under = goes.under }))

-- what is put among members goes to its place
pub put_at : (ps : List Pair) (at : ℕ) (p : Pair) → GoesAt p.0 ps at → put p.0 (string p.1) (members_with ps) ≡ members_with (insert ps at p)
put_at [] zero p goes = refl
put_at [] (suc at) p goes = refl
put_at (q ∷ ps) zero p goes = rw goes.under.0 refl
put_at (q ∷ ps) (suc at) p goes =
    let found : slice_cmp nat_cmp p.0 q.0 ≡ Greater = greater p.0 q.0 goes.over.0 in
    rw (found, put_at ps at p (record { over = goes.over.1; under = goes.under })) refl

-- a name below all of these lies below each
under_at : (k : List ℕ) (ps : List Pair) (at : ℕ) (d : Pair) → at < length ps → Under k ps → slice_cmp nat_cmp k (get_or ps at d).0 ≡ Less
under_at k [] at d within under = absurd (omega arith)
under_at k (p ∷ ps) zero d within under = under.0
under_at k (p ∷ ps) (suc at) d within under = under_at k ps at d (omega (arith, within)) under.1

-- a name above one of those that rise lies above all up to it
pub over_all : (ps : List Pair) (at : ℕ) (d : Pair) (k : List ℕ) → at < length ps → Rise ps → slice_cmp nat_cmp (get_or ps at d).0 k ≡ Less → Over k (take (suc at) ps)
unfolding IsStrictlySortedBy
over_all [] at d k within rise less = absurd (omega arith)
over_all (p ∷ ps) zero d k within rise less = (less, tt)
over_all (p ∷ ps) (suc at) d k within rise less =
    let inside : at < length ps = omega (arith, within) in
    (nat_list_cmp_total.trans p.0 (get_or ps at d).0 k (under_at p.0 ps at d inside rise.0) less, over_all ps at d k inside rise.1 less)

-- a name below one of these and below all behind it
pub under_more : (ps : List Pair) (at : ℕ) (d : Pair) (k : List ℕ) → at < length ps → slice_cmp nat_cmp k (get_or ps at d).0 ≡ Less → Under k (drop (at + 1) ps) → Under k (drop at ps)
under_more ps at d k within less under = subst (Under k) (sym (drop_more ps at d within)) (less, under)

abbrev pub Label : Type 0
Label = Bor (List ℕ) × Bor (List ℕ)

-- the place behind a label whose name lies below, where that of all behind it lies above
pub goes_behind : (ls : List Label) (above : ℕ) (d : Label) (k : List ℕ) → above < length ls → Under k (drop (length ls - above) (map label_view ls)) → Greater ≡ slice_cmp nat_cmp k (get_or ls (length ls - above - 1) d).0.now → Rise (map label_view ls) → GoesAt k (map label_view ls) (length ls - above)
goes_behind ls above d k within under more rise =
    let at = length ls - above - 1 in
    let place : length ls - above ≡ suc at = omega (arith, within) in
    let below : at < length ls = omega (arith, within) in
    let here : get_or (map label_view ls) at (label_view d) ≡ label_view (get_or ls at d) = get_or-map label_view ls at d (label_view d) below in
    let long : length (map label_view ls) ≡ length ls = length-map ls label_view in
    let inside : at < length (map label_view ls) = omega (arith, long, within) in
    let less : slice_cmp nat_cmp (get_or (map label_view ls) at (label_view d)).0 k ≡ Less = ap (λ l. slice_cmp nat_cmp l.0 k) here ∙ nat_list_cmp_total.antisymm (get_or ls at d).0.now k ∙ ap ordering_reverse (sym more) in
    record { over = subst (λ n. Over k (take n (map label_view ls))) (sym place) (over_all (map label_view ls) at (label_view d) k inside rise less); under = under }

-- a name that lies below one more
pub under_one_more : (ls : List Label) (above : ℕ) (d : Label) (k : List ℕ) → above < length ls → Under k (drop (length ls - above) (map label_view ls)) → Less ≡ slice_cmp nat_cmp k (get_or ls (length ls - above - 1) d).0.now → Under k (drop (length ls - (above + 1)) (map label_view ls))
under_one_more ls above d k within under more =
    let at = length ls - above - 1 in
    let next : at + 1 ≡ length ls - above = omega (arith, within) in
    let same : length ls - (above + 1) ≡ at = omega (arith, within) in
    let below : at < length ls = omega (arith, within) in
    let here : get_or (map label_view ls) at (label_view d) ≡ label_view (get_or ls at d) = get_or-map label_view ls at d (label_view d) below in
    let long : length (map label_view ls) ≡ length ls = length-map ls label_view in
    let inside : at < length (map label_view ls) = omega (arith, long, within) in
    let less : slice_cmp nat_cmp k (get_or (map label_view ls) at (label_view d)).0 ≡ Less = ap (λ l. slice_cmp nat_cmp k l.0) here ∙ sym more in
    subst (λ n. Under k (drop n (map label_view ls))) (sym same) (under_more (map label_view ls) at (label_view d) k inside less (subst (λ n. Under k (drop n (map label_view ls))) (sym next) under))

-- what is inserted, under f
pub map_insert : {A B : Type 0} (f : A → B) (xs : List A) (at : ℕ) (x : A) → map f (insert xs at x) ≡ insert (map f xs) at (f x)
map_insert f xs zero x = refl
map_insert f [] (suc at) x = refl
map_insert f (y ∷ xs) (suc at) x = ap (λ ys. f y ∷ ys) (map_insert f xs at x)

-- what so many members were read as
pub record ReadAs (ms : List Member) (at : ℕ) (ps : List Pair) : Type 0 where
  pub read : Reads ms at (members_with ps)
  pub rise : Rise ps

-- before the first
pub read_none : (ms : List Member) → ReadAs ms 0 []
unfolding IsStrictlySortedBy
read_none ms = record { read = λ rest. refl; rise = tt }

-- one more member
pub read_more : (ms : List Member) (at : ℕ) (ps qs : List Pair) (place : ℕ) (m : Member) (text : List ℕ) → at < length ms → m ≡ get_or ms at m → ReadAs ms at ps → GoesAt m.0.now ps place → value_view m.1 ≡ json.string text → qs ≡ insert ps place (m.0.now, text) → ReadAs ms (at + 1) qs
read_more ms at ps qs place m text within is done goes has placed =
    let put : (rest : json.Members) → of_members (json.member m.0.now (value_view m.1) rest) (members_with ps) ≡ of_members rest (members_with qs) = λ rest. rw has (ap (of_members rest) (put_at ps place (m.0.now, text) goes ∙ ap members_with (sym placed))) in
    record {
      read = reads_more ms at m (members_with ps) (members_with qs) within is done.read put;
      rise = subst Rise (sym placed) (rise_insert ps place (m.0.now, text) done.rise goes);
    }
