-- A canonical name is read whole, and what is read can go on as one.
use Rattle.std.proofs.Common.{◌≡◌, ◌≢◌, ℕ, ◌⊎◌, inl, inr, Bool, true, false, cond, not, ◌&&◌, ◌==◌, nat_lt, List, [], ◌∷◌, ◌++◌, length, get_or, Option, Some, None, codes, refl, sym, ap, subst, ◌∙◌, append_assoc, append-nil, length-append, arith, IfSome}
use Rattle.std.specs.declared.cmp.Ordering.TheVariants.{Less, Equal, Greater}
use Rattle.std.specs.Ordering.{nat_cmp, ordering_then}
use Rattle.std.specs.List.{flat_map, join_by, list_all}
use Rattle.std.specs.FinMap.{put, entries, from_sorted, entries-from_sorted}
use Rattle.std.proofs.lemmas.List.Folds.{list_all-append}
use Rattle.std.proofs.lemmas.Bool.{and_from, and_parts, not-true}
use Rattle.ing_labels.specs.Names.{is_name_start, is_name_byte, is_label_name}
use Rattle.ing_labels.specs.Labels.{Pair, LabelMap, IsLabelSet, name_order, has_value}
use Rattle.ing_labels.specs.Canonical.{written_byte, written_value, written_pair, canonical_of}
use Rattle.ing_labels.specs.CanonicalTexts.{BeginsCanonical}
use Rattle.ing_labels.specs.CanonicalReading.{Reading, Start, Next, InName, Compared, InValue, Escaped, Matched, Comma, Closed, last_name, above_with, in_name, step, step_from, run_from, closed_of}
use Rattle.ing_labels.proofs.Rising.{Rising, Above, below_last, put_last, last_below, rising-entries, sorted_from}
use Rattle.ing_labels.proofs.Exact.{all_name_bytes}
use Rattle.ing_labels.proofs.CanonicalSpelt.{Good, Spells, open_text, spells_from, run-none, at_seam, shorter, not_shorter, above_end}

pub run-append : (o : Option Reading) (xs ys : List ℕ) → run_from o (xs ++ ys) ≡ run_from (run_from o xs) ys
run-append o [] ys = refl
run-append o (x ∷ xs) ys = run-append (step_from o x) xs ys

-- a part, and then what follows
run_part : (r q : Reading) (part rest : List ℕ) → run_from (Some r) part ≡ Some q → run_from (Some r) (part ++ rest) ≡ run_from (Some q) rest
run_part r q part rest e = run-append (Some r) part rest ∙ ap (λ o. run_from o rest) e

less_lt : (x b : ℕ) → nat_cmp x b ≡ Less → nat_lt x b ≡ true
less_lt x b e = grind arith

less_ne : (x b : ℕ) → nat_cmp x b ≡ Less → (b == x) ≡ false
less_ne x b e = grind arith

equal_is : (x b : ℕ) → nat_cmp x b ≡ Equal → x ≡ b
equal_is x b e = grind arith

eqb_same : (x : ℕ) → (x == x) ≡ true
eqb_same x = grind arith

decided : (s t u : Bool) (o : Option Bool) → s ≡ true → cond s (cond t (Some false) (cond u (Some true) None)) o ≡ cond t (Some false) (cond u (Some true) None)
decided s t u o e = ap (λ b. cond b (cond t (Some false) (cond u (Some true) None)) o) e

inside_with : (n : List ℕ) (x : ℕ) (rest : List ℕ) (b : ℕ) → above_with false (n ++ x ∷ rest) (length n) b ≡ cond (b == x) (Some false) (cond (nat_lt x b) (Some true) None)
inside_with n x rest b =
    decided (nat_lt (length n) (length (n ++ x ∷ rest))) (b == get_or (n ++ x ∷ rest) (length n) 0) (nat_lt (get_or (n ++ x ∷ rest) (length n) 0) b) (Some true) (shorter n x rest)
    ∙ ap (λ y. cond (b == y) (Some false) (cond (nat_lt y b) (Some true) None)) (at_seam n x rest)

end_with : (n : List ℕ) (b : ℕ) → above_with false n (length n) b ≡ Some true
end_with n b =
    ap (λ t. cond t (cond (b == get_or n (length n) 0) (Some false) (cond (nat_lt (get_or n (length n) 0) b) (Some true) None)) (Some true)) (not_shorter n)

less_with : (n : List ℕ) (x : ℕ) (rest : List ℕ) (b : ℕ) → nat_cmp x b ≡ Less → above_with false (n ++ x ∷ rest) (length n) b ≡ Some true
less_with n x rest b e =
    let none : Option Bool = None in
    inside_with n x rest b
    ∙ ap (λ t. cond t (Some false) (cond (nat_lt x b) (Some true) none)) (less_ne x b e)
    ∙ ap (λ t. cond t (Some true) none) (less_lt x b e)

same_with : (n : List ℕ) (x : ℕ) (rest : List ℕ) → above_with false (n ++ x ∷ rest) (length n) x ≡ Some false
same_with n x rest =
    let none : Option Bool = None in
    inside_with n x rest x ∙ ap (λ t. cond t (Some false) (cond (nat_lt x x) (Some true) none)) (eqb_same x)

-- the next byte of a name that ends up above the last one
abbrev Tied : List ℕ → List ℕ → ℕ → List ℕ → Type 0
Tied last n b bs = (above_with false last (length n) b ≡ Some true) ⊎ ((r : List ℕ) × (above_with false last (length n) b ≡ Some false) × (last ≡ (n ++ b ∷ []) ++ r) × (name_order r bs ≡ Less))

tied_inside : (n : List ℕ) (x : ℕ) (rest : List ℕ) (b : ℕ) (bs : List ℕ) → name_order (x ∷ rest) (b ∷ bs) ≡ Less → Tied (n ++ x ∷ rest) n b bs
tied_inside n x rest b bs e =
    elim (nat_cmp x b) as (λ o. nat_cmp x b ≡ o → ordering_then o (name_order rest bs) ≡ Less → Tied (n ++ x ∷ rest) n b bs) [
      | Less ↦ λ is _. inl (less_with n x rest b is)
      | Equal ↦ λ is later.
          let same : x ≡ b = equal_is x b is in
          inr (rest, subst (λ c. above_with false (n ++ x ∷ rest) (length n) c ≡ Some false) same (same_with n x rest), ap (λ c. n ++ c ∷ rest) same ∙ sym (append_assoc n (b ∷ []) rest), later)
      | Greater ↦ λ is bad. absurd (cc)
    ] refl e

tied : (last n rest : List ℕ) (b : ℕ) (bs : List ℕ) → last ≡ n ++ rest → name_order rest (b ∷ bs) ≡ Less → Tied last n b bs
tied last n [] b bs is e = subst (λ l. Tied l n b bs) (sym (is ∙ append-nil n)) (inl (end_with n b))
tied last n (x ∷ rest) b bs is e = subst (λ l. Tied l n b bs) (sym is) (tied_inside n x rest b bs e)

name_step : (ps : List Pair) (n : List ℕ) (above : Bool) (b : ℕ) (o : Option Bool) → is_name_byte b ≡ true → above_with above (last_name ps) (length n) b ≡ o → step (InName ps n above) b ≡ in_name ps (n ++ b ∷ []) o
name_step ps n above b o good e =
    let none : Option Reading = None in
    ap (λ t. cond t (in_name ps (n ++ b ∷ []) (above_with above (last_name ps) (length n) b)) (cond (above && (b == 61)) (Some (Compared ps n)) none)) good
    ∙ ap (in_name ps (n ++ b ∷ [])) e

run_name : (ps : List Pair) (n bs : List ℕ) → list_all is_name_byte bs ≡ true → run_from (Some (InName ps n true)) bs ≡ Some (InName ps (n ++ bs) true)
run_name ps n [] good = ap (λ x. Some (InName ps x true)) (sym (append-nil n))
run_name ps n (b ∷ bs) good =
    let parts = and_parts _ _ good in
    ap (λ o. run_from o bs) (name_step ps n true b (Some true) parts.0 refl)
    ∙ run_name ps (n ++ b ∷ []) bs parts.1
    ∙ ap (λ x. Some (InName ps x true)) (append_assoc n (b ∷ []) bs)

run_tied : (ps : List Pair) (n rest bs : List ℕ) → last_name ps ≡ n ++ rest → list_all is_name_byte bs ≡ true → name_order rest bs ≡ Less → run_from (Some (InName ps n false)) bs ≡ Some (InName ps (n ++ bs) true)
run_tied ps n [] [] is good e = absurd (cc)
run_tied ps n (x ∷ rest) [] is good e = absurd (cc)
run_tied ps n rest (b ∷ bs) is good e =
    let parts = and_parts _ _ good in
    let join = ap (λ x. Some (InName ps x true)) (append_assoc n (b ∷ []) bs) in
    elim (tied (last_name ps) n rest b bs is e) [
      | inl up ↦ ap (λ o. run_from o bs) (name_step ps n false b (Some true) parts.0 up) ∙ run_name ps (n ++ b ∷ []) bs parts.1 ∙ join
      | inr on ↦ ap (λ o. run_from o bs) (name_step ps n false b (Some false) parts.0 on.1) ∙ run_tied ps (n ++ b ∷ []) on.0 bs on.2 parts.1 on.3 ∙ join
    ]

next_step : (ps : List Pair) (b : ℕ) (o : Option Bool) → is_name_start b ≡ true → above_with false (last_name ps) 0 b ≡ o → step (Next ps) b ≡ in_name ps (b ∷ []) o
next_step ps b o good e =
    let none : Option Reading = None in
    ap (λ t. cond t (in_name ps (b ∷ []) (above_with false (last_name ps) 0 b)) none) good ∙ ap (in_name ps (b ∷ [])) e

-- a name above the last one
run_next : (ps : List Pair) (n : List ℕ) → is_label_name n ≡ true → name_order (last_name ps) n ≡ Less → run_from (Some (Next ps)) n ≡ Some (InName ps n true)
run_next ps [] good e = absurd (cc)
run_next ps (b ∷ bs) good e =
    let parts = and_parts _ _ good in
    elim (tied (last_name ps) [] (last_name ps) b bs refl e) [
      | inl up ↦ ap (λ o. run_from o bs) (next_step ps b (Some true) parts.0 up) ∙ run_name ps (b ∷ []) bs parts.1
      | inr on ↦ ap (λ o. run_from o bs) (next_step ps b (Some false) parts.0 on.1) ∙ run_tied ps (b ∷ []) on.0 bs on.2 parts.1 on.3
    ]

run_byte : (ps : List Pair) (n v : List ℕ) (b : ℕ) → run_from (Some (InValue ps n v)) (written_byte b) ≡ Some (InValue ps n (v ++ b ∷ []))
run_byte ps n v b = grind arith

run_value : (ps : List Pair) (n v bs : List ℕ) → run_from (Some (InValue ps n v)) (written_value bs) ≡ Some (InValue ps n (v ++ bs))
run_value ps n v [] = ap (λ x. Some (InValue ps n x)) (sym (append-nil v))
run_value ps n v (b ∷ bs) =
    run_part (InValue ps n v) (InValue ps n (v ++ b ∷ [])) (written_byte b) (written_value bs) (run_byte ps n v b)
    ∙ run_value ps n (v ++ b ∷ []) bs
    ∙ ap (λ x. Some (InValue ps n x)) (append_assoc v (b ∷ []) bs)

run_quote : (ps : List Pair) (n v : List ℕ) → has_value (n, v) ≡ true → step (InValue ps n v) 34 ≡ Some (Matched (put name_order n v ps))
run_quote ps n v valued =
    let none : Option Reading = None in
    ap (λ t. cond t none (Some (Matched (put name_order n v ps)))) (not-true _ valued)

-- a whole pair
run_pair : (ps : List Pair) (p : Pair) (rest : List ℕ) → is_label_name p.0 ≡ true → has_value p ≡ true → name_order (last_name ps) p.0 ≡ Less → run_from (Some (Next ps)) (written_pair p ++ rest) ≡ run_from (Some (Matched (put name_order p.0 p.1 ps))) rest
run_pair ps p rest name valued above =
    let split : written_pair p ++ rest ≡ p.0 ++ (61 ∷ 34 ∷ (written_value p.1 ++ (34 ∷ rest))) = simp append_assoc in
    ap (run_from (Some (Next ps))) split
    ∙ run_part (Next ps) (InName ps p.0 true) p.0 (61 ∷ 34 ∷ (written_value p.1 ++ (34 ∷ rest))) (run_next ps p.0 name above)
    ∙ run_part (InValue ps p.0 []) (InValue ps p.0 p.1) (written_value p.1) (34 ∷ rest) (run_value ps p.0 [] p.1)
    ∙ ap (λ o. run_from o rest) (run_quote ps p.0 p.1 valued)

above_front : (x : List ℕ) (es fs : List Pair) → Above x (es ++ fs) → Above x es
above_front x [] fs h = tt
above_front x (e ∷ es) fs h = (h.0, above_front x es fs h.1)

rising_front : (es fs : List Pair) → Rising (es ++ fs) → Rising es
rising_front [] fs h = tt
rising_front (e ∷ es) fs h = (above_front e.0 es fs h.0, rising_front es fs h.1)

some_name : (n : List ℕ) → is_label_name n ≡ true → name_order [] n ≡ Less
some_name [] good = absurd (cc)
some_name (b ∷ n) good = refl

pair_more : (done : List Pair) (p : Pair) (qs : List Pair) (rest : List ℕ) → Rising (done ++ p ∷ qs) → is_label_name p.0 ≡ true → has_value p ≡ true → run_from (Some (Next done)) (written_pair p ++ rest) ≡ run_from (Some (Matched (done ++ p ∷ []))) rest
pair_more done p qs rest rising name valued =
    let above = last_below done p qs (some_name p.0 name) rising in
    run_pair done p rest name valued above
    ∙ ap (λ x. run_from (Some (Matched x)) rest) (put_last done p.0 p.1 (below_last done p.0 (rising_front done (p ∷ qs) rising) above))

-- the pairs that are left
run_pairs : (done qs : List Pair) → Rising (done ++ qs) → list_all (λ e. is_label_name e.0) qs ≡ true → list_all has_value qs ≡ true → run_from (Some (Matched done)) (flat_map (λ p. codes ", " ++ written_pair p) qs ++ 125 ∷ []) ≡ Some (Closed (done ++ qs))
run_pairs done [] rising names values = ap (λ x. Some (Closed x)) (sym (append-nil done))
run_pairs done (p ∷ qs) rising names values =
    let name = and_parts _ _ names in
    let valued = and_parts _ _ values in
    let left = flat_map (λ p. codes ", " ++ written_pair p) qs ++ 125 ∷ [] in
    let split : flat_map (λ p. codes ", " ++ written_pair p) (p ∷ qs) ++ 125 ∷ [] ≡ 44 ∷ 32 ∷ (written_pair p ++ left) = append_assoc (codes ", " ++ written_pair p) (flat_map (λ p. codes ", " ++ written_pair p) qs) (125 ∷ []) in
    let more = append_assoc done (p ∷ []) qs in
    ap (run_from (Some (Matched done))) split
    ∙ pair_more done p qs left rising name.0 valued.0
    ∙ run_pairs (done ++ p ∷ []) qs (subst Rising (sym more) rising) name.1 valued.1
    ∙ ap (λ x. Some (Closed x)) more

whole : (es : List Pair) → Rising es → list_all (λ e. is_label_name e.0) es ≡ true → list_all has_value es ≡ true → es ≢ [] → run_from (Some Start) (codes "{" ++ join_by written_pair (codes ", ") es ++ codes "}") ≡ Some (Closed es)
whole [] rising names values some = absurd (some refl)
whole (p ∷ qs) rising names values some =
    let name = and_parts _ _ names in
    let valued = and_parts _ _ values in
    let left = flat_map (λ p. codes ", " ++ written_pair p) qs in
    ap (run_from (Some (Next []))) (append_assoc (written_pair p) left (125 ∷ []))
    ∙ pair_more [] p qs (left ++ 125 ∷ []) rising name.0 valued.0
    ∙ run_pairs (p ∷ []) qs rising name.1 valued.1

-- a canonical name is read whole
pub runs_whole : (m : LabelMap) → IsLabelSet m → run_from (Some Start) (canonical_of m) ≡ Some (Closed (entries m))
runs_whole m set = whole (entries m) (rising-entries m) set.names set.values set.some

-- what ends a canonical name, after a name
run_end : (ps : List Pair) (n : List ℕ) → run_from (Some (InName ps n true)) (codes "=\"a\"}") ≡ Some (Closed (put name_order n (codes "a") ps))
run_end ps n = refl

name_bytes_more : (n : List ℕ) → list_all is_name_byte n ≡ true → list_all is_name_byte (n ++ 97 ∷ []) ≡ true
name_bytes_more n good = list_all-append is_name_byte n (97 ∷ []) ∙ and_from _ _ good refl

longer_name : (n : List ℕ) → is_label_name n ≡ true → is_label_name (n ++ 97 ∷ []) ≡ true
longer_name [] good = absurd (cc)
longer_name (b ∷ bs) good = let parts = and_parts _ _ good in and_from _ _ parts.0 (name_bytes_more bs parts.1)

last_named : (ps : List Pair) → list_all (λ e. is_label_name e.0) ps ≡ true → is_label_name (last_name ps ++ 97 ∷ []) ≡ true
last_named [] names = refl
last_named (p ∷ []) names = longer_name p.0 (and_parts _ _ names).0
last_named (p ∷ q ∷ ps) names = last_named (q ∷ ps) (and_parts _ _ names).1

last_bytes : (ps : List Pair) → list_all (λ e. is_label_name e.0) ps ≡ true → list_all is_name_byte (last_name ps) ≡ true
last_bytes [] names = refl
last_bytes (p ∷ []) names = all_name_bytes p.0 (and_parts _ _ names).0
last_bytes (p ∷ q ∷ ps) names = last_bytes (q ∷ ps) (and_parts _ _ names).1

-- some text ends what is read
abbrev Ends : Reading → Type 0
Ends r = (tail : List ℕ) × (ps : List Pair) × (run_from (Some r) tail ≡ Some (Closed ps))

next_ends : (ps : List Pair) → Good ps → Ends (Next ps)
next_ends ps good =
    let n = last_name ps ++ 97 ∷ [] in
    (n ++ codes "=\"a\"}", put name_order n (codes "a") ps, run_part (Next ps) (InName ps n true) n (codes "=\"a\"}") (run_next ps n (last_named ps good.names) (above_end (last_name ps) 97)) ∙ run_end ps n)

tied_ends : (ps : List Pair) (n rest : List ℕ) → Good ps → last_name ps ≡ n ++ rest → Ends (InName ps n false)
tied_ends ps n rest good is =
    let end = rest ++ 97 ∷ [] in
    let all : list_all is_name_byte (n ++ rest) ≡ true = ap (list_all is_name_byte) (sym is) ∙ last_bytes ps good.names in
    let bytes : list_all is_name_byte rest ≡ true = (and_parts _ _ (sym (list_all-append is_name_byte n rest) ∙ all)).1 in
    (end ++ codes "=\"a\"}", put name_order (n ++ end) (codes "a") ps, run_part (InName ps n false) (InName ps (n ++ end) true) end (codes "=\"a\"}") (run_tied ps n rest end is (name_bytes_more rest bytes) (above_end rest 97)) ∙ run_end ps (n ++ end))

one_more_byte : (v : List ℕ) (b : ℕ) → not (length (v ++ b ∷ []) == 0) ≡ true
one_more_byte v b = grind (arith, length-append v (b ∷ []))

value_ends : (ps : List Pair) (n v : List ℕ) (b : ℕ) → run_from (step (InValue ps n (v ++ b ∷ [])) 34) (codes "}") ≡ Some (Closed (put name_order n (v ++ b ∷ []) ps))
value_ends ps n v b = ap (λ o. run_from o (codes "}")) (run_quote ps n (v ++ b ∷ []) (one_more_byte v b))

can_end : (text : List ℕ) (r : Reading) → Spells text r → Ends r
can_end text Start h = (codes "{a=\"a\"}", _, refl)
can_end text (Next ps) h = next_ends ps h.0
can_end text (InName ps n true) h = (codes "=\"a\"}", _, run_end ps n)
can_end text (InName ps n false) h = tied_ends ps n h.2.0 h.0 h.2.1
can_end text (Compared ps n) h = (codes "\"a\"}", _, refl)
can_end text (InValue ps n v) h = (codes "a\"}", _, value_ends ps n v 97)
can_end text (Escaped ps n v) h = (codes "n\"}", _, value_ends ps n v 10)
can_end text (Matched ps) h = (codes "}", ps, refl)
can_end text (Comma ps) h = let e = next_ends ps h.3 in (32 ∷ e.0, e.1, e.2)
can_end text (Closed ps) h = ([], ps, refl)

-- what is read is what the text spells
pub reads : (text : List ℕ) (r : Reading) → run_from (Some Start) text ≡ Some r → Spells text r
reads text r e = let go = spells_from (Some Start) text [] refl in subst (λ o. IfSome o (λ q. Spells text q)) e go

joined_more : (qs : List Pair) (p : Pair) → join_by written_pair (codes ", ") (qs ++ p ∷ []) ≡ flat_map (λ p. written_pair p ++ codes ", ") qs ++ written_pair p
joined_more [] p = append-nil (written_pair p)
joined_more (q ∷ []) p = simp (append_assoc, append-nil)
joined_more (q ∷ r ∷ qs) p = ap (λ x. written_pair q ++ x) (append_assoc (codes ", ") (written_pair r) _ ∙ ap (λ x. codes ", " ++ x) (joined_more (r ∷ qs) p)) ∙ simp append_assoc

not_empty : (qs : List Pair) (p : Pair) → qs ++ p ∷ [] ≡ [] → ⊥
not_empty [] p e = cc
not_empty (q ∷ qs) p e = cc

-- the labels of a text that is read whole
pub labels_of_text : (text : List ℕ) (ps : List Pair) → run_from (Some Start) text ≡ Some (Closed ps) → (entries (from_sorted {R = name_order} ps) ≡ ps) × IsLabelSet (from_sorted ps) × (text ≡ canonical_of (from_sorted ps))
labels_of_text text ps e =
    let h = reads text (Closed ps) e in
    let good = h.3 in
    let same : entries (from_sorted {R = name_order} ps) ≡ ps = entries-from_sorted name_order ps (sorted_from ps good.rising) in
    let spelt : text ≡ codes "{" ++ join_by written_pair (codes ", ") ps ++ codes "}" =
    h.4 ∙ sym (append_assoc (open_text h.0) (written_pair h.1) (125 ∷ [])) ∙ ap (λ x. 123 ∷ (x ++ 125 ∷ [])) (sym (joined_more h.0 h.1)) ∙ ap (λ x. codes "{" ++ join_by written_pair (codes ", ") x ++ codes "}") (sym h.2) in (
      same,
      record {
        names = ap (list_all (λ e. is_label_name e.0)) same ∙ good.names;
        values = ap (list_all has_value) same ∙ good.values;
        some = λ none. not_empty h.0 h.1 (sym h.2 ∙ sym same ∙ none);
      },
      spelt ∙ ap (λ x. codes "{" ++ join_by written_pair (codes ", ") x ++ codes "}") (sym same),
    )

-- what is read can go on as a canonical name
pub begins : (text : List ℕ) (r : Reading) → run_from (Some Start) text ≡ Some r → BeginsCanonical text
begins text r e =
    let f = can_end text r (reads text r e) in
    let found = labels_of_text (text ++ f.0) f.1 (run-append (Some Start) text f.0 ∙ ap (λ o. run_from o f.0) e ∙ f.2) in
    (from_sorted f.1, f.0, found.1, found.2)

-- and with a byte that is not read it can not
pub ends : (text : List ℕ) (b : ℕ) (r : Reading) → run_from (Some Start) text ≡ Some r → step r b ≡ None → BeginsCanonical (text ++ b ∷ []) → ⊥
ends text b r e stuck some =
    let whole_text = ap (run_from (Some Start)) some.3 ∙ runs_whole some.0 some.2 in
    let none : run_from (Some Start) ((text ++ b ∷ []) ++ some.1) ≡ None =
    run-append (Some Start) (text ++ b ∷ []) some.1
    ∙ ap (λ o. run_from o some.1) (run-append (Some Start) text (b ∷ []) ∙ ap (λ o. step_from o b) e ∙ stuck)
    ∙ run-none some.1 in
    cc (whole_text, none)

-- only a canonical name is read whole
pub refused_end : (text : List ℕ) (r : Reading) → run_from (Some Start) text ≡ Some r → closed_of r ≡ None → (m : LabelMap) → IsLabelSet m → text ≡ canonical_of m → ⊥
refused_end text r e unfinished m set is =
    let whole_text = ap (run_from (Some Start)) is ∙ runs_whole m set in
    let same : r ≡ Closed (entries m) = cc in
    let closed : closed_of (Closed (entries m)) ≡ None = ap closed_of (sym same) ∙ unfinished in
    cc
