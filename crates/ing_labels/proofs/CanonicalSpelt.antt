-- What is read of a canonical name is what it spells.
use Rattle.std.proofs.Common.{◌≡◌, ℕ, Bool, true, false, not, ◌&&◌, ◌==◌, nat_lt, List, [], ◌∷◌, ◌++◌, length, get_or, Option, Some, None, codes, refl, sym, ap, subst, ◌∙◌, append_assoc, append-nil, arith, IfSome}
use Rattle.std.specs.declared.cmp.Ordering.TheVariants.{Less, Equal, Greater}
use Rattle.std.specs.Ordering.{nat_cmp, ordering_then}
use Rattle.std.specs.List.{flat_map, list_all}
use Rattle.std.specs.FinMap.{put}
use Rattle.std.proofs.lemmas.List.Concat.{flat_map-append}
use Rattle.std.proofs.lemmas.List.Folds.{list_all-append}
use Rattle.std.proofs.lemmas.Bool.{and_from, and_parts}
use Rattle.ing_labels.specs.Names.{is_name_start, is_name_byte, is_label_name}
use Rattle.ing_labels.specs.Labels.{Pair, name_order, has_value}
use Rattle.ing_labels.specs.Canonical.{written_byte, written_value, written_pair}
use Rattle.ing_labels.specs.CanonicalReading.{Reading, Start, Next, InName, Compared, InValue, Escaped, Matched, Comma, Closed, last_name, above_with, in_name, in_value, step, run_from}
use Rattle.ing_labels.proofs.Spelt.{by_cond, is_byte, name_more, written_more, plain_byte}
use Rattle.ing_labels.proofs.Rising.{Rising, below_last, put_last, rising_more}

-- pairs that some labels have
pub record Good (ps : List Pair) : Type 0 where
  pub rising : Rising ps
  pub names : list_all (λ e. is_label_name e.0) ps ≡ true
  pub values : list_all has_value ps ≡ true

-- the text up to the next name
abbrev pub open_text : List Pair → List ℕ
open_text ps = 123 ∷ flat_map (λ p. written_pair p ++ codes ", ") ps

-- the name lies above the last one, or is a front of it
abbrev pub Place : Bool → List ℕ → List ℕ → Type 0
Place true last n = name_order last n ≡ Less
Place false last n = (rest : List ℕ) × (last ≡ n ++ rest)

-- the text spells what is read
abbrev pub Spells : List ℕ → Reading → Type 0
Spells text Start = text ≡ []
Spells text (Next ps) = Good ps × (text ≡ open_text ps)
Spells text (InName ps n above) = Good ps × (is_label_name n ≡ true) × Place above (last_name ps) n × (text ≡ open_text ps ++ n)
Spells text (Compared ps n) = Good ps × (is_label_name n ≡ true) × (name_order (last_name ps) n ≡ Less) × (text ≡ open_text ps ++ (n ++ 61 ∷ []))
Spells text (InValue ps n v) = Good ps × (is_label_name n ≡ true) × (name_order (last_name ps) n ≡ Less) × (text ≡ open_text ps ++ (n ++ 61 ∷ 34 ∷ written_value v))
Spells text (Escaped ps n v) = Good ps × (is_label_name n ≡ true) × (name_order (last_name ps) n ≡ Less) × (text ≡ open_text ps ++ (n ++ 61 ∷ 34 ∷ (written_value v ++ 92 ∷ [])))
Spells text (Matched ps) = (qs : List Pair) × (p : Pair) × (ps ≡ qs ++ p ∷ []) × Good ps × (text ≡ open_text qs ++ written_pair p)
Spells text (Comma ps) = (qs : List Pair) × (p : Pair) × (ps ≡ qs ++ p ∷ []) × Good ps × (text ≡ open_text qs ++ (written_pair p ++ 44 ∷ []))
Spells text (Closed ps) = (qs : List Pair) × (p : Pair) × (ps ≡ qs ++ p ∷ []) × Good ps × (text ≡ open_text qs ++ (written_pair p ++ 125 ∷ []))

abbrev Goes : List ℕ → ℕ → Option Reading → Type 0
Goes text b o = IfSome o (λ r. Spells (text ++ b ∷ []) r)

pub more_order : (n bs : List ℕ) → (last : List ℕ) → name_order last n ≡ Less → name_order last (n ++ bs) ≡ Less
more_order [] bs [] e = absurd (cc)
more_order [] bs (x ∷ last) e = absurd (cc)
more_order (b ∷ n) bs [] e = refl
more_order (b ∷ n) bs (x ∷ last) e =
    elim (nat_cmp x b) as (λ o. ordering_then o (name_order last n) ≡ Less → ordering_then o (name_order last (n ++ bs)) ≡ Less) [
      | Less ↦ λ _. refl
      | Equal ↦ λ e. more_order n bs last e
      | Greater ↦ λ e. absurd (cc)
    ] e

nat_less : (x b : ℕ) → nat_lt x b ≡ true → nat_cmp x b ≡ Less
nat_less x b e = grind arith

pub nat_same : (x : ℕ) → nat_cmp x x ≡ Equal
nat_same x = grind arith

-- a name that leaves a front of the last one upwards
above_here : (n : List ℕ) (x b : ℕ) (rest : List ℕ) → nat_cmp x b ≡ Less → name_order (n ++ x ∷ rest) (n ++ b ∷ []) ≡ Less
above_here [] x b rest e = ap (λ o. ordering_then o (name_order rest [])) e
above_here (a ∷ n) x b rest e = ap (λ o. ordering_then o (name_order (n ++ x ∷ rest) (n ++ b ∷ []))) (nat_same a) ∙ above_here n x b rest e

pub above_end : (n : List ℕ) (b : ℕ) → name_order n (n ++ b ∷ []) ≡ Less
above_end [] b = refl
above_end (a ∷ n) b = ap (λ o. ordering_then o (name_order n (n ++ b ∷ []))) (nat_same a) ∙ above_end n b

pub at_seam : (n : List ℕ) (x : ℕ) (rest : List ℕ) → get_or (n ++ x ∷ rest) (length n) 0 ≡ x
at_seam [] x rest = refl
at_seam (a ∷ n) x rest = at_seam n x rest

pub shorter : (n : List ℕ) (x : ℕ) (rest : List ℕ) → nat_lt (length n) (length (n ++ x ∷ rest)) ≡ true
shorter [] x rest = grind arith
shorter (a ∷ n) x rest = let h = shorter n x rest in grind arith

pub not_shorter : (n : List ℕ) → nat_lt (length n) (length n) ≡ false
not_shorter n = grind arith

abbrev Placed : List ℕ → List ℕ → ℕ → Option Bool → Type 0
Placed last n b o = IfSome o (λ a. Place a last (n ++ b ∷ []))

place_end : (n : List ℕ) (b : ℕ) → Placed n n b (above_with false n (length n) b)
place_end n b =
    by_cond (Placed n n b) (nat_lt (length n) (length n)) _ _
    (λ e. let bad = sym e ∙ not_shorter n in absurd (cc))
    (λ _. above_end n b)

place_inside : (n : List ℕ) (x : ℕ) (rest : List ℕ) (b : ℕ) → Placed (n ++ x ∷ rest) n b (above_with false (n ++ x ∷ rest) (length n) b)
place_inside n x rest b =
    let last = n ++ x ∷ rest in
    by_cond (Placed last n b) (nat_lt (length n) (length last)) _ _
    (λ _. by_cond (Placed last n b) (b == get_or last (length n) 0) _ _
    (λ e. let same : b ≡ x = is_byte b (get_or last (length n) 0) e ∙ at_seam n x rest in
    (rest, ap (λ c. n ++ c ∷ rest) (sym same) ∙ sym (append_assoc n (b ∷ []) rest)))
    (λ _. by_cond (Placed last n b) (nat_lt (get_or last (length n) 0) b) _ _
    (λ e. above_here n x b rest (nat_less x b (ap (λ y. nat_lt y b) (sym (at_seam n x rest)) ∙ e)))
    (λ _. tt)))
    (λ e. let bad = sym e ∙ shorter n x rest in absurd (cc))

-- a longer name stays above the last one or a front of it
pub place_more : (above : Bool) (last n : List ℕ) (b : ℕ) → Place above last n → Placed last n b (above_with above last (length n) b)
place_more true last n b h = more_order n (b ∷ []) last h
place_more false last n b h =
    let Q : List ℕ → Type 0 = λ l. Placed l n b (above_with false l (length n) b) in
    let here : Q (n ++ h.0) = elim h.0 as (λ r. Q (n ++ r)) [
      | [] ↦ subst Q (sym (append-nil n)) (place_end n b)
      | ◌∷◌ x r ↦ place_inside n x r b
    ] in
    subst Q (sym h.1) here

name_goes : (text : List ℕ) (ps : List Pair) (n : List ℕ) (b : ℕ) (o : Option Bool) → Good ps → is_label_name (n ++ b ∷ []) ≡ true → Placed (last_name ps) n b o → text ≡ open_text ps ++ n → Goes text b (in_name ps (n ++ b ∷ []) o)
name_goes text ps n b None good name h e = tt
name_goes text ps n b (Some a) good name h e = (good, name, h, ap (λ x. x ++ b ∷ []) e ∙ append_assoc (open_text ps) n (b ∷ []))

-- a byte more behind a part of the text
more : (text front part : List ℕ) (b : ℕ) → text ≡ front ++ part → text ++ b ∷ [] ≡ front ++ (part ++ b ∷ [])
more text front part b e = ap (λ x. x ++ b ∷ []) e ∙ append_assoc front part (b ∷ [])

value_more : (text front n v : List ℕ) (b : ℕ) → text ≡ front ++ (n ++ 61 ∷ 34 ∷ v) → text ++ b ∷ [] ≡ front ++ (n ++ 61 ∷ 34 ∷ (v ++ b ∷ []))
value_more text front n v b e = more text front (n ++ 61 ∷ 34 ∷ v) b e ∙ ap (λ x. front ++ x) (append_assoc n (61 ∷ 34 ∷ v) (b ∷ []))

pub good_more : (ps : List Pair) (n v : List ℕ) → Good ps → is_label_name n ≡ true → has_value (n, v) ≡ true → name_order (last_name ps) n ≡ Less → Good (ps ++ (n, v) ∷ [])
good_more ps n v good name valued above = record {
  rising = rising_more ps n v (below_last ps n good.rising above) good.rising;
  names = list_all-append (λ e. is_label_name e.0) ps ((n, v) ∷ []) ∙ and_from _ _ good.names (ap (λ c. c && true) name);
  values = list_all-append has_value ps ((n, v) ∷ []) ∙ and_from _ _ good.values (ap (λ c. c && true) valued);
}

-- a pair more
matched_more : (text : List ℕ) (ps : List Pair) (n v : List ℕ) → Good ps → is_label_name n ≡ true → has_value (n, v) ≡ true → name_order (last_name ps) n ≡ Less → text ≡ open_text ps ++ written_pair (n, v) → Spells text (Matched (put name_order n v ps))
matched_more text ps n v good name valued above e =
    let last = put_last ps n v (below_last ps n good.rising above) in
    (ps, (n, v), last, subst Good (sym last) (good_more ps n v good name valued above), e)

pair_text : (n v : List ℕ) → n ++ 61 ∷ 34 ∷ (written_value v ++ 34 ∷ []) ≡ written_pair (n, v)
pair_text n v = simp append_assoc

opened_more : (qs : List Pair) (p : Pair) → open_text qs ++ (written_pair p ++ codes ", ") ≡ open_text (qs ++ p ∷ [])
opened_more qs p =
    let f : Pair → List ℕ = λ p. written_pair p ++ codes ", " in
    ap (λ x. 123 ∷ (flat_map f qs ++ x)) (sym (append-nil (f p))) ∙ ap (λ x. 123 ∷ x) (sym (flat_map-append f qs (p ∷ [])))

-- one byte more
pub spells_step : (text : List ℕ) (r : Reading) (b : ℕ) → Spells text r → Goes text b (step r b)
spells_step text Start b h =
    by_cond (Goes text b) (b == 123) _ _
    (λ e. (record { rising = tt; names = refl; values = refl }, ap (λ x. x ++ b ∷ []) h ∙ ap (λ c. c ∷ []) (is_byte b 123 e)))
    (λ _. tt)
spells_step text (Next ps) b h =
    by_cond (Goes text b) (is_name_start b) _ _
    (λ e. name_goes text ps [] b _ h.0 (ap (λ c. c && true) e) (place_more false (last_name ps) [] b (last_name ps, refl)) (h.1 ∙ sym (append-nil (open_text ps))))
    (λ _. tt)
spells_step text (InName ps n above) b h =
    by_cond (Goes text b) (is_name_byte b) _ _
    (λ e. name_goes text ps n b _ h.0 (name_more n b h.1 e) (place_more above (last_name ps) n b h.2) h.3)
    (λ _. by_cond (Goes text b) (above && (b == 61)) _ _
    (λ e. let parts = and_parts above (b == 61) e in
    (h.0, h.1, subst (λ a. Place a (last_name ps) n) parts.0 h.2, more text (open_text ps) n b h.3 ∙ ap (λ c. open_text ps ++ (n ++ c ∷ [])) (is_byte b 61 parts.1)))
    (λ _. tt))
spells_step text (Compared ps n) b h =
    by_cond (Goes text b) (b == 34) _ _
    (λ e. (h.0, h.1, h.2, more text (open_text ps) (n ++ 61 ∷ []) b h.3 ∙ ap (λ x. open_text ps ++ x) (append_assoc n (61 ∷ []) (b ∷ [])) ∙ ap (λ c. open_text ps ++ (n ++ 61 ∷ c ∷ [])) (is_byte b 34 e)))
    (λ _. tt)
spells_step text (InValue ps n v) b h =
    by_cond (Goes text b) (b == 34) _ _
    (λ e. by_cond (Goes text b) (length v == 0) _ _
    (λ _. tt)
    (λ filled. matched_more (text ++ b ∷ []) ps n v h.0 h.1 (ap not filled) h.2 (value_more text (open_text ps) n (written_value v) b h.3 ∙ ap (λ c. open_text ps ++ (n ++ 61 ∷ 34 ∷ (written_value v ++ c ∷ []))) (is_byte b 34 e) ∙ ap (λ x. open_text ps ++ x) (pair_text n v))))
    (λ not_quote. by_cond (Goes text b) (b == 92) _ _
    (λ e. (h.0, h.1, h.2, value_more text (open_text ps) n (written_value v) b h.3 ∙ ap (λ c. open_text ps ++ (n ++ 61 ∷ 34 ∷ (written_value v ++ c ∷ []))) (is_byte b 92 e)))
    (λ not_backslash. by_cond (Goes text b) (b == 10) _ _
    (λ _. tt)
    (λ not_line_feed. (h.0, h.1, h.2, value_more text (open_text ps) n (written_value v) b h.3 ∙ ap (λ x. open_text ps ++ (n ++ 61 ∷ 34 ∷ (written_value v ++ x))) (sym (plain_byte b not_quote not_backslash not_line_feed)) ∙ ap (λ x. open_text ps ++ (n ++ 61 ∷ 34 ∷ x)) (sym (written_more v b))))))
spells_step text (Escaped ps n v) b h =
    let longer = λ (c : ℕ) (is : written_byte c ≡ 92 ∷ b ∷ []).
    value_more text (open_text ps) n (written_value v ++ 92 ∷ []) b h.3
    ∙ ap (λ x. open_text ps ++ (n ++ 61 ∷ 34 ∷ x)) (append_assoc (written_value v) (92 ∷ []) (b ∷ []) ∙ ap (λ x. written_value v ++ x) (sym is) ∙ sym (written_more v c)) in
    let Q : Option ℕ → Type 0 = λ o. Goes text b (in_value ps n v o) in
    by_cond Q (b == 92) _ _
    (λ e. (h.0, h.1, h.2, longer 92 (ap (λ c. 92 ∷ c ∷ []) (sym (is_byte b 92 e)))))
    (λ _. by_cond Q (b == 34) _ _
    (λ e. (h.0, h.1, h.2, longer 34 (ap (λ c. 92 ∷ c ∷ []) (sym (is_byte b 34 e)))))
    (λ _. by_cond Q (b == 110) _ _
    (λ e. (h.0, h.1, h.2, longer 10 (ap (λ c. 92 ∷ c ∷ []) (sym (is_byte b 110 e)))))
    (λ _. tt)))
spells_step text (Matched ps) b h =
    by_cond (Goes text b) (b == 44) _ _
    (λ e. (h.0, h.1, h.2, h.3, more text (open_text h.0) (written_pair h.1) b h.4 ∙ ap (λ c. open_text h.0 ++ (written_pair h.1 ++ c ∷ [])) (is_byte b 44 e)))
    (λ _. by_cond (Goes text b) (b == 125) _ _
    (λ e. (h.0, h.1, h.2, h.3, more text (open_text h.0) (written_pair h.1) b h.4 ∙ ap (λ c. open_text h.0 ++ (written_pair h.1 ++ c ∷ [])) (is_byte b 125 e)))
    (λ _. tt))
spells_step text (Comma ps) b h =
    by_cond (Goes text b) (b == 32) _ _
    (λ e. (h.3, more text (open_text h.0) (written_pair h.1 ++ 44 ∷ []) b h.4 ∙ ap (λ x. open_text h.0 ++ x) (append_assoc (written_pair h.1) (44 ∷ []) (b ∷ []) ∙ ap (λ c. written_pair h.1 ++ 44 ∷ c ∷ []) (is_byte b 32 e)) ∙ opened_more h.0 h.1 ∙ ap open_text (sym h.2)))
    (λ _. tt)
spells_step text (Closed ps) b h = tt

pub run-none : (bs : List ℕ) → run_from None bs ≡ None
run-none [] = refl
run-none (b ∷ bs) = run-none bs

-- the bytes of a text more
pub spells_from : (o : Option Reading) (rest done : List ℕ) → IfSome o (λ r. Spells done r) → IfSome (run_from o rest) (λ r. Spells (done ++ rest) r)
spells_from None rest done h = subst (λ o. IfSome o (λ r. Spells (done ++ rest) r)) (sym (run-none rest)) tt
spells_from (Some r) [] done h = subst (λ t. Spells t r) (sym (append-nil done)) h
spells_from (Some r) (b ∷ bs) done h =
    subst (λ t. IfSome (run_from (step r b) bs) (λ q. Spells t q)) (append_assoc done (b ∷ []) bs) (spells_from (step r b) bs (done ++ b ∷ []) (spells_step done r b h))
