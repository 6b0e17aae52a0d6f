-- Two label maps with equal canonical names are equal.
use Rattle.std.proofs.Common.{◌≡◌, ◌≢◌, ℕ, ◌⊎◌, ◌&&◌, ◌||◌, true, List, [], ◌∷◌, ◌++◌, codes, refl, sym, ap, ◌∙◌, append_assoc, arith}
use Rattle.std.specs.List.{flat_map, join_by, list_all}
use Rattle.std.proofs.lemmas.Bool.{and_parts}
use Rattle.ing_labels.specs.Names.{is_between, is_name_start, is_name_byte, is_label_name}
use Rattle.ing_labels.specs.Labels.{Pair}
use Rattle.ing_labels.specs.Canonical.{written_byte, written_value, written_pair}

-- a byte is escaped, or written as it is
byte_cases : (b : ℕ) → ((b ≡ 92) × (written_byte b ≡ 92 ∷ 92 ∷ [])) ⊎ (((b ≡ 34) × (written_byte b ≡ 92 ∷ 34 ∷ [])) ⊎ (((b ≡ 10) × (written_byte b ≡ 92 ∷ 110 ∷ [])) ⊎ ((b ≢ 92) × (b ≢ 34) × (written_byte b ≡ b ∷ []))))
byte_cases b = grind arith

-- what a written byte begins
pub byte_exact : (x y : ℕ) (r t : List ℕ) → written_byte x ++ r ≡ written_byte y ++ t → (x ≡ y) × (r ≡ t)
byte_exact x y r t e = grind (arith, byte_cases x, byte_cases y)

-- no written byte begins with a quote
pub quote_ends : (y : ℕ) (r t : List ℕ) → 34 ∷ r ≡ written_byte y ++ t → ⊥
quote_ends y r t e = grind (arith, byte_cases y)

-- a value ends at the first bare quote
pub value_exact : (v w : List ℕ) (r t : List ℕ) → written_value v ++ 34 ∷ r ≡ written_value w ++ 34 ∷ t → (v ≡ w) × (r ≡ t)
value_exact [] [] r t e = (refl, cc)
value_exact [] (y ∷ ys) r t e = absurd (quote_ends y r (written_value ys ++ 34 ∷ t) (e ∙ append_assoc (written_byte y) (written_value ys) (34 ∷ t)))
value_exact (x ∷ xs) [] r t e = absurd (quote_ends x t (written_value xs ++ 34 ∷ r) (sym e ∙ append_assoc (written_byte x) (written_value xs) (34 ∷ r)))
value_exact (x ∷ xs) (y ∷ ys) r t e =
    let first = byte_exact x y (written_value xs ++ 34 ∷ r) (written_value ys ++ 34 ∷ t) (sym (append_assoc (written_byte x) (written_value xs) (34 ∷ r)) ∙ e ∙ append_assoc (written_byte y) (written_value ys) (34 ∷ t)) in
    let rest = value_exact xs ys r t first.1 in
    (ap (λ b. b ∷ xs) first.0 ∙ ap (λ bs. y ∷ bs) rest.0, rest.1)

-- no byte of a name is `=`
not_equals : (b : ℕ) → is_name_byte b ≡ true → b ≡ 61 → ⊥
not_equals b good is = let bad : is_name_byte 61 ≡ true = ap is_name_byte (sym is) ∙ good in cc

-- a name ends at the first `=`
name_exact : (a b : List ℕ) (r t : List ℕ) → list_all is_name_byte a ≡ true → list_all is_name_byte b ≡ true → a ++ 61 ∷ r ≡ b ++ 61 ∷ t → (a ≡ b) × (r ≡ t)
name_exact [] [] r t f g e = (refl, cc)
name_exact [] (y ∷ ys) r t f g e = absurd (not_equals y (and_parts _ _ g).0 (cc))
name_exact (x ∷ xs) [] r t f g e = absurd (not_equals x (and_parts _ _ f).0 (cc))
name_exact (x ∷ xs) (y ∷ ys) r t f g e =
    let same : x ≡ y = cc in
    let rest = name_exact xs ys r t (and_parts _ _ f).1 (and_parts _ _ g).1 (cc) in
    (ap (λ b. b ∷ xs) same ∙ ap (λ bs. y ∷ bs) rest.0, rest.1)

start_is_byte : (b : ℕ) → is_name_start b ≡ true → is_name_byte b ≡ true
start_is_byte b good = ap (λ s. s || is_between 48 57 b) good

pub all_name_bytes : (name : List ℕ) → is_label_name name ≡ true → list_all is_name_byte name ≡ true
all_name_bytes [] good = refl
all_name_bytes (b ∷ bs) good =
    let parts = and_parts _ _ good in
    ap (λ s. s && list_all is_name_byte bs) (start_is_byte b parts.0) ∙ parts.1

-- a written pair, before what follows it
spelled : (p : Pair) (s : List ℕ) → written_pair p ++ s ≡ p.0 ++ 61 ∷ 34 ∷ (written_value p.1 ++ 34 ∷ s)
spelled p s = simp append_assoc

pair_exact : (p q : Pair) (s t : List ℕ) → is_label_name p.0 ≡ true → is_label_name q.0 ≡ true → written_pair p ++ s ≡ written_pair q ++ t → (p ≡ q) × (s ≡ t)
pair_exact p q s t f g e =
    let names = name_exact p.0 q.0 _ _ (all_name_bytes p.0 f) (all_name_bytes q.0 g) (sym (spelled p s) ∙ e ∙ spelled q t) in
    let values = value_exact p.1 q.1 s t (cc) in
    (ap (λ n. (n, p.1)) names.0 ∙ ap (λ v. (q.0, v)) values.0, values.1)

abbrev after_first : List Pair → List ℕ
after_first = flat_map (λ p. codes ", " ++ written_pair p)

rest_exact : (ps qs : List Pair) → list_all (λ p. is_label_name p.0) ps ≡ true → list_all (λ p. is_label_name p.0) qs ≡ true → after_first ps ++ 125 ∷ [] ≡ after_first qs ++ 125 ∷ [] → ps ≡ qs
rest_exact [] [] f g e = refl
rest_exact [] (q ∷ qs) f g e = absurd (cc)
rest_exact (p ∷ ps) [] f g e = absurd (cc)
rest_exact (p ∷ ps) (q ∷ qs) f g e =
    let fs = and_parts _ _ f in
    let gs = and_parts _ _ g in
    let left : after_first (p ∷ ps) ++ 125 ∷ [] ≡ 44 ∷ 32 ∷ (written_pair p ++ (after_first ps ++ 125 ∷ [])) = append_assoc (codes ", " ++ written_pair p) (after_first ps) (125 ∷ []) in
    let right : after_first (q ∷ qs) ++ 125 ∷ [] ≡ 44 ∷ 32 ∷ (written_pair q ++ (after_first qs ++ 125 ∷ [])) = append_assoc (codes ", " ++ written_pair q) (after_first qs) (125 ∷ []) in
    let first = pair_exact p q _ _ fs.0 gs.0 (cc (sym left ∙ e ∙ right)) in
    let rest = rest_exact ps qs fs.1 gs.1 first.1 in
    ap (λ x. x ∷ ps) first.0 ∙ ap (λ xs. q ∷ xs) rest

-- a label name does not begin with a closing brace
not_brace : (name r : List ℕ) → is_label_name name ≡ true → 125 ∷ [] ≡ name ++ r → ⊥
not_brace [] r good e = cc
not_brace (b ∷ bs) r good e =
    let is : 125 ≡ b = cc in
    let bad : is_name_start 125 ≡ true = ap is_name_start is ∙ (and_parts _ _ good).0 in
    cc

pub pairs_exact : (ps qs : List Pair) → list_all (λ p. is_label_name p.0) ps ≡ true → list_all (λ p. is_label_name p.0) qs ≡ true → join_by written_pair (codes ", ") ps ++ 125 ∷ [] ≡ join_by written_pair (codes ", ") qs ++ 125 ∷ [] → ps ≡ qs
pairs_exact [] [] f g e = refl
pairs_exact [] (q ∷ qs) f g e = absurd (not_brace q.0 _ (and_parts _ _ g).0 (e ∙ append_assoc (written_pair q) (after_first qs) (125 ∷ []) ∙ spelled q _))
pairs_exact (p ∷ ps) [] f g e = absurd (not_brace p.0 _ (and_parts _ _ f).0 (sym e ∙ append_assoc (written_pair p) (after_first ps) (125 ∷ []) ∙ spelled p _))
pairs_exact (p ∷ ps) (q ∷ qs) f g e =
    let fs = and_parts _ _ f in
    let gs = and_parts _ _ g in
    let first = pair_exact p q _ _ fs.0 gs.0 (sym (append_assoc (written_pair p) (after_first ps) (125 ∷ [])) ∙ e ∙ append_assoc (written_pair q) (after_first qs) (125 ∷ [])) in
    ap (λ x. x ∷ ps) first.0 ∙ ap (λ xs. q ∷ xs) (rest_exact ps qs fs.1 gs.1 first.1)
