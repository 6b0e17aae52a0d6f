-- What is read of a selector text is what it spells.
use Rattle.std.proofs.Common.{◌≡◌, ℕ, Bool, true, false, cond, ◌&&◌, ◌==◌, List, [], ◌∷◌, ◌++◌, Option, Some, None, codes, refl, sym, ap, subst, ◌∙◌, append_assoc, append-nil, arith, IfSome}
use Rattle.std.specs.List.{flat_map, join_by, list_all}
use Rattle.std.proofs.lemmas.List.Concat.{flat_map-append}
use Rattle.std.proofs.lemmas.List.Folds.{list_all-append}
use Rattle.std.proofs.lemmas.Bool.{and_from}
use Rattle.ing_labels.specs.Names.{is_name_start, is_name_byte, is_label_name}
use Rattle.ing_labels.specs.Canonical.{written_byte, written_value}
use Rattle.ing_labels.specs.Selectors.{Match, is_space, Spaced, op_token, quoted, match_tokens, selector_tokens, IsSelectorText}
use Rattle.ing_labels.specs.Reading.{Reading, Start, Opened, InName, Named, Bang, Compared, InValue, Escaped, Matched, Comma, Closed, new_match, after_name, unescape, step, run_from}

-- the tokens up to the next matcher
abbrev pub opened : List Match → List (List ℕ)
opened ms = codes "{" ∷ flat_map (λ x. match_tokens x ++ codes "," ∷ []) ms

abbrev pub HaveNames : List Match → Type 0
HaveNames ms = list_all (λ x. is_label_name x.name) ms ≡ true

-- the text spells what is read
abbrev pub Reads : List ℕ → Reading → Type 0
Reads text Start = Spaced [] text
Reads text Opened = Spaced (codes "{" ∷ []) text
Reads text (InName ms n) = (front : List ℕ) × HaveNames ms × (is_label_name n ≡ true) × Spaced (opened ms) front × (text ≡ front ++ n)
Reads text (Named ms n) = HaveNames ms × (is_label_name n ≡ true) × Spaced (opened ms ++ n ∷ []) text
Reads text (Bang ms n) = (front : List ℕ) × HaveNames ms × (is_label_name n ≡ true) × Spaced (opened ms ++ n ∷ []) front × (text ≡ front ++ 33 ∷ [])
Reads text (Compared ms n op) = HaveNames ms × (is_label_name n ≡ true) × Spaced (opened ms ++ n ∷ op_token op ∷ []) text
Reads text (InValue ms n op v) = (front : List ℕ) × HaveNames ms × (is_label_name n ≡ true) × Spaced (opened ms ++ n ∷ op_token op ∷ []) front × (text ≡ front ++ 34 ∷ written_value v)
Reads text (Escaped ms n op v) = (front : List ℕ) × HaveNames ms × (is_label_name n ≡ true) × Spaced (opened ms ++ n ∷ op_token op ∷ []) front × (text ≡ front ++ 34 ∷ (written_value v ++ 92 ∷ []))
Reads text (Matched ms) = (ps : List Match) × (p : Match) × (ms ≡ ps ++ p ∷ []) × HaveNames ms × Spaced (opened ps ++ match_tokens p) text
Reads text (Comma ms) = HaveNames ms × Spaced (opened ms) text
Reads text (Closed ms) = IsSelectorText ms text

-- one token more
spaced_token : (ts : List (List ℕ)) (t text : List ℕ) → Spaced ts text → Spaced (ts ++ t ∷ []) (text ++ t)
spaced_token [] t text h = (text, [], h, refl, ap (λ x. text ++ x) (sym (append-nil t)))
spaced_token (s ∷ ts) t text h =
    (h.0, h.1 ++ t, h.2, spaced_token ts t h.1 h.3, ap (λ x. x ++ t) h.4 ∙ append_assoc h.0 (s ++ h.1) t ∙ ap (λ x. h.0 ++ x) (append_assoc s h.1 t))

-- white space more
spaced_space : (ts : List (List ℕ)) (b : ℕ) (text : List ℕ) → is_space b ≡ true → Spaced ts text → Spaced ts (text ++ b ∷ [])
spaced_space [] b text w h = list_all-append is_space text (b ∷ []) ∙ ap (λ c. c && (is_space b && true)) h ∙ ap (λ c. c && true) w
spaced_space (s ∷ ts) b text w h =
    (h.0, h.1 ++ b ∷ [], h.2, spaced_space ts b h.1 w h.3, ap (λ x. x ++ b ∷ []) h.4 ∙ append_assoc h.0 (s ++ h.1) (b ∷ []) ∙ ap (λ x. h.0 ++ x) (append_assoc s h.1 (b ∷ [])))

-- a test decides
pub by_cond : {X : Type 0} (Q : X → Type 0) (t : Bool) (x y : X) → (t ≡ true → Q x) → (t ≡ false → Q y) → Q (cond t x y)
by_cond Q t x y f g = elim t as (λ c. t ≡ c → Q (cond c x y)) [ true ↦ f | false ↦ g ] refl

pub is_byte : (b k : ℕ) → (b == k) ≡ true → b ≡ k
is_byte b k e = grind arith

abbrev Goes : List ℕ → ℕ → Option Reading → Type 0
Goes text b o = IfSome o (λ r. Reads (text ++ b ∷ []) r)

and_true : (a b : Bool) → (a && (b && true)) ≡ (a && b)
and_true true true = refl
and_true true false = refl
and_true false b = refl

pub name_more : (n : List ℕ) (b : ℕ) → is_label_name n ≡ true → is_name_byte b ≡ true → is_label_name (n ++ b ∷ []) ≡ true
name_more [] b h e = absurd (cc)
name_more (x ∷ n) b h e =
    ap (λ c. is_name_start x && c) (list_all-append is_name_byte n (b ∷ []) ∙ ap (λ c. list_all is_name_byte n && (c && true)) e)
    ∙ and_true (is_name_start x) (list_all is_name_byte n)
    ∙ h

names_more : (ms : List Match) (m : Match) → HaveNames ms → is_label_name m.name ≡ true → HaveNames (ms ++ m ∷ [])
names_more ms m h e = list_all-append (λ x. is_label_name x.name) ms (m ∷ []) ∙ and_from _ _ h (ap (λ c. c && true) e)

after_name_reads : (text : List ℕ) (ms : List Match) (n : List ℕ) (b : ℕ) → HaveNames ms → is_label_name n ≡ true → Spaced (opened ms ++ n ∷ []) text → Goes text b (after_name ms n b)
after_name_reads text ms n b names good h =
    by_cond (Goes text b) (b == 61) _ _
    (λ e. (names, good, subst (λ c. Spaced (opened ms ++ n ∷ codes "=" ∷ []) (text ++ c ∷ [])) (sym (is_byte b 61 e)) (subst (λ ts. Spaced ts (text ++ 61 ∷ [])) (append_assoc (opened ms) (n ∷ []) (codes "=" ∷ [])) (spaced_token (opened ms ++ n ∷ []) (codes "=") text h))))
    (λ _. by_cond (Goes text b) (b == 33) _ _
    (λ e. (text, names, good, h, ap (λ c. text ++ c ∷ []) (is_byte b 33 e)))
    (λ _. by_cond (Goes text b) (is_space b) _ _ (λ w. (names, good, spaced_space (opened ms ++ n ∷ []) b text w h)) (λ _. tt)))

pub written_more : (v : List ℕ) (b : ℕ) → written_value (v ++ b ∷ []) ≡ written_value v ++ written_byte b
written_more v b = flat_map-append written_byte v (b ∷ []) ∙ ap (λ x. written_value v ++ x) (append-nil (written_byte b))

pub plain_byte : (b : ℕ) → (b == 34) ≡ false → (b == 92) ≡ false → (b == 10) ≡ false → written_byte b ≡ b ∷ []
plain_byte b quote backslash line_feed = grind arith

-- a byte more behind the opening quote
value_more : (text front v : List ℕ) (b : ℕ) → text ≡ front ++ 34 ∷ v → text ++ b ∷ [] ≡ front ++ 34 ∷ (v ++ b ∷ [])
value_more text front v b e = ap (λ x. x ++ b ∷ []) e ∙ append_assoc front (34 ∷ v) (b ∷ [])

opened_more : (ps : List Match) (p : Match) → (opened ps ++ match_tokens p) ++ codes "," ∷ [] ≡ opened (ps ++ p ∷ [])
opened_more ps p =
    let f : Match → List (List ℕ) = λ x. match_tokens x ++ codes "," ∷ [] in
    ap (λ ts. codes "{" ∷ ts) (append_assoc (flat_map f ps) (match_tokens p) (codes "," ∷ []) ∙ sym (flat_map-append f ps (p ∷ [])))

joined_more : (ps : List Match) (p : Match) → join_by match_tokens (codes "," ∷ []) (ps ++ p ∷ []) ≡ flat_map (λ x. match_tokens x ++ codes "," ∷ []) ps ++ match_tokens p
joined_more [] p = refl
joined_more (q ∷ []) p = refl
joined_more (q ∷ r ∷ ps) p = ap (λ ts. match_tokens q ++ codes "," ∷ ts) (joined_more (r ∷ ps) p)

closed_more : (ps : List Match) (p : Match) → (opened ps ++ match_tokens p) ++ codes "}" ∷ [] ≡ selector_tokens (ps ++ p ∷ [])
closed_more ps p = ap (λ ts. codes "{" ∷ (ts ++ codes "}" ∷ [])) (sym (joined_more ps p))

-- one byte more
pub reads_step : (text : List ℕ) (r : Reading) (b : ℕ) → Reads text r → Goes text b (step r b)
reads_step text Start b h =
    by_cond (Goes text b) (b == 123) _ _
    (λ e. subst (λ c. Spaced (codes "{" ∷ []) (text ++ c ∷ [])) (sym (is_byte b 123 e)) (spaced_token [] (codes "{") text h))
    (λ _. by_cond (Goes text b) (is_space b) _ _ (λ w. spaced_space [] b text w h) (λ _. tt))
reads_step text Opened b h =
    by_cond (Goes text b) (is_name_start b) _ _
    (λ e. (text, refl, ap (λ c. c && true) e, h, refl))
    (λ _. by_cond (Goes text b) (b == 125) _ _
    (λ e. record { names = refl; spelt = subst (λ c. Spaced (codes "{" ∷ codes "}" ∷ []) (text ++ c ∷ [])) (sym (is_byte b 125 e)) (spaced_token (codes "{" ∷ []) (codes "}") text h) })
    (λ _. by_cond (Goes text b) (is_space b) _ _ (λ w. spaced_space (codes "{" ∷ []) b text w h) (λ _. tt)))
reads_step text (InName ms n) b h =
    by_cond (Goes text b) (is_name_byte b) _ _
    (λ e. (h.0, h.1, name_more n b h.2 e, h.3, ap (λ x. x ++ b ∷ []) h.4 ∙ append_assoc h.0 n (b ∷ [])))
    (λ _. after_name_reads text ms n b h.1 h.2 (subst (λ x. Spaced (opened ms ++ n ∷ []) x) (sym h.4) (spaced_token (opened ms) n h.0 h.3)))
reads_step text (Named ms n) b h = after_name_reads text ms n b h.0 h.1 h.2
reads_step text (Bang ms n) b h =
    by_cond (Goes text b) (b == 61) _ _
    (λ e. (h.1, h.2, subst (λ x. Spaced (opened ms ++ n ∷ codes "!=" ∷ []) x) (sym (ap (λ c. text ++ c ∷ []) (is_byte b 61 e) ∙ ap (λ x. x ++ 61 ∷ []) h.4 ∙ append_assoc h.0 (33 ∷ []) (61 ∷ []))) (subst (λ ts. Spaced ts (h.0 ++ codes "!=")) (append_assoc (opened ms) (n ∷ []) (codes "!=" ∷ [])) (spaced_token (opened ms ++ n ∷ []) (codes "!=") h.0 h.3))))
    (λ _. tt)
reads_step text (Compared ms n op) b h =
    by_cond (Goes text b) (b == 34) _ _
    (λ e. (text, h.0, h.1, h.2, ap (λ c. text ++ c ∷ []) (is_byte b 34 e)))
    (λ _. by_cond (Goes text b) (is_space b) _ _ (λ w. (h.0, h.1, spaced_space (opened ms ++ n ∷ op_token op ∷ []) b text w h.2)) (λ _. tt))
reads_step text (InValue ms n op v) b h =
    by_cond (Goes text b) (b == 34) _ _
    (λ e. (ms, new_match n op v, refl, names_more ms (new_match n op v) h.1 h.2, subst (λ x. Spaced (opened ms ++ n ∷ op_token op ∷ quoted v ∷ []) x) (sym (ap (λ c. text ++ c ∷ []) (is_byte b 34 e) ∙ value_more text h.0 (written_value v) 34 h.4)) (subst (λ ts. Spaced ts (h.0 ++ quoted v)) (append_assoc (opened ms) (n ∷ op_token op ∷ []) (quoted v ∷ [])) (spaced_token (opened ms ++ n ∷ op_token op ∷ []) (quoted v) h.0 h.3))))
    (λ not_quote. by_cond (Goes text b) (b == 92) _ _
    (λ e. (h.0, h.1, h.2, h.3, ap (λ c. text ++ c ∷ []) (is_byte b 92 e) ∙ value_more text h.0 (written_value v) 92 h.4))
    (λ not_backslash. by_cond (Goes text b) (b == 10) _ _
    (λ _. tt)
    (λ not_line_feed. (h.0, h.1, h.2, h.3, value_more text h.0 (written_value v) b h.4 ∙ ap (λ x. h.0 ++ 34 ∷ (written_value v ++ x)) (sym (plain_byte b not_quote not_backslash not_line_feed)) ∙ ap (λ x. h.0 ++ 34 ∷ x) (sym (written_more v b))))))
reads_step text (Escaped ms n op v) b h =
    let more = λ (c : ℕ) (is : written_byte c ≡ 92 ∷ b ∷ []).
    value_more text h.0 (written_value v ++ 92 ∷ []) b h.4
    ∙ ap (λ x. h.0 ++ 34 ∷ x) (append_assoc (written_value v) (92 ∷ []) (b ∷ []) ∙ ap (λ x. written_value v ++ x) (sym is) ∙ sym (written_more v c)) in
    let Q : Option ℕ → Type 0 = λ o. Goes text b (unescape o ms n op v) in
    by_cond Q (b == 92) _ _
    (λ e. (h.0, h.1, h.2, h.3, more 92 (ap (λ c. 92 ∷ c ∷ []) (sym (is_byte b 92 e)))))
    (λ _. by_cond Q (b == 34) _ _
    (λ e. (h.0, h.1, h.2, h.3, more 34 (ap (λ c. 92 ∷ c ∷ []) (sym (is_byte b 34 e)))))
    (λ _. by_cond Q (b == 110) _ _
    (λ e. (h.0, h.1, h.2, h.3, more 10 (ap (λ c. 92 ∷ c ∷ []) (sym (is_byte b 110 e)))))
    (λ _. tt)))
reads_step text (Matched ms) b h =
    by_cond (Goes text b) (b == 44) _ _
    (λ e. (h.3, subst (λ x. Spaced (opened x) (text ++ b ∷ [])) (sym h.2) (subst (λ c. Spaced (opened (h.0 ++ h.1 ∷ [])) (text ++ c ∷ [])) (sym (is_byte b 44 e)) (subst (λ ts. Spaced ts (text ++ 44 ∷ [])) (opened_more h.0 h.1) (spaced_token (opened h.0 ++ match_tokens h.1) (codes ",") text h.4)))))
    (λ _. by_cond (Goes text b) (b == 125) _ _
    (λ e. record { names = h.3; spelt = subst (λ x. Spaced (selector_tokens x) (text ++ b ∷ [])) (sym h.2) (subst (λ c. Spaced (selector_tokens (h.0 ++ h.1 ∷ [])) (text ++ c ∷ [])) (sym (is_byte b 125 e)) (subst (λ ts. Spaced ts (text ++ 125 ∷ [])) (closed_more h.0 h.1) (spaced_token (opened h.0 ++ match_tokens h.1) (codes "}") text h.4))) })
    (λ _. by_cond (Goes text b) (is_space b) _ _ (λ w. (h.0, h.1, h.2, h.3, spaced_space (opened h.0 ++ match_tokens h.1) b text w h.4)) (λ _. tt)))
reads_step text (Comma ms) b h =
    by_cond (Goes text b) (is_name_start b) _ _
    (λ e. (text, h.0, ap (λ c. c && true) e, h.1, refl))
    (λ _. by_cond (Goes text b) (is_space b) _ _ (λ w. (h.0, spaced_space (opened ms) b text w h.1)) (λ _. tt))
reads_step text (Closed ms) b h =
    by_cond (Goes text b) (is_space b) _ _ (λ w. record { names = h.names; spelt = spaced_space (selector_tokens ms) b text w h.spelt }) (λ _. tt)

pub run-none : (bs : List ℕ) → run_from None bs ≡ None
run-none [] = refl
run-none (b ∷ bs) = run-none bs

-- the bytes of a text more
pub reads_from : (o : Option Reading) (rest done : List ℕ) → IfSome o (λ r. Reads done r) → IfSome (run_from o rest) (λ r. Reads (done ++ rest) r)
reads_from None rest done h = subst (λ o. IfSome o (λ r. Reads (done ++ rest) r)) (sym (run-none rest)) tt
reads_from (Some r) [] done h = subst (λ t. Reads t r) (sym (append-nil done)) h
reads_from (Some r) (b ∷ bs) done h =
    subst (λ t. IfSome (run_from (step r b) bs) (λ q. Reads t q)) (append_assoc done (b ∷ []) bs) (reads_from (step r b) bs (done ++ b ∷ []) (reads_step done r b h))
