-- A selector text is read whole, and what is read can go on as one.
use Rattle.std.proofs.Common.{◌≡◌, ℕ, true, ◌⊎◌, inl, inr, List, [], ◌∷◌, ◌++◌, Option, Some, None, codes, refl, sym, ap, subst, ◌∙◌, append_assoc, append-nil, arith, IfSome}
use Rattle.std.specs.List.{flat_map, list_all}
use Rattle.std.proofs.lemmas.Bool.{and_parts}
use Rattle.ing_labels.specs.Names.{is_name_start, is_name_byte, is_label_name}
use Rattle.ing_labels.specs.Canonical.{written_byte, written_value}
use Rattle.ing_labels.specs.declared.selector.MatchOp.{MatchOp}
use Rattle.ing_labels.specs.declared.selector.MatchOp.TheVariants.{Equals, Differs}
use Rattle.ing_labels.specs.Selectors.{Match, is_space, Spaced, op_token, quoted, match_tokens, IsSelectorText, BeginsSelector}
use Rattle.ing_labels.specs.Reading.{Reading, Start, Opened, InName, Named, Bang, Compared, InValue, Escaped, Matched, Comma, Closed, step, step_from, run_from, closed_of}
use Rattle.ing_labels.proofs.Spelt.{HaveNames, Reads, reads_from, run-none}

pub run-append : (o : Option Reading) (xs ys : List ℕ) → run_from o (xs ++ ys) ≡ run_from (run_from o xs) ys
run-append o [] ys = refl
run-append o (x ∷ xs) ys = run-append (step_from o x) xs ys

-- white space changes nothing
abbrev Gap : Reading → Type 0
Gap r = (b : ℕ) → is_space b ≡ true → step r b ≡ Some r

gap-Start : Gap Start
gap-Start b w = grind arith

gap-Opened : Gap Opened
gap-Opened b w = grind arith

gap-Named : (ms : List Match) (n : List ℕ) → Gap (Named ms n)
gap-Named ms n b w = grind arith

gap-Compared : (ms : List Match) (n : List ℕ) (op : MatchOp) → Gap (Compared ms n op)
gap-Compared ms n op b w = grind arith

gap-Matched : (ms : List Match) → Gap (Matched ms)
gap-Matched ms b w = grind arith

gap-Comma : (ms : List Match) → Gap (Comma ms)
gap-Comma ms b w = grind arith

gap-Closed : (ms : List Match) → Gap (Closed ms)
gap-Closed ms b w = grind arith

run_space : (r : Reading) → Gap r → (space : List ℕ) → list_all is_space space ≡ true → run_from (Some r) space ≡ Some r
run_space r gap [] w = refl
run_space r gap (b ∷ bs) w =
    let parts = and_parts _ _ w in
    ap (λ o. run_from o bs) (gap b parts.0) ∙ run_space r gap bs parts.1

-- white space and a token
run_token : (r q : Reading) → Gap r → (space t rest text : List ℕ) → list_all is_space space ≡ true → run_from (Some r) t ≡ Some q → text ≡ space ++ (t ++ rest) → run_from (Some r) text ≡ run_from (Some q) rest
run_token r q gap space t rest text w e is =
    ap (run_from (Some r)) is
    ∙ run-append (Some r) space (t ++ rest)
    ∙ ap (λ o. run_from o (t ++ rest)) (run_space r gap space w)
    ∙ run-append (Some r) t rest
    ∙ ap (λ o. run_from o rest) e

name_step : (ms : List Match) (n : List ℕ) (b : ℕ) → is_name_byte b ≡ true → step (InName ms n) b ≡ Some (InName ms (n ++ b ∷ []))
name_step ms n b e = grind arith

run_name : (ms : List Match) (n bs : List ℕ) → list_all is_name_byte bs ≡ true → run_from (Some (InName ms n)) bs ≡ Some (InName ms (n ++ bs))
run_name ms n [] good = ap (λ x. Some (InName ms x)) (sym (append-nil n))
run_name ms n (b ∷ bs) good =
    let parts = and_parts _ _ good in
    ap (λ o. run_from o bs) (name_step ms n b parts.0)
    ∙ run_name ms (n ++ b ∷ []) bs parts.1
    ∙ ap (λ x. Some (InName ms x)) (append_assoc n (b ∷ []) bs)

comma_step : (ms : List Match) (b : ℕ) → is_name_start b ≡ true → step (Comma ms) b ≡ Some (InName ms (b ∷ []))
comma_step ms b e = grind arith

opened_step : (b : ℕ) → is_name_start b ≡ true → step Opened b ≡ Some (InName [] (b ∷ []))
opened_step b e = grind arith

comma_name : (ms : List Match) (n : List ℕ) → is_label_name n ≡ true → run_from (Some (Comma ms)) n ≡ Some (InName ms n)
comma_name ms [] good = absurd (cc)
comma_name ms (b ∷ bs) good =
    let parts = and_parts _ _ good in
    ap (λ o. run_from o bs) (comma_step ms b parts.0) ∙ run_name ms (b ∷ []) bs parts.1

opened_name : (n : List ℕ) → is_label_name n ≡ true → run_from (Some Opened) n ≡ Some (InName [] n)
opened_name [] good = absurd (cc)
opened_name (b ∷ bs) good =
    let parts = and_parts _ _ good in
    ap (λ o. run_from o bs) (opened_step b parts.0) ∙ run_name [] (b ∷ []) bs parts.1

one_space : (b : ℕ) → is_space b ≡ true → (b ≡ 32) ⊎ ((b ≡ 9) ⊎ ((b ≡ 10) ⊎ (b ≡ 13)))
one_space b w = grind arith

in_name_space : (ms : List Match) (n : List ℕ) (b : ℕ) → is_space b ≡ true → step (InName ms n) b ≡ Some (Named ms n)
in_name_space ms n b w =
    let Q : ℕ → Type 0 = λ c. step (InName ms n) c ≡ Some (Named ms n) in
    elim (one_space b w) [
      | inl e ↦ subst Q (sym e) refl
      | inr f ↦ elim f [
        | inl e ↦ subst Q (sym e) refl
        | inr g ↦ elim g [ inl e ↦ subst Q (sym e) refl | inr e ↦ subst Q (sym e) refl ]
      ]
    ]

named_op : (ms : List Match) (n : List ℕ) (op : MatchOp) → run_from (Some (Named ms n)) (op_token op) ≡ Some (Compared ms n op)
named_op ms n Equals = refl
named_op ms n Differs = refl

in_name_op : (ms : List Match) (n : List ℕ) (op : MatchOp) → run_from (Some (InName ms n)) (op_token op) ≡ Some (Compared ms n op)
in_name_op ms n Equals = refl
in_name_op ms n Differs = refl

-- white space after a name, and an operator
run_op : (ms : List Match) (n : List ℕ) (op : MatchOp) (space rest text : List ℕ) → list_all is_space space ≡ true → text ≡ space ++ (op_token op ++ rest) → run_from (Some (InName ms n)) text ≡ run_from (Some (Compared ms n op)) rest
run_op ms n op [] rest text w is =
    ap (run_from (Some (InName ms n))) is ∙ run-append (Some (InName ms n)) (op_token op) rest ∙ ap (λ o. run_from o rest) (in_name_op ms n op)
run_op ms n op (b ∷ bs) rest text w is =
    let parts = and_parts _ _ w in
    ap (run_from (Some (InName ms n))) is
    ∙ ap (λ o. run_from o (bs ++ (op_token op ++ rest))) (in_name_space ms n b parts.0)
    ∙ run_token (Named ms n) (Compared ms n op) (gap-Named ms n) bs (op_token op) rest _ parts.1 (named_op ms n op) refl

run_byte : (ms : List Match) (n : List ℕ) (op : MatchOp) (v : List ℕ) (b : ℕ) → run_from (Some (InValue ms n op v)) (written_byte b) ≡ Some (InValue ms n op (v ++ b ∷ []))
run_byte ms n op v b = grind arith

run_value : (ms : List Match) (n : List ℕ) (op : MatchOp) (v bs : List ℕ) → run_from (Some (InValue ms n op v)) (written_value bs) ≡ Some (InValue ms n op (v ++ bs))
run_value ms n op v [] = ap (λ x. Some (InValue ms n op x)) (sym (append-nil v))
run_value ms n op v (b ∷ bs) =
    run-append (Some (InValue ms n op v)) (written_byte b) (written_value bs)
    ∙ ap (λ o. run_from o (written_value bs)) (run_byte ms n op v b)
    ∙ run_value ms n op (v ++ b ∷ []) bs
    ∙ ap (λ x. Some (InValue ms n op x)) (append_assoc v (b ∷ []) bs)

run_quoted : (ms : List Match) (m : Match) → run_from (Some (Compared ms m.name m.op)) (quoted m.value) ≡ Some (Matched (ms ++ m ∷ []))
run_quoted ms m =
    run-append (Some (InValue ms m.name m.op [])) (written_value m.value) (codes "\"")
    ∙ ap (λ o. run_from o (codes "\"")) (run_value ms m.name m.op [] m.value)

-- a whole matcher
run_match : (r : Reading) → Gap r → (ms : List Match) (m : Match) (ts : List (List ℕ)) (text : List ℕ) → run_from (Some r) m.name ≡ Some (InName ms m.name) → Spaced (m.name ∷ op_token m.op ∷ quoted m.value ∷ ts) text → (rest : List ℕ) × Spaced ts rest × (run_from (Some r) text ≡ run_from (Some (Matched (ms ++ m ∷ []))) rest)
run_match r gap ms m ts text named h = (
  h.3.3.1,
  h.3.3.3,
  run_token r (InName ms m.name) gap h.0 m.name h.1 text h.2 named h.4
      ∙ run_op ms m.name m.op h.3.0 h.3.1 h.1 h.3.2 h.3.4
      ∙ run_token (Compared ms m.name m.op) (Matched (ms ++ m ∷ [])) (gap-Compared ms m.name m.op) h.3.3.0 (quoted m.value) h.3.3.1 h.3.1 h.3.3.2 (run_quoted ms m) h.3.3.4,
)

-- the matchers that are left
run_rest : (done ms : List Match) (text : List ℕ) → HaveNames ms → Spaced (flat_map (λ x. (codes "," ∷ []) ++ match_tokens x) ms ++ codes "}" ∷ []) text → run_from (Some (Matched done)) text ≡ Some (Closed (done ++ ms))
run_rest done [] text names h =
    run_token (Matched done) (Closed done) (gap-Matched done) h.0 (codes "}") h.1 text h.2 refl h.4
    ∙ run_space (Closed done) (gap-Closed done) h.1 h.3
    ∙ ap (λ x. Some (Closed x)) (sym (append-nil done))
run_rest done (m ∷ ms) text names h =
    let parts = and_parts _ _ names in
    let found = run_match (Comma done) (gap-Comma done) done m (flat_map (λ x. (codes "," ∷ []) ++ match_tokens x) ms ++ codes "}" ∷ []) h.1 (comma_name done m.name parts.0) h.3 in
    run_token (Matched done) (Comma done) (gap-Matched done) h.0 (codes ",") h.1 text h.2 refl h.4
    ∙ found.2
    ∙ run_rest (done ++ m ∷ []) ms found.0 parts.1 found.1
    ∙ ap (λ x. Some (Closed x)) (append_assoc done (m ∷ []) ms)

-- a selector text is read whole
pub runs_whole : (ms : List Match) (text : List ℕ) → IsSelectorText ms text → run_from (Some Start) text ≡ Some (Closed ms)
runs_whole [] text is =
    let h = is.spelt in
    run_token Start Opened gap-Start h.0 (codes "{") h.1 text h.2 refl h.4
    ∙ run_token Opened (Closed []) gap-Opened h.3.0 (codes "}") h.3.1 h.1 h.3.2 refl h.3.4
    ∙ run_space (Closed []) (gap-Closed []) h.3.1 h.3.3
runs_whole (m ∷ ms) text is =
    let h = is.spelt in
    let parts = and_parts _ _ is.names in
    let found = run_match Opened gap-Opened [] m (flat_map (λ x. (codes "," ∷ []) ++ match_tokens x) ms ++ codes "}" ∷ []) h.1 (opened_name m.name parts.0) h.3 in
    run_token Start Opened gap-Start h.0 (codes "{") h.1 text h.2 refl h.4
    ∙ found.2
    ∙ run_rest (m ∷ []) ms found.0 parts.1 found.1

-- what ends a selector
abbrev finish : Reading → List ℕ
finish Start = codes "{}"
finish Opened = codes "}"
finish (InName ms n) = codes "=\"\"}"
finish (Named ms n) = codes "=\"\"}"
finish (Bang ms n) = codes "=\"\"}"
finish (Compared ms n op) = codes "\"\"}"
finish (InValue ms n op v) = codes "\"}"
finish (Escaped ms n op v) = codes "n\"}"
finish (Matched ms) = codes "}"
finish (Comma ms) = codes "a=\"\"}"
finish (Closed ms) = []

finished : (r : Reading) → (ms : List Match) × (run_from (Some r) (finish r) ≡ Some (Closed ms))
finished Start = (_, refl)
finished Opened = (_, refl)
finished (InName ms n) = (_, refl)
finished (Named ms n) = (_, refl)
finished (Bang ms n) = (_, refl)
finished (Compared ms n op) = (_, refl)
finished (InValue ms n op v) = (_, refl)
finished (Escaped ms n op v) = (_, refl)
finished (Matched ms) = (_, refl)
finished (Comma ms) = (_, refl)
finished (Closed ms) = (_, refl)

-- what is read is what the text spells
pub reads : (text : List ℕ) (r : Reading) → run_from (Some Start) text ≡ Some r → Reads text r
reads text r e = let go = reads_from (Some Start) text [] refl in subst (λ o. IfSome o (λ q. Reads text q)) e go

-- what is read can go on as a selector
pub begins : (text : List ℕ) (r : Reading) → run_from (Some Start) text ≡ Some r → BeginsSelector text
begins text r e =
    let f = finished r in
    (f.0, finish r, reads (text ++ finish r) (Closed f.0) (run-append (Some Start) text (finish r) ∙ ap (λ o. run_from o (finish r)) e ∙ f.1))

-- and with a byte that is not read it can not
pub ends : (text : List ℕ) (b : ℕ) (r : Reading) → run_from (Some Start) text ≡ Some r → step r b ≡ None → BeginsSelector (text ++ b ∷ []) → ⊥
ends text b r e stuck some =
    let whole = runs_whole some.0 _ some.2 in
    let none : run_from (Some Start) ((text ++ b ∷ []) ++ some.1) ≡ None =
    run-append (Some Start) (text ++ b ∷ []) some.1
    ∙ ap (λ o. run_from o some.1) (run-append (Some Start) text (b ∷ []) ∙ ap (λ o. step_from o b) e ∙ stuck)
    ∙ run-none some.1 in
    cc (whole, none)

-- only a selector text is read whole
pub refused_end : (text : List ℕ) (r : Reading) → run_from (Some Start) text ≡ Some r → closed_of r ≡ None → (ms : List Match) → IsSelectorText ms text → ⊥
refused_end text r e unfinished ms is =
    let whole = runs_whole ms text is in
    let same : r ≡ Closed ms = cc in
    let closed : closed_of (Closed ms) ≡ None = ap closed_of (sym same) ∙ unfinished in
    cc

pub exact : (ms ns : List Match) (text : List ℕ) → IsSelectorText ms text → IsSelectorText ns text → ms ≡ ns
exact ms ns text f g =
    let a = runs_whole ms text f in
    let b = runs_whole ns text g in
    cc
