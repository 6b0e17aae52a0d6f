-- Accepting entries changes one chunk after another of one stream, and leaves what stands beside these as it is.
use Rattle.std.proofs.Common.{◌≡◌, ℕ, ◌+◌, ◌<◌, ◌≤◌, Bool, true, false, cond, ◌&&◌, ◌||◌, ◌⊎◌, inl, inr, List, [], ◌∷◌, ◌++◌, length, map, filter, find, get_or, refl, sym, ap, subst, ◌∙◌, arith, nat_eq, nat_le, is_none, Some, None}
use Rattle.std.specs.Prelude.{All}
use Rattle.std.specs.List.{list_any}
use Rattle.std.specs.Option.{option_map, unwrap_or}
use Rattle.std.proofs.lemmas.Bool.Decides.{nat_tests}
use Rattle.std.proofs.lemmas.List.Elements.{All-head, All-tail}
use Rattle.ing_rows.specs.declared.entry.Entry.{Entry}
use Rattle.ing_rows.specs.declared.place.Place.TheVariants.{Head, Block}
use Rattle.ing_rows.specs.declared.place.SealReason.TheVariants.{Full}
use Rattle.ing_rows.specs.declared.rules.Rules.{Rules}
use Rattle.ing_rows.specs.Rows.{StreamKey, Mark, State, same_stream, is_head, is_of_chunk, rows_of_chunk, size_of_rows}
use Rattle.ing_rows.specs.Steps.{moved, is_growing, is_mark_of, in_head, blocks_of, chunk_at, marks_at, added_as, cut, filled, accepted_as, accepted_in_turn}
use Rattle.ing_rows.specs.Turns.{beside, IsOlder}
use Rattle.ing_rows.proofs.Keys.{stream_self}

-- ---- a list in front of one of which nothing passes a test

abbrev pub Fails : {X : Type 0} → (X → Bool) → X → Type 0
Fails p x = p x ≡ false

module _ {X : Type 0} (p : X → Bool) where
  pub filter_none : (ys : List X) → All (Fails p) ys → filter p ys ≡ []
  filter_none [] h = refl
  filter_none (y ∷ ys) h = ap (λ b. cond b (y ∷ filter p ys) (filter p ys)) (All-head (Fails p) y ys h) ∙ filter_none ys (All-tail (Fails p) y ys h)

  find_none : (ys : List X) → All (Fails p) ys → find p ys ≡ None
  find_none [] h = refl
  find_none (y ∷ ys) h = ap (λ b. cond b (Some y) (find p ys)) (All-head (Fails p) y ys h) ∙ find_none ys (All-tail (Fails p) y ys h)

  any_none : (ys : List X) → All (Fails p) ys → list_any p ys ≡ false
  any_none [] h = refl
  any_none (y ∷ ys) h = ap (λ b. b || list_any p ys) (All-head (Fails p) y ys h) ∙ any_none ys (All-tail (Fails p) y ys h)

  map_none : (f : X → X) (ys : List X) → All (Fails p) ys → map (λ x. cond (p x) (f x) x) ys ≡ ys
  map_none f [] h = refl
  map_none f (y ∷ ys) h = λ i. cond (All-head (Fails p) y ys h i) (f y) y ∷ map_none f ys (All-tail (Fails p) y ys h) i

  cond_front : (b : Bool) (x : X) (xs zs ys : List X) → zs ≡ xs ++ ys → cond b (x ∷ zs) zs ≡ cond b (x ∷ xs) xs ++ ys
  cond_front true x xs zs ys h = ap (λ l. x ∷ l) h
  cond_front false x xs zs ys h = h

  pub filter_joined : (xs ys : List X) → filter p (xs ++ ys) ≡ filter p xs ++ filter p ys
  filter_joined [] ys = refl
  filter_joined (x ∷ xs) ys = cond_front (p x) x (filter p xs) (filter p (xs ++ ys)) (filter p ys) (filter_joined xs ys)

  no_more : (xs : List X) → xs ++ [] ≡ xs
  no_more [] = refl
  no_more (x ∷ xs) = ap (λ l. x ∷ l) (no_more xs)

  pub filter_beside : (xs ys : List X) → All (Fails p) ys → filter p (xs ++ ys) ≡ filter p xs
  filter_beside xs ys h = filter_joined xs ys ∙ ap (λ l. filter p xs ++ l) (filter_none ys h) ∙ no_more (filter p xs)

  find_beside : (xs ys : List X) → All (Fails p) ys → find p (xs ++ ys) ≡ find p xs
  find_beside [] ys h = find_none ys h
  find_beside (x ∷ xs) ys h = ap (λ o. cond (p x) (Some x) o) (find_beside xs ys h)

  any_beside : (xs ys : List X) → All (Fails p) ys → list_any p (xs ++ ys) ≡ list_any p xs
  any_beside [] ys h = any_none ys h
  any_beside (x ∷ xs) ys h = ap (λ b. p x || b) (any_beside xs ys h)

  pub map_beside : (f : X → X) (xs ys : List X) → All (Fails p) ys → map (λ x. cond (p x) (f x) x) (xs ++ ys) ≡ map (λ x. cond (p x) (f x) x) xs ++ ys
  map_beside f [] ys h = map_none f ys h
  map_beside f (x ∷ xs) ys h = ap (λ l. cond (p x) (f x) x ∷ l) (map_beside f xs ys h)

-- none passes, or what each that passes says
pub alone : {X C : Type 0} (p : X → Bool) (Q : X → Type 0) → ((x : X) → p x ≡ true → Q x → C) → (xs : List X) → All Q xs → (length (filter p xs) ≡ 0) ⊎ C
alone p Q says [] all = inl refl
alone {C} p Q says (x ∷ xs) all = by_cases (p x) refl (alone p Q says xs (All-tail Q x xs all)) where
  by_cases : (b : Bool) → p x ≡ b → (length (filter p xs) ≡ 0) ⊎ C → (length (cond b (x ∷ filter p xs) (filter p xs)) ≡ 0) ⊎ C
  by_cases true is rest = inr (says x is (All-head Q x xs all))
  by_cases false is rest = rest

-- ---- which chunk grows

module _ (s : StreamKey) where
  -- what grows is this chunk
  abbrev GrowsAt : ℕ → List Mark → Type 0
  GrowsAt c [] = Unit {0}
  GrowsAt c (m ∷ ms) = (is_growing s m ≡ true → m.chunk ≡ c) × GrowsAt c ms

  abbrev NoneGrows : List Mark → Type 0
  NoneGrows [] = Unit {0}
  NoneGrows (m ∷ ms) = (is_growing s m ≡ false) × NoneGrows ms

  none_at : (c : ℕ) (ms : List Mark) → NoneGrows ms → GrowsAt c ms
  none_at c [] h = tt
  none_at c (m ∷ ms) h = (λ k. absurd (cc (h.0)), none_at c ms h.1)

  none_chunk : (n : ℕ) (ms : List Mark) → NoneGrows ms → chunk_at s n ms ≡ n
  none_chunk n [] h = refl
  none_chunk n (m ∷ ms) h =
      ap (λ b. unwrap_or (option_map (λ (q : Mark). q.chunk) (cond b (Some m) (find (is_growing s) ms))) n) h.0 ∙ none_chunk n ms h.1

  none_left : (ms : List Mark) → length (filter (is_growing s) ms) ≤ 0 → NoneGrows ms
  none_left [] h = tt
  none_left (m ∷ ms) h = by_cases (λ few. none_left ms few) (is_growing s m) refl h where
    by_cases : (length (filter (is_growing s) ms) ≤ 0 → NoneGrows ms) → (b : Bool) → is_growing s m ≡ b → length (cond b (m ∷ filter (is_growing s) ms) (filter (is_growing s) ms)) ≤ 0 → NoneGrows (m ∷ ms)
    by_cases rest true is few = absurd (omega arith)
    by_cases rest false is few = (is, rest few)

  chunk_cond : (b : Bool) (n : ℕ) (m : Mark) (ms : List Mark) → unwrap_or (option_map (λ (q : Mark). q.chunk) (cond b (Some m) (find (is_growing s) ms))) n ≡ cond b m.chunk (chunk_at s n ms)
  chunk_cond true n m ms = refl
  chunk_cond false n m ms = refl

  one_at : (n : ℕ) (ms : List Mark) → length (filter (is_growing s) ms) ≤ 1 → GrowsAt (chunk_at s n ms) ms
  one_at n [] h = tt
  one_at n (m ∷ ms) h = subst (λ c. GrowsAt c (m ∷ ms)) (sym (chunk_cond (is_growing s m) n m ms)) (by_cases (λ few. one_at n ms few) (is_growing s m) refl h) where
    by_cases : (length (filter (is_growing s) ms) ≤ 1 → GrowsAt (chunk_at s n ms) ms) → (b : Bool) → is_growing s m ≡ b → length (cond b (m ∷ filter (is_growing s) ms) (filter (is_growing s) ms)) ≤ 1
        → GrowsAt (cond b m.chunk (chunk_at s n ms)) (m ∷ ms)
    by_cases rest true is few = let none : length (filter (is_growing s) ms) ≤ 0 = omega arith in (λ k. refl, none_at m.chunk ms (none_left ms none))
    by_cases rest false is few = (λ k. absurd (cc), rest few)

  -- an update keeps the chunk
  module _ (now : ℕ) where
    abbrev update : Mark → Mark
    update m = cond (is_growing s m) (record m { last_update = now }) m

    updated_grows : (m : Mark) → is_growing s (update m) ≡ is_growing s m
    updated_grows m = by_cases (is_growing s m) where
      by_cases : (b : Bool) → is_growing s (cond b (record m { last_update = now }) m) ≡ is_growing s m
      by_cases true = refl
      by_cases false = refl

    updated_chunk : (m : Mark) → (update m).chunk ≡ m.chunk
    updated_chunk m = by_cases (is_growing s m) where
      by_cases : (b : Bool) → (cond b (record m { last_update = now }) m).chunk ≡ m.chunk
      by_cases true = refl
      by_cases false = refl

    updated_at : (c : ℕ) (ms : List Mark) → GrowsAt c ms → GrowsAt c (map update ms)
    updated_at c [] h = tt
    updated_at c (m ∷ ms) h = (λ k. updated_chunk m ∙ h.0 (sym (updated_grows m) ∙ k), updated_at c ms h.1)

    updated_find : (n k : ℕ) (ms : List Mark) → list_any (is_growing s) ms ≡ true → chunk_at s k (map update ms) ≡ chunk_at s n ms
    updated_find n k [] h = absurd (cc)
    updated_find n k (m ∷ ms) h =
        chunk_cond (is_growing s (update m)) k (update m) (map update ms)
        ∙ (λ i. cond (updated_grows m i) (updated_chunk m i) (chunk_at s k (map update ms)))
        ∙ by_cases (λ any. updated_find n k ms any) (is_growing s m) h
        ∙ sym (chunk_cond (is_growing s m) n m ms) where
          by_cases : (list_any (is_growing s) ms ≡ true → chunk_at s k (map update ms) ≡ chunk_at s n ms) → (b : Bool) → (b || list_any (is_growing s) ms) ≡ true → cond b m.chunk (chunk_at s k (map update ms)) ≡ cond b m.chunk (chunk_at s n ms)
          by_cases rest true any = refl
          by_cases rest false any = rest any

    none_any : (ms : List Mark) → list_any (is_growing s) ms ≡ false → NoneGrows ms
    none_any [] h = tt
    none_any (m ∷ ms) h = by_cases (λ any. none_any ms any) (is_growing s m) refl h where
      by_cases : (list_any (is_growing s) ms ≡ false → NoneGrows ms) → (b : Bool) → is_growing s m ≡ b → (b || list_any (is_growing s) ms) ≡ false → NoneGrows (m ∷ ms)
      by_cases rest true is any = absurd (cc)
      by_cases rest false is any = (is, rest any)

    -- the marks with which an entry is placed: the chunk that it goes to is the one that grows
    record GrewTo (c : ℕ) (ms : List Mark) : Type 0 where
      chunk : (k : ℕ) → chunk_at s k ms ≡ c
      grows : GrowsAt c ms

    abbrev begun : ℕ → Mark
    begun n = record { stream = s; chunk = n; last_update = now; reason = None }

    grew_to : (n : ℕ) (ms : List Mark) → GrowsAt (chunk_at s n ms) ms → GrewTo (chunk_at s n ms) (marks_at s n now ms)
    grew_to n ms h = by_cases (list_any (is_growing s) ms) refl where
      by_cases : (b : Bool) → list_any (is_growing s) ms ≡ b → GrewTo (chunk_at s n ms) (cond b (map update ms) (begun n ∷ ms))
      by_cases true any = record { chunk = λ k. updated_find n k ms any; grows = updated_at (chunk_at s n ms) ms h }
      by_cases false any =
          let none = none_any ms any in
          let here : chunk_at s n ms ≡ n = none_chunk n ms none in
          record {
            chunk = λ k. ap (λ b. unwrap_or (option_map (λ (q : Mark). q.chunk) (cond (b && true) (Some (begun n)) (find (is_growing s) ms))) k) (stream_self s) ∙ sym here;
            grows = (λ g. sym here, none_at (chunk_at s n ms) ms none);
          }

  -- where what grows is this chunk, nothing grows once it is sealed
  module _ (c : ℕ) where
    abbrev seal : Mark → Mark
    seal m = cond (is_mark_of s c m) (record m { reason = Some Full }) m

    sealed_none : (ms : List Mark) → GrowsAt c ms → NoneGrows (map seal ms)
    sealed_none [] h = tt
    sealed_none (m ∷ ms) h = (by_cases (same_stream m.stream s) refl (nat_eq m.chunk c) refl (is_none m.reason) refl, sealed_none ms h.1) where
      and_false : (b : Bool) → (b && false) ≡ false
      and_false true = refl
      and_false false = refl

      by_cases : (a : Bool) → same_stream m.stream s ≡ a → (b : Bool) → nat_eq m.chunk c ≡ b → (g : Bool) → is_none m.reason ≡ g
          → is_growing s (cond (a && b) (record m { reason = Some Full }) m) ≡ false
      by_cases true is true this g grows = and_false (same_stream m.stream s)
      by_cases true is false this true grows = let same : m.chunk ≡ c = h.0 (λ i. is i && grows i) in absurd (grind (arith, nat_tests))
      by_cases true is false this false grows = (λ i. is i && grows i)
      by_cases false is b this g grows = ap (λ a. a && is_none m.reason) is

-- ---- beside older chunks

cond_beside : (b : Bool) (x y others : State) → cond b (beside x others) (beside y others) ≡ beside (cond b x y) others
cond_beside true x y others = refl
cond_beside false x y others = refl

and_absent : (s : StreamKey) (c : ℕ) (t : StreamKey) (chunk : ℕ) → (same_stream t s ≡ true → chunk < c) → (same_stream t s && nat_eq chunk c) ≡ false
and_absent s c t chunk h = by_cases (same_stream t s) refl (nat_eq chunk c) refl where
  by_cases : (a : Bool) → same_stream t s ≡ a → (b : Bool) → nat_eq chunk c ≡ b → (a && b) ≡ false
  by_cases true is true this = let below : chunk < c = h is in absurd (grind (arith, nat_tests))
  by_cases true is false this = refl
  by_cases false is b this = refl

module _ (rules : Rules) (s : StreamKey) (now c : ℕ) (others : State) (older : IsOlder s c others) where
  no_rows : All (Fails (is_of_chunk s c)) others.rows
  no_rows = λ k d below. and_absent s c _ _ (older.rows k d below)

  no_heads : All (Fails (in_head s c)) others.rows
  no_heads = λ k d below. ap (λ b. b && is_head (get_or others.rows k d).place) (no_rows k d below)

  no_marks : All (Fails (is_mark_of s c)) others.marks
  no_marks = λ k d below. and_absent s c _ _ (older.marks k d below)

  cut_beside : (st : State) → cut rules s c (beside st others) ≡ beside (cut rules s c st) others
  cut_beside st =
      let full : Bool = nat_le rules.chunk_block_size (size_of_rows (filter (in_head s c) st.rows)) in
      let closed : State = record { rows = moved (in_head s c) Block st.rows; marks = st.marks } in
      (λ i. cond (nat_le rules.chunk_block_size (size_of_rows (filter_beside (in_head s c) st.rows others.rows no_heads i)))
      (record { rows = map_beside (in_head s c) (λ r. record r { place = Block }) st.rows others.rows no_heads i; marks = st.marks ++ others.marks })
      (beside st others))
      ∙ cond_beside full closed st others

  filled_beside : (st : State) → filled rules s c (beside st others) ≡ beside (filled rules s c st) others
  filled_beside st =
      let full : Bool = nat_le rules.chunk_target_size (size_of_rows (rows_of_chunk s c st.rows)) in
      let closed : State = record { rows = moved (in_head s c) Block st.rows; marks = map (seal s c) st.marks } in
      (λ i. cond (nat_le rules.chunk_target_size (size_of_rows (filter_beside (is_of_chunk s c) st.rows others.rows no_rows i)))
      (record {
        rows = map_beside (in_head s c) (λ r. record r { place = Block }) st.rows others.rows no_heads i;
        marks = map_beside (is_mark_of s c) (λ m. record m { reason = Some Full }) st.marks others.marks no_marks i;
      })
      (beside st others))
      ∙ cond_beside full closed st others

cond_marks : (b : Bool) (x y : State) (ms : List Mark) → x.marks ≡ ms → y.marks ≡ ms → (cond b x y).marks ≡ ms
cond_marks true x y ms h k = h
cond_marks false x y ms h k = k

older_later : (s : StreamKey) (c d : ℕ) (st : State) → c ≤ d → IsOlder s c st → IsOlder s d st
older_later s c d st le older =
    record { rows = λ k x below is. later (older.rows k x below is); marks = λ k x below is. later (older.marks k x below is); sealed = older.sealed } where
      later : {n : ℕ} → n < c → n < d
      later h = omega arith

module _ (rules : Rules) (s : StreamKey) (now : ℕ) where
  -- the chunk that the next entry goes to is no older, and no later than the next number
  abbrev Next : ℕ → ℕ → List Mark → Type 0
  Next n c ms = (c ≤ chunk_at s (n + 1) ms) × (chunk_at s (n + 1) ms ≤ n + 1) × GrowsAt s (chunk_at s (n + 1) ms) ms

  next_cond : (n c : ℕ) (b : Bool) (x y : State) → Next n c x.marks → Next n c y.marks → Next n c (cond b x y).marks
  next_cond n c true x y h k = h
  next_cond n c false x y h k = k

  next_marks : (n : ℕ) (e : Entry) (mine : State) → chunk_at s n mine.marks ≤ n → GrowsAt s (chunk_at s n mine.marks) mine.marks
      → Next n (chunk_at s n mine.marks) (accepted_as n rules s e now mine).marks
  next_marks n e mine le grows =
      let c = chunk_at s n mine.marks in
      let st = cut rules s c (added_as n mine s e now) in
      let grown : GrewTo s now c (marks_at s n now mine.marks) = grew_to s now n mine.marks grows in
      let here : chunk_at s (n + 1) (marks_at s n now mine.marks) ≡ c = grown.chunk (n + 1) in
      let kept : Next n c (marks_at s n now mine.marks) =
      subst (λ d. (c ≤ d) × (d ≤ n + 1) × GrowsAt s d (marks_at s n now mine.marks)) (sym here) (omega arith, omega arith, grown.grows) in
      let none : NoneGrows s (map (seal s c) (marks_at s n now mine.marks)) = sealed_none s c (marks_at s n now mine.marks) grown.grows in
      let sealed : Next n c (map (seal s c) (marks_at s n now mine.marks)) =
      subst (λ d. (c ≤ d) × (d ≤ n + 1) × GrowsAt s d (map (seal s c) (marks_at s n now mine.marks))) (sym (none_chunk s (n + 1) (map (seal s c) (marks_at s n now mine.marks)) none))
      (omega arith, omega arith, none_at s (n + 1) (map (seal s c) (marks_at s n now mine.marks)) none) in
      let same : st.marks ≡ marks_at s n now mine.marks = cond_marks _ _ (added_as n mine s e now) (marks_at s n now mine.marks) refl refl in
      next_cond n c _ _ st (subst (λ ms. Next n c (map (seal s c) ms)) (sym same) sealed) (subst (Next n c) (sym same) kept)

  added_beside : (n : ℕ) (e : Entry) (mine others : State) → IsOlder s (chunk_at s n mine.marks) others
      → accepted_as n rules s e now (beside mine others) ≡ beside (accepted_as n rules s e now mine) others
  added_beside n e mine others older =
      let c = chunk_at s n mine.marks in
      let chunk : chunk_at s n (mine.marks ++ others.marks) ≡ c =
      ap (λ o. unwrap_or (option_map (λ (m : Mark). m.chunk) o) n) (find_beside (is_growing s) mine.marks others.marks older.sealed) in
      let block : blocks_of (rows_of_chunk s (chunk_at s n (mine.marks ++ others.marks)) (mine.rows ++ others.rows)) ≡ blocks_of (rows_of_chunk s c mine.rows) =
      ap (λ k. blocks_of (rows_of_chunk s k (mine.rows ++ others.rows))) chunk
      ∙ ap blocks_of (filter_beside (is_of_chunk s c) mine.rows others.rows (no_rows rules s now c others older)) in
      let update : Mark → Mark = λ m. cond (is_growing s m) (record m { last_update = now }) m in
      let new : Mark = record { stream = s; chunk = n; last_update = now; reason = None } in
      let marks : marks_at s n now (mine.marks ++ others.marks) ≡ marks_at s n now mine.marks ++ others.marks =
      (λ i. cond (any_beside (is_growing s) mine.marks others.marks older.sealed i)
      (map_beside (is_growing s) (λ m. record m { last_update = now }) mine.marks others.marks older.sealed i) (new ∷ (mine.marks ++ others.marks)))
      ∙ marks_cond (list_any (is_growing s) mine.marks) (map update mine.marks) (new ∷ mine.marks) others.marks in
      let added : added_as n (beside mine others) s e now ≡ beside (added_as n mine s e now) others =
      λ i. record {
        rows = record { stream = s; number = n; entry = e; chunk = chunk i; block = block i; place = Head } ∷ (mine.rows ++ others.rows);
        marks = marks i;
      } in
      (λ i. filled rules s (chunk i) (cut rules s (chunk i) (added i)))
      ∙ ap (filled rules s c) (cut_beside rules s now c others older (added_as n mine s e now))
      ∙ filled_beside rules s now c others older (cut rules s c (added_as n mine s e now)) where
        marks_cond : (b : Bool) (xs ys zs : List Mark) → cond b (xs ++ zs) (ys ++ zs) ≡ cond b xs ys ++ zs
        marks_cond true xs ys zs = refl
        marks_cond false xs ys zs = refl

  in_turn_beside : (n : ℕ) (es : List Entry) (mine others : State) → chunk_at s n mine.marks ≤ n → GrowsAt s (chunk_at s n mine.marks) mine.marks
      → IsOlder s (chunk_at s n mine.marks) others
      → accepted_in_turn n rules s now es (beside mine others) ≡ beside (accepted_in_turn n rules s now es mine) others
  in_turn_beside n [] mine others le grows older = refl
  in_turn_beside n (e ∷ es) mine others le grows older =
      let next = next_marks n e mine le grows in
      ap (accepted_in_turn (n + 1) rules s now es) (added_beside n e mine others older)
      ∙ in_turn_beside (n + 1) es (accepted_as n rules s e now mine) others next.1 next.2 (older_later s _ _ others next.0 older)

pub accepted_beside : (rules : Rules) (s : StreamKey) (now n : ℕ) (es : List Entry) (mine others : State)
    → length (filter (is_growing s) mine.marks) ≤ 1 → chunk_at s n mine.marks ≤ n → IsOlder s (chunk_at s n mine.marks) others
    → accepted_in_turn n rules s now es (beside mine others) ≡ beside (accepted_in_turn n rules s now es mine) others
accepted_beside rules s now n es mine others one le older = in_turn_beside rules s now n es mine others le (one_at s n mine.marks one) older
