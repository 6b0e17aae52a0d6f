-- Sealing goes chunk by chunk, keeps a state sound and its facts as they are, and does not see the order of rows and marks.
use Rattle.std.proofs.Common.{◌≡◌, ℕ, ◌+◌, ◌-◌, ◌≤◌, min, Bool, true, false, cond, ◌&&◌, List, [], ◌∷◌, ◌++◌, length, map, filter, get_or, refl, sym, ap, subst, ◌∙◌, arith, nat_eq, nat_lt, is_none, is_some, Some, None, length-append}
use Rattle.std.specs.Prelude.{All, Option, IsPermutation}
use Rattle.std.proofs.lemmas.Bool.Decides.{nat_tests}
use Rattle.std.proofs.lemmas.List.{map-append}
use Rattle.std.proofs.lemmas.List.Elements.{All-head, All-tail, All-weaker}
use Rattle.std.proofs.lemmas.List.Sorted.{IsPermutation-map}
use Rattle.ing_rows.specs.declared.place.Place.TheVariants.{Block}
use Rattle.ing_rows.specs.declared.place.SealReason.{SealReason}
use Rattle.ing_rows.specs.declared.place.SealReason.TheVariants.{Idle, MaxAge}
use Rattle.ing_rows.specs.declared.rules.Rules.{Rules}
use Rattle.ing_rows.specs.Rows.{StreamKey, Row, Mark, State, IsSame, same_stream, is_head, is_of_chunk, rows_of_chunk, greatest_stamp}
use Rattle.ing_rows.specs.Facts.{facts_of}
use Rattle.ing_rows.specs.Steps.{moved, is_growing, is_mark_of, least_stamp, due_of, seal_of, is_sealed_now, given, seal_mark, sealed_by, due_by, swept}
use Rattle.ing_rows.specs.Events.{due_count, sealed_count}
use Rattle.ing_rows.specs.Turns.{beside, NoneMarked, OneMarkEach}
use Rattle.ing_rows.specs.Sound.{IsSound}
use Rattle.ing_rows.proofs.Keys.{stream_swap}
use Rattle.ing_rows.proofs.Reordered.{along, filter_reordered}
use Rattle.ing_rows.proofs.SoundLaws.{count_reordered, fewer_mapped, moved_once}
use Rattle.ing_rows.proofs.SameLaws.{greatest_reordered, short_same}
use Rattle.ing_rows.proofs.FactLaws.{facts_closed}
use Rattle.ing_rows.proofs.ApartLaws.{Fails, filter_none, filter_joined, filter_beside}
use Rattle.ing_rows.proofs.PartLaws.{same_all}

-- ---- chunk by chunk

module _ {X : Type 0} where
  map_alike : (f g : X → X) (xs : List X) → All (λ x. f x ≡ g x) xs → map f xs ≡ map g xs
  map_alike f g [] h = refl
  map_alike f g (x ∷ xs) h = λ i. All-head (λ y. f y ≡ g y) x xs h i ∷ map_alike f g xs (All-tail (λ y. f y ≡ g y) x xs h) i

module _ (why : Mark → Option SealReason) where
  abbrev Sealed : List Mark → Row → Bool
  Sealed marks r = is_head r.place && is_sealed_now why marks r

  abbrev put : Bool → Row → Row
  put b r = cond b (record r { place = Block }) r

  none_sealed : (ks : List Mark) (r : Row) → All (λ k. is_of_chunk k.stream k.chunk r ≡ false) ks → is_sealed_now why ks r ≡ false
  none_sealed [] r h = refl
  none_sealed (k ∷ ks) r h =
      ap (λ b. cond b (is_some (seal_of why k)) (is_sealed_now why ks r)) (All-head (λ (m : Mark). is_of_chunk m.stream m.chunk r ≡ false) k ks h)
      ∙ none_sealed ks r (All-tail (λ (m : Mark). is_of_chunk m.stream m.chunk r ≡ false) k ks h)

  sealed_front : (ms ks : List Mark) (r : Row) → All (λ k. is_of_chunk k.stream k.chunk r ≡ false) ks → is_sealed_now why (ms ++ ks) r ≡ is_sealed_now why ms r
  sealed_front [] ks r h = none_sealed ks r h
  sealed_front (m ∷ ms) ks r h = ap (λ b. cond (is_of_chunk m.stream m.chunk r) (is_some (seal_of why m)) b) (sealed_front ms ks r h)

  sealed_back : (ms ks : List Mark) (r : Row) → All (λ m. is_of_chunk m.stream m.chunk r ≡ false) ms → is_sealed_now why (ms ++ ks) r ≡ is_sealed_now why ks r
  sealed_back [] ks r h = refl
  sealed_back (m ∷ ms) ks r h =
      ap (λ b. cond b (is_some (seal_of why m)) (is_sealed_now why (ms ++ ks) r)) (All-head (λ (k : Mark). is_of_chunk k.stream k.chunk r ≡ false) m ms h)
      ∙ sealed_back ms ks r (All-tail (λ (k : Mark). is_of_chunk k.stream k.chunk r ≡ false) m ms h)

  pub sealed_beside : (a b : State) → NoneMarked a.marks b.rows → NoneMarked b.marks a.rows → sealed_by why (beside a b) ≡ beside (sealed_by why a) (sealed_by why b)
  sealed_beside a b away back =
      let all = a.marks ++ b.marks in
      let move : List Mark → Row → Row = λ ms r. put (Sealed ms r) r in
      let front : map (move all) a.rows ≡ map (move a.marks) a.rows =
      map_alike (move all) (move a.marks) a.rows (λ j e low. let r = get_or a.rows j e in ap (λ x. put (is_head r.place && x) r) (sealed_front a.marks b.marks r (λ k d below. back k d below j e low))) in
      let rear : map (move all) b.rows ≡ map (move b.marks) b.rows =
      map_alike (move all) (move b.marks) b.rows (λ j e low. let r = get_or b.rows j e in ap (λ x. put (is_head r.place && x) r) (sealed_back a.marks b.marks r (λ k d below. away k d below j e low))) in
      λ i. record {
        rows = (map-append (move all) a.rows b.rows ∙ (λ j. front j ++ rear j)) i;
        marks = map-append (seal_mark why) a.marks b.marks i;
      }

-- reasons that are the same for the marks
module _ (why other : Mark → Option SealReason) where
  seal_alike : (m : Mark) → why m ≡ other m → seal_of why m ≡ seal_of other m
  seal_alike m h = ap (λ o. cond (is_none m.reason) o None) h

  sealed_alike : (ms : List Mark) (r : Row) → All (λ m. why m ≡ other m) ms → is_sealed_now why ms r ≡ is_sealed_now other ms r
  sealed_alike [] r h = refl
  sealed_alike (m ∷ ms) r h =
      λ i. cond (is_of_chunk m.stream m.chunk r) (is_some (seal_alike m (All-head (λ k. why k ≡ other k) m ms h) i))
      (sealed_alike ms r (All-tail (λ k. why k ≡ other k) m ms h) i)

  pub by_alike : (st : State) → All (λ m. why m ≡ other m) st.marks → sealed_by why st ≡ sealed_by other st
  by_alike st h =
      λ i. record {
        rows = map (λ r. cond (is_head r.place && sealed_alike st.marks r h i) (record r { place = Block }) r) st.rows;
        marks = map_alike (seal_mark why) (seal_mark other) st.marks (λ k d below. let m = get_or st.marks k d in ap (λ o. given o m) (seal_alike m (h k d below))) i;
      }

  pub count_alike : (marks : List Mark) → All (λ m. why m ≡ other m) marks → sealed_count why marks ≡ sealed_count other marks
  count_alike marks h = same_all (λ m. is_some (seal_of why m)) (λ m. is_some (seal_of other m)) marks (λ k d below. ap is_some (seal_alike (get_or marks k d) (h k d below)))

-- why a chunk is due goes by its own rows
module _ (rules : Rules) (now : ℕ) (m : Mark) where
  abbrev reason : List Row → Option SealReason
  reason chunk = cond (nat_lt rules.chunk_idle_period (now - m.last_update)) (Some Idle) (cond (nat_lt rules.max_chunk_age (greatest_stamp chunk - least_stamp chunk)) (Some MaxAge) None)

  pub due_front : (rows more : List Row) → All (λ r. is_of_chunk m.stream m.chunk r ≡ false) more → due_of rules now (rows ++ more) m ≡ due_of rules now rows m
  due_front rows more h = ap reason (filter_beside (is_of_chunk m.stream m.chunk) rows more h)

  pub due_back : (rows more : List Row) → All (λ r. is_of_chunk m.stream m.chunk r ≡ false) rows → due_of rules now (rows ++ more) m ≡ due_of rules now more m
  due_back rows more h =
      ap reason (filter_joined (is_of_chunk m.stream m.chunk) rows more ∙ ap (λ l. l ++ rows_of_chunk m.stream m.chunk more) (filter_none (is_of_chunk m.stream m.chunk) rows h))

pub count_joined : (is_due : Mark → Bool) (ms ks : List Mark) → due_count is_due (ms ++ ks) ≡ due_count is_due ms + due_count is_due ks
count_joined is_due ms ks = ap length (filter_joined is_due ms ks) ∙ length-append (filter is_due ms) (filter is_due ks)

module _ (rules : List ℕ → Rules) (now : ℕ) (a b : State) (away : NoneMarked a.marks b.rows) (back : NoneMarked b.marks a.rows) where
  front_alike : All (λ m. due_by rules now (a.rows ++ b.rows) m ≡ due_by rules now a.rows m) a.marks
  front_alike = λ k d below. let m = get_or a.marks k d in due_front (rules m.stream.tenant) now m a.rows b.rows (away k d below)

  back_alike : All (λ m. due_by rules now (a.rows ++ b.rows) m ≡ due_by rules now b.rows m) b.marks
  back_alike = λ k d below. let m = get_or b.marks k d in due_back (rules m.stream.tenant) now m a.rows b.rows (back k d below)

  pub swept_beside : swept rules now (beside a b) ≡ beside (swept rules now a) (swept rules now b)
  swept_beside =
      sealed_beside (due_by rules now (a.rows ++ b.rows)) a b away back
      ∙ (λ i. beside (by_alike (due_by rules now (a.rows ++ b.rows)) (due_by rules now a.rows) a front_alike i) (by_alike (due_by rules now (a.rows ++ b.rows)) (due_by rules now b.rows) b back_alike i))

  pub swept_count_beside : sealed_count (due_by rules now (a.rows ++ b.rows)) (a.marks ++ b.marks) ≡ sealed_count (due_by rules now a.rows) a.marks + sealed_count (due_by rules now b.rows) b.marks
  swept_count_beside =
      count_joined (λ m. is_some (seal_of (due_by rules now (a.rows ++ b.rows)) m)) a.marks b.marks
      ∙ (λ i. count_alike (due_by rules now (a.rows ++ b.rows)) (due_by rules now a.rows) a.marks front_alike i + count_alike (due_by rules now (a.rows ++ b.rows)) (due_by rules now b.rows) b.marks back_alike i)

-- where no mark is given a reason, nothing changes
module _ (why : Mark → Option SealReason) where
  abbrev Stays : Mark → Type 0
  Stays m = seal_of why m ≡ None

  none_now : (ms : List Mark) (r : Row) → All Stays ms → is_sealed_now why ms r ≡ false
  none_now [] r h = refl
  none_now (m ∷ ms) r h =
      ap (λ o. cond (is_of_chunk m.stream m.chunk r) (is_some o) (is_sealed_now why ms r)) (All-head Stays m ms h)
      ∙ either (is_of_chunk m.stream m.chunk r) (is_sealed_now why ms r) (none_now ms r (All-tail Stays m ms h)) where
        either : (b c : Bool) → c ≡ false → cond b false c ≡ false
        either true c k = refl
        either false c k = k

  rows_stay : (ms : List Mark) → All Stays ms → (rows : List Row) → map (λ r. cond (is_head r.place && is_sealed_now why ms r) (record r { place = Block }) r) rows ≡ rows
  rows_stay ms h [] = refl
  rows_stay ms h (r ∷ rows) =
      λ i. (ap (λ b. cond (is_head r.place && b) (record r { place = Block }) r) (none_now ms r h) ∙ never (is_head r.place)) i ∷ rows_stay ms h rows i where
        never : (b : Bool) → cond (b && false) (record r { place = Block }) r ≡ r
        never true = refl
        never false = refl

  marks_stay : (ms : List Mark) → All Stays ms → map (seal_mark why) ms ≡ ms
  marks_stay [] h = refl
  marks_stay (m ∷ ms) h = λ i. given (All-head Stays m ms h i) m ∷ marks_stay ms (All-tail Stays m ms h) i

  pub nothing_sealed : (st : State) → All Stays st.marks → sealed_by why st ≡ st
  nothing_sealed st h = λ i. record { rows = rows_stay st.marks h st.rows i; marks = marks_stay st.marks h i }

  pub nothing_counted : (marks : List Mark) → All Stays marks → sealed_count why marks ≡ 0
  nothing_counted marks h = ap length (filter_none (λ m. is_some (seal_of why m)) marks (All-weaker Stays (Fails (λ m. is_some (seal_of why m))) (λ m k. ap is_some k) marks h))

-- ---- what sealing keeps

module _ (why : Mark → Option SealReason) where
  and_swap : (a b : Bool) → (a && b) ≡ (b && a)
  and_swap true true = refl
  and_swap true false = refl
  and_swap false true = refl
  and_swap false false = refl

  pub facts_sealed : (st : State) (s : StreamKey) → facts_of (sealed_by why st).rows s ≡ facts_of st.rows s
  facts_sealed st s =
      (λ i. facts_of (moved (λ r. and_swap (is_head r.place) (is_sealed_now why st.marks r) i) Block st.rows) s) ∙ facts_closed (is_sealed_now why st.marks) st.rows s

  grew_before : (t : StreamKey) (m : Mark) → is_growing t (seal_mark why m) ≡ true → is_growing t m ≡ true
  grew_before t m = by_cases (seal_of why m) where
    by_cases : (o : Option SealReason) → is_growing t (given o m) ≡ true → is_growing t m ≡ true
    by_cases None h = h
    by_cases (Some reason) h = impossible (same_stream m.stream t) h where
      impossible : (b : Bool) → (b && false) ≡ true → (b && is_none m.reason) ≡ true
      impossible true k = absurd (cc)
      impossible false k = k

  pub sealed_sound : (st : State) → IsSound st → IsSound (sealed_by why st)
  sealed_sound st sound =
      record {
        once = moved_once (λ r. is_head r.place && is_sealed_now why st.marks r) Block st.rows sound.once;
        one_growing = λ t.
            let few : length (filter (is_growing t) st.marks) ≤ 1 = sound.one_growing t in
            let fewer : length (filter (is_growing t) (map (seal_mark why) st.marks)) ≤ length (filter (is_growing t) st.marks) = fewer_mapped (is_growing t) (seal_mark why) (grew_before t) st.marks in
            omega arith;
      }

-- ---- another order

-- the least stamp, and whether there is one
abbrev has_rows : List Row → Bool
has_rows [] = false
has_rows (r ∷ rows) = true

abbrev SameLeast : List Row → List Row → Type 0
SameLeast x y = (least_stamp x ≡ least_stamp y) × (has_rows x ≡ has_rows y)

least_cond : (r : Row) (rows : List Row) → least_stamp (r ∷ rows) ≡ cond (has_rows rows) (min r.entry.stamp (least_stamp rows)) r.entry.stamp
least_cond r [] = refl
least_cond r (q ∷ rows) = refl

least_same : (xs ys : List Row) → IsPermutation xs ys → SameLeast xs ys
least_same = along SameLeast (λ l. (refl, refl)) skip exchange (λ x y z h k. (h.0 ∙ k.0, h.1 ∙ k.1)) where
  skip : (r : Row) (x y : List Row) → SameLeast x y → SameLeast (r ∷ x) (r ∷ y)
  skip r x y h = (least_cond r x ∙ (λ i. cond (h.1 i) (min r.entry.stamp (h.0 i)) r.entry.stamp) ∙ sym (least_cond r y), refl)

  exchanged : (b : Bool) (m n k : ℕ) → min m (cond b (min n k) n) ≡ min n (cond b (min m k) m)
  exchanged true m n k = omega arith
  exchanged false m n k = omega arith

  exchange : (r q : Row) (l : List Row) → SameLeast (r ∷ q ∷ l) (q ∷ r ∷ l)
  exchange r q l = (
    ap (min r.entry.stamp) (least_cond q l) ∙ exchanged (has_rows l) r.entry.stamp q.entry.stamp (least_stamp l) ∙ ap (min q.entry.stamp) (sym (least_cond r l)),
    refl,
  )

pub due_same : (rules : Rules) (now : ℕ) (m : Mark) (xs ys : List Row) → IsPermutation xs ys → due_of rules now xs m ≡ due_of rules now ys m
due_same rules now m xs ys h =
    let chunk = filter_reordered (is_of_chunk m.stream m.chunk) xs ys h in
    let greatest = greatest_reordered (rows_of_chunk m.stream m.chunk xs) (rows_of_chunk m.stream m.chunk ys) chunk in
    let least = (least_same (rows_of_chunk m.stream m.chunk xs) (rows_of_chunk m.stream m.chunk ys) chunk).0 in
    λ i. cond (nat_lt rules.chunk_idle_period (now - m.last_update)) (Some Idle) (cond (nat_lt rules.max_chunk_age (greatest i - least i)) (Some MaxAge) None)

-- the mark of a row's chunk says whether it is sealed
module _ (why : Mark → Option SealReason) (r : Row) where
  abbrev seals_first : List Mark → Bool
  seals_first [] = false
  seals_first (m ∷ ms) = is_some (seal_of why m)

  mark_test : (m : Mark) → is_of_chunk m.stream m.chunk r ≡ is_mark_of r.stream r.chunk m
  mark_test m = λ i. stream_swap r.stream m.stream i && number_swap r.chunk m.chunk i where
    number_swap : (x y : ℕ) → nat_eq x y ≡ nat_eq y x
    number_swap x y = by_cases (nat_eq x y) refl (nat_eq y x) refl where
      by_cases : (p : Bool) → nat_eq x y ≡ p → (q : Bool) → nat_eq y x ≡ q → p ≡ q
      by_cases true h true k = refl
      by_cases false h false k = refl
      by_cases true h false k = absurd (grind (arith, nat_tests))
      by_cases false h true k = absurd (grind (arith, nat_tests))

  first_cond : (b : Bool) (m : Mark) (ms : List Mark) (rest : Bool) → rest ≡ seals_first ms → cond b (is_some (seal_of why m)) rest ≡ seals_first (cond b (m ∷ ms) ms)
  first_cond true m ms rest h = refl
  first_cond false m ms rest h = h

  by_first : (marks : List Mark) → is_sealed_now why marks r ≡ seals_first (filter (is_mark_of r.stream r.chunk) marks)
  by_first [] = refl
  by_first (m ∷ ms) =
      ap (λ b. cond b (is_some (seal_of why m)) (is_sealed_now why ms r)) (mark_test m)
      ∙ first_cond (is_mark_of r.stream r.chunk m) m (filter (is_mark_of r.stream r.chunk) ms) (is_sealed_now why ms r) (by_first ms)

  sealed_same : (xs ys : List Mark) → OneMarkEach xs → IsPermutation xs ys → is_sealed_now why xs r ≡ is_sealed_now why ys r
  sealed_same xs ys one h =
      by_first xs
      ∙ ap seals_first (short_same (filter (is_mark_of r.stream r.chunk) xs) (filter (is_mark_of r.stream r.chunk) ys) (filter_reordered (is_mark_of r.stream r.chunk) xs ys h) (one r.stream r.chunk))
      ∙ sym (by_first ys)

module _ (a b : State) (same : IsSame a b) where
  pub by_same : (why : Mark → Option SealReason) → OneMarkEach a.marks → IsSame (sealed_by why a) (sealed_by why b)
  by_same why one =
      record {
        rows =
            subst (λ l. IsPermutation (sealed_by why a).rows l)
            (λ i. map (λ r. cond (is_head r.place && sealed_same why r a.marks b.marks one same.marks i) (record r { place = Block }) r) b.rows)
            (IsPermutation-map (λ r. cond (is_head r.place && is_sealed_now why a.marks r) (record r { place = Block }) r) a.rows b.rows same.rows);
        marks = IsPermutation-map (seal_mark why) a.marks b.marks same.marks;
      }

  pub count_same : (why : Mark → Option SealReason) → sealed_count why a.marks ≡ sealed_count why b.marks
  count_same why = count_reordered (λ m. is_some (seal_of why m)) a.marks b.marks same.marks

  pub swept_same : (rules : List ℕ → Rules) (now : ℕ) → OneMarkEach a.marks → IsSame (swept rules now a) (swept rules now b)
  swept_same rules now one =
      subst (IsSame (swept rules now a)) (λ i. sealed_by (λ m. due_same (rules m.stream.tenant) now m a.rows b.rows same.rows i) b) (by_same (due_by rules now a.rows) one)

  pub swept_count_same : (rules : List ℕ → Rules) (now : ℕ) → sealed_count (due_by rules now a.rows) a.marks ≡ sealed_count (due_by rules now b.rows) b.marks
  swept_count_same rules now =
      count_same (due_by rules now a.rows) ∙ (λ i. sealed_count (λ m. due_same (rules m.stream.tenant) now m a.rows b.rows same.rows i) b.marks)
