-- How the slow program seals chunks is how the model does.
use Rattle.std.proofs.Common.{◌≡◌, ℕ, zero, suc, ◌+◌, ◌-◌, ◌<◌, max, min, Bool, true, false, cond, ◌&&◌, List, [], ◌∷◌, length, map, filter, get_or, take, reverse, refl, sym, ap, ◌∙◌, arith, add-one, nat_lt, Some, None}
use Rattle.std.specs.Prelude.{Option}
use Rattle.std.specs.Option.{unwrap_or}
use Rattle.std.proofs.Math.ListN.{set}
use Rattle.std.proofs.Math.Seq.{take-suc}
use Rattle.ing_rows.specs.declared.place.Place.TheVariants.{Block}
use Rattle.ing_rows.specs.declared.place.SealReason.{SealReason}
use Rattle.ing_rows.specs.declared.place.SealReason.TheVariants.{Idle, MaxAge}
use Rattle.ing_plain.specs.declared.plain.cause.Cause.{Cause}
use Rattle.ing_plain.specs.declared.plain.cause.Cause.TheVariants.{Due, Command}
use Rattle.ing_rows.specs.declared.rules.Rules.{Rules}
use Rattle.ing_rows.specs.Rows.{Row, Mark, State, is_head, is_of_chunk, rows_of_chunk, greatest_stamp}
use Rattle.ing_rows.specs.Steps.{moved, least_stamp, due_of, is_sealed_now, seal_mark, sealed_by}
use Rattle.ing_rows.specs.Sound.{IsSound}
use Rattle.ing_rows.specs.Turns.{IsMarked}
use Rattle.ing_rows.specs.Events.{sealed_count}
use Rattle.ing_plain.specs.Plain.{least_with, reason_for, IsPushed}
use Rattle.ing_plain.proofs.Lists.{count_cond, filter_mapped}
use Rattle.ing_plain.proofs.PlainLaws.{moved_kept, mapped_to, mapped_more, at_index, reverse_mapped, reverse_more}

-- ---- the least stamp

-- if there is one
abbrev pub least_of : List Row → Option ℕ
least_of [] = None
least_of (r ∷ rows) = Some (least_with r.entry.stamp (least_of rows))

pub least_told : (rows : List Row) → unwrap_or (least_of rows) 0 ≡ least_stamp rows
least_told [] = refl
least_told (r ∷ []) = refl
least_told (r ∷ q ∷ rows) = ap (min r.entry.stamp) (least_told (q ∷ rows))

-- ---- elements that are changed and counted one after another

module _ {X : Type 0} (f : X → X) (p : X → Bool) (xs ys : List X) (i : ℕ) (x : X)
    (so_far : ys ≡ mapped_to f i xs) (here : i < length ys) (many : length ys ≡ length xs) where
  pub counted_more : (b : Bool) (count next : ℕ) → b ≡ p (get_or ys i x) → count ≡ length (filter p (reverse (take i xs))) → next ≡ cond b (count + 1) count
      → next ≡ length (filter p (reverse (take (i + 1) xs)))
  counted_more b count next is counted more =
      let below : i < length xs = omega arith in
      let old : b ≡ p (get_or xs i x) = is ∙ ap (λ l. p (get_or l i x)) so_far ∙ ap p (at_index f xs i x below) in
      more ∙ split b count ∙ (λ j. cond (old j) 1 0 + counted j) ∙ sym (count_cond (p (get_or xs i x)) (get_or xs i x) (filter p (reverse (take i xs))))
      ∙ sym (ap (λ l. length (filter p l)) (ap (λ n. reverse (take n xs)) (add-one i) ∙ ap reverse (take-suc xs i x below) ∙ reverse_more (take i xs) (get_or xs i x))) where
        split : (b : Bool) (n : ℕ) → cond b (n + 1) n ≡ cond b 1 0 + n
        split true n = omega arith
        split false n = omega arith

-- ---- why a chunk is sealed does not go by the places of its rows

abbrev placed : Row → Row
placed r = record r { place = Block }

greatest_placed : (rows : List Row) → greatest_stamp (map placed rows) ≡ greatest_stamp rows
greatest_placed [] = refl
greatest_placed (r ∷ rows) = ap (max r.entry.stamp) (greatest_placed rows)

least_placed : (rows : List Row) → least_stamp (map placed rows) ≡ least_stamp rows
least_placed [] = refl
least_placed (r ∷ []) = refl
least_placed (r ∷ q ∷ rows) = ap (min r.entry.stamp) (least_placed (q ∷ rows))

due_placed : (rules : Rules) (now : ℕ) (rows : List Row) (m : Mark) → due_of rules now (map placed rows) m ≡ due_of rules now rows m
due_placed rules now rows m =
    let chunk = rows_of_chunk m.stream m.chunk rows in
    let kept : rows_of_chunk m.stream m.chunk (map placed rows) ≡ map placed chunk = filter_mapped (is_of_chunk m.stream m.chunk) placed (λ r. refl) rows in
    let greatest = ap greatest_stamp kept ∙ greatest_placed chunk in
    let least = ap least_stamp kept ∙ least_placed chunk in
    λ i. cond (nat_lt rules.chunk_idle_period (now - m.last_update)) (Some Idle) (cond (nat_lt rules.max_chunk_age (greatest i - least i)) (Some MaxAge) None)

reason_placed : (cause : Cause) (rows : List Row) (m : Mark) → reason_for cause (map placed rows) m ≡ reason_for cause rows m
reason_placed (Due rules now) rows m = due_placed rules now rows m
reason_placed Command rows m = refl

same_reason : (cause : Cause) (xs ys : List Row) → map placed xs ≡ map placed ys → reason_for cause xs ≡ reason_for cause ys
same_reason cause xs ys h = λ i m. (sym (reason_placed cause xs m) ∙ ap (λ l. reason_for cause l m) h ∙ reason_placed cause ys m) i

module _ (test : Row → Bool) where
  abbrev pub put : Row → Row
  put r = cond (test r) (record r { place = Block }) r

  placed_put : (r : Row) → placed (put r) ≡ placed r
  placed_put r = by_cases (test r) where
    by_cases : (b : Bool) → placed (cond b (record r { place = Block }) r) ≡ placed r
    by_cases true = refl
    by_cases false = refl

  moved_placed : (rows : List Row) → map placed (map put rows) ≡ map placed rows
  moved_placed [] = refl
  moved_placed (r ∷ rows) = λ i. placed_put r i ∷ moved_placed rows i

  so_far_placed : (rows : List Row) (i : ℕ) → map placed (mapped_to put i rows) ≡ map placed rows
  so_far_placed [] zero = refl
  so_far_placed [] (suc i) = refl
  so_far_placed (r ∷ rows) zero = refl
  so_far_placed (r ∷ rows) (suc i) = λ j. placed_put r j ∷ so_far_placed rows i j

  back : (xs ys : List Row) → map placed xs ≡ map placed ys → map placed (reverse xs) ≡ map placed (reverse ys)
  back xs ys h = sym (reverse_mapped placed xs) ∙ ap reverse h ∙ reverse_mapped placed ys

  pub reason_moved : (cause : Cause) (rows : List Row) → reason_for cause (reverse (map put rows)) ≡ reason_for cause (reverse rows)
  reason_moved cause rows = same_reason cause (reverse (map put rows)) (reverse rows) (back (map put rows) rows (moved_placed rows))

  pub reason_so_far : (cause : Cause) (rows now : List Row) (i : ℕ) → now ≡ mapped_to put i rows → reason_for cause (reverse now) ≡ reason_for cause (reverse rows)
  reason_so_far cause rows now i h = same_reason cause (reverse now) (reverse rows) (back now rows (ap (map placed) h ∙ so_far_placed rows i))

-- one more row is closed where its chunk is sealed, by what is so far
abbrev pub test : Cause → List Mark → List Row → Row → Bool
test cause marks rows r = is_head r.place && is_sealed_now (reason_for cause (reverse rows)) (reverse marks) r

module _ (cause : Cause) (marks : List Mark) (rows now new : List Row) (i : ℕ) (x : Row) (b : Bool) where
  pub closed_more : now ≡ mapped_to (put (test cause marks rows)) i rows → i < length now → length now ≡ length rows → x ≡ get_or now i x
      → b ≡ test cause marks now x → new ≡ set now i (cond b (record x { place = Block }) x) → new ≡ mapped_to (put (test cause marks rows)) (i + 1) rows
  closed_more so_far here many is told changed =
      let same : b ≡ test cause marks rows x = told ∙ (λ j. is_head x.place && is_sealed_now (reason_so_far (test cause marks rows) cause rows now i so_far j) (reverse marks) x) in
      changed ∙ ap (λ c. set now i (cond c (record x { place = Block }) x)) same ∙ mapped_more (put (test cause marks rows)) rows now i x so_far here many is

-- ---- a state that is sealed

pub sealed_pushed : (why : Mark → Option SealReason) (st : State) → IsPushed st → IsSound (sealed_by why st) → IsMarked (sealed_by why st) → IsPushed (sealed_by why st)
sealed_pushed why st h sound marked =
    let kept = moved_kept (λ r. is_head r.place && is_sealed_now why st.marks r) st (map (seal_mark why) st.marks) (record { counted = h.counted; unstored = h.unstored; blocks = h.blocks }) in
    record { counted = kept.counted; sound = sound; marked = marked; unstored = kept.unstored; blocks = kept.blocks }

module _ (cause : Cause) (rows first : List Row) (marks beside : List Mark) (new later : List Row) (last : List Mark)
    (first_is : first ≡ rows) (beside_is : beside ≡ marks) (later_is : later ≡ new) (last_is : last ≡ marks)
    (moves : new ≡ moved (test cause beside first) Block first) where
  moves_all : new ≡ map (put (test cause marks rows)) rows
  moves_all = moves ∙ (λ i. map (put (test cause (beside_is i) (first_is i))) (first_is i))

  same_why : reason_for cause (reverse later) ≡ reason_for cause (reverse rows)
  same_why = ap (λ l. reason_for cause (reverse l)) (later_is ∙ moves_all) ∙ reason_moved (test cause marks rows) cause rows

  pub table_sealed : (sealed : List Mark) → sealed ≡ map (seal_mark (reason_for cause (reverse later))) last
      → let after : State = record { rows = reverse new; marks = reverse sealed } in let before : State = record { rows = reverse rows; marks = reverse marks } in
      after ≡ sealed_by (reason_for cause (reverse rows)) before
  table_sealed sealed h =
      let seal = seal_mark (reason_for cause (reverse rows)) in
      let marks_are : sealed ≡ map seal marks = h ∙ (λ i. map (seal_mark (same_why i)) (last_is i)) in
      λ i. record {
        rows = (ap reverse moves_all ∙ reverse_mapped (put (test cause marks rows)) rows) i;
        marks = (ap reverse marks_are ∙ reverse_mapped seal marks) i;
      }

  pub table_counted : (count : ℕ) → count ≡ sealed_count (reason_for cause (reverse later)) (reverse last) → count ≡ sealed_count (reason_for cause (reverse rows)) (reverse marks)
  table_counted count h = h ∙ (λ i. sealed_count (same_why i) (reverse (last_is i)))
