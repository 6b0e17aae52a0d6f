-- Entries that are offered one after another.
use Rattle.std.proofs.Common.{◌≡◌, Bool, true, false, not, cond, ◌&&◌, filter, ℕ, ◌+◌, ◌<◌, ◌≤◌, List, [], ◌∷◌, ◌++◌, map, length, drop, take, get_or, suc, add-one, drop-cons, append_assoc, append-nil, refl, ap, sym, ◌∙◌, subst, arith}
use Rattle.std.specs.Prelude.{All, IsPermutation}
use Rattle.std.proofs.lemmas.List.{map-append, take-append-drop, take_more}
use Rattle.std.proofs.lemmas.List.Elements.{All-nil, All-cons, All-head, All-push, All-tail, filter-append}
use Rattle.std.proofs.lemmas.List.Sorted.{IsPermutation-append_comm, IsPermutation-append_right}
use Rattle.ing_chunk.specs.declared.numbered.Numbered.{Numbered}
use Rattle.ing_parts.specs.declared.found.Found.{Found}
use Rattle.ing_chunk.specs.Chunks.{AreInOrder, StampsRise, in_blocks, is_between}
use Rattle.ing_rows.specs.declared.order.Order.{Order}
use Rattle.ing_rows.specs.declared.order.Order.TheVariants.{Forward, Backward}
use Rattle.ing_parts.specs.Answers.{AreSomeOf, BestState, IsAnswer, IsFrom, Offers, PassesOver, StandFor}
use Rattle.ing_parts.specs.Parts.{AreFrom, found_between, found_of, is_behind, is_within, within}
use Rattle.ing_parts.specs.Questions.{Question}
use Rattle.ing_parts.proofs.RangeLaws.{missed}
use Rattle.ing_parts.proofs.SomeLaws.{some_alike, some_beside, some_first, some_through}
use Rattle.ing_parts.proofs.StandLaws.{stand_alike, stand_answered, stand_beside, stand_still, stand_through}

pub offers_none : (b : BestState) → Offers [] b b
offers_none b = record { order = refl; limit = refl; drawn = some_first b.held []; stand = subst (StandFor b.order b.limit b.held) (sym (append-nil b.held)) (stand_still b.order b.limit b.held) }

pub offers_both : (x y : List Found) (old mid new : BestState) → Offers x old mid → Offers y mid new → Offers (x ++ y) old new
offers_both x y old mid new h k = record {
  order = k.order ∙ h.order;
  limit = k.limit ∙ h.limit;
  drawn = subst (AreSomeOf new.held) (append_assoc old.held x y) (some_through new.held (mid.held ++ y) ((old.held ++ x) ++ y) k.drawn (some_beside mid.held (old.held ++ x) y h.drawn));
  stand =
      let later : StandFor old.order old.limit new.held (mid.held ++ y) = subst (λ o. StandFor o old.limit new.held (mid.held ++ y)) h.order (subst (λ n. StandFor mid.order n new.held (mid.held ++ y)) h.limit k.stand) in
      let sooner : StandFor old.order old.limit (mid.held ++ y) ((old.held ++ x) ++ y) = stand_beside old.order old.limit mid.held (old.held ++ x) y h.stand in
      subst (StandFor old.order old.limit new.held) (append_assoc old.held x y) (stand_through old.order old.limit new.held (mid.held ++ y) ((old.held ++ x) ++ y) later sooner);
}

pub offers_alike : (x y : List Found) (old new : BestState) → IsPermutation x y → Offers x old new → Offers y old new
offers_alike x y old new same h = record {
  order = h.order;
  limit = h.limit;
  drawn = some_through new.held (old.held ++ x) (old.held ++ y) h.drawn (some_alike (old.held ++ x) (old.held ++ y) (IsPermutation-append_right old.held x y same));
  stand = stand_through old.order old.limit new.held (old.held ++ x) (old.held ++ y) h.stand (stand_alike old.order old.limit (old.held ++ x) (old.held ++ y) (IsPermutation-append_right old.held x y same));
}

pub offers_passed : (from : ℕ) (b : BestState) (all : List Found) → PassesOver from b → All (λ f. IsFrom b.order from f.entry.stamp) all → Offers all b b
offers_passed from b [] pass h = offers_none b
offers_passed from b (f ∷ all) pass h =
    offers_both (f ∷ []) all b b b (pass f (All-head (λ f. IsFrom b.order from f.entry.stamp) f all h)) (offers_passed from b all pass (All-tail (λ f. IsFrom b.order from f.entry.stamp) f all h))

pub offers_answered : (all answer : List Found) (old new : BestState) → Offers all old new → IsAnswer old.order old.limit new.held answer → IsAnswer old.order old.limit (old.held ++ all) answer
offers_answered all answer old new h a = stand_answered old.order old.limit new.held (old.held ++ all) answer h.stand a

-- ---- entries of one stream, in a range

pub between_parts : (name : List ℕ) (q : Question) (xs ys : List Numbered) → found_between name q (xs ++ ys) ≡ found_between name q xs ++ found_between name q ys
between_parts name q xs ys = ap (within q) (map-append (found_of name) xs ys) ∙ filter-append (is_within q) (map (found_of name) xs) (map (found_of name) ys)

-- to look for those of the range among those of the range changes nothing
pub between_again : (name : List ℕ) (q : Question) (es : List Numbered) → found_between name q (filter (is_between q.start q.end) es) ≡ found_between name q es
between_again name q [] = refl
between_again name q (e ∷ es) = step (is_between q.start q.end e) refl (between_again name q es) where
  rest : List Found
  rest = found_between name q es

  behind : Bool
  behind = is_behind q.order q.after (found_of name e)

  inner : List Found
  inner = found_between name q (filter (is_between q.start q.end) es)

  step : (t : Bool) → is_between q.start q.end e ≡ t → inner ≡ rest
      → found_between name q (cond t (e ∷ filter (is_between q.start q.end) es) (filter (is_between q.start q.end) es)) ≡ cond (t && behind) (found_of name e ∷ rest) rest
  step true is same = ap (λ b. cond (b && behind) (found_of name e ∷ inner) inner) is ∙ ap (λ l. cond behind (found_of name e ∷ l) l) same
  step false is same = same

-- what is left from an index on
pub left_from : {X : Type 0} (xs : List X) (i : ℕ) (x : X) → i < length xs → x ≡ get_or xs i x → drop i xs ≡ x ∷ drop (i + 1) xs
left_from xs i x within is = rw (add-one) (drop-cons xs i x within ∙ ap (λ y. y ∷ drop (suc i) xs) (sym is))

-- up to an index and one more
pub up_to : {X : Type 0} (xs : List X) (i : ℕ) (x : X) → i < length xs → x ≡ get_or xs i x → take (i + 1) xs ≡ take i xs ++ x ∷ []
up_to xs i x within is = take_more xs i x within ∙ ap (λ y. take i xs ++ y ∷ []) (sym is)

-- the entries of blocks, one block more
pub in_blocks_more : (bs : List (List Numbered)) (b : List Numbered) → in_blocks (bs ++ b ∷ []) ≡ in_blocks bs ++ b
in_blocks_more [] b = append-nil b
in_blocks_more (c ∷ bs) b = ap (λ l. c ++ l) (in_blocks_more bs b) ∙ sym (append_assoc c (in_blocks bs) b)

-- these behind those that were offered before them
pub offers_next : (name : List ℕ) (q : Question) (xs more all : List Numbered) (old mid new : BestState) → all ≡ xs ++ more → Offers (found_between name q xs) old mid → Offers (found_between name q more) mid new → Offers (found_between name q all) old new
offers_next name q xs more all old mid new is h k =
    subst (λ l. Offers l old new) (sym (between_parts name q xs more) ∙ sym (ap (found_between name q) is)) (offers_both (found_between name q xs) (found_between name q more) old mid new h k)

-- and these before them
pub offers_previous : (name : List ℕ) (q : Question) (xs more all : List Numbered) (old mid new : BestState) → all ≡ more ++ xs → Offers (found_between name q xs) old mid → Offers (found_between name q more) mid new → Offers (found_between name q all) old new
offers_previous name q xs more all old mid new is h k =
    let x = found_between name q xs in
    let y = found_between name q more in
    subst (λ l. Offers l old new) (sym (between_parts name q more xs) ∙ sym (ap (found_between name q) is)) (offers_alike (x ++ y) (y ++ x) old new (IsPermutation-append_comm x y) (offers_both x y old mid new h k))

-- one that changes nothing, or that is not in the range
pub refused_or_out : (b : BestState) (f : Found) (t : Bool) → Offers (f ∷ []) b b → Offers (cond t (f ∷ []) []) b b
refused_or_out b f true still = still
refused_or_out b f false still = offers_none b

-- one that is not in the range
pub offers_out : (name : List ℕ) (q : Question) (e : Numbered) (b : BestState) → is_within q (found_of name e) ≡ false → Offers (found_between name q (e ∷ [])) b b
offers_out name q e b out = subst (λ t. Offers (cond t (found_of name e ∷ []) []) b b) (sym out) (offers_none b)

-- ---- entries that come from a stamp on

first_from : (order : Order) (from : ℕ) (e : Numbered) (es : List Numbered) → AreFrom order from (e ∷ es) → IsFrom order from e.entry.stamp × AreFrom order from es
first_from Forward from e es h = (omega arith, omega arith)
first_from Backward from e es h = (omega arith, omega arith)

-- the stamps of those in the range
all_from : (order : Order) (from : ℕ) (name : List ℕ) (q : Question) (es : List Numbered) → AreFrom order from es → All (λ f. IsFrom order from f.entry.stamp) (found_between name q es)
all_from order from name q [] h = All-nil (λ f. IsFrom order from f.entry.stamp)
all_from order from name q (e ∷ es) h =
    step (is_within q (found_of name e)) (first_from order from e es h).0 (all_from order from name q es (first_from order from e es h).1) where
      step : (t : Bool) → IsFrom order from e.entry.stamp → All (λ f. IsFrom order from f.entry.stamp) (found_between name q es) → All (λ f. IsFrom order from f.entry.stamp) (cond t (found_of name e ∷ found_between name q es) (found_between name q es))
      step true here rest = All-cons (λ f. IsFrom order from f.entry.stamp) (found_of name e) (found_between name q es) here rest
      step false here rest = rest

-- nothing from there on changes anything
pub offers_from : (name : List ℕ) (q : Question) (from : ℕ) (es : List Numbered) (b : BestState) → PassesOver from b → AreFrom b.order from es → Offers (found_between name q es) b b
offers_from name q from es b pass h = offers_passed from b (found_between name q es) pass (all_from b.order from name q es h)

-- the same of what is found of entries
found_from : (order : Order) (from : ℕ) (name : List ℕ) (q : Question) (es : List Numbered) → All (λ e. IsFrom order from e.entry.stamp) es → All (λ f. IsFrom order from f.entry.stamp) (found_between name q es)
found_from order from name q [] h = All-nil (λ f. IsFrom order from f.entry.stamp)
found_from order from name q (e ∷ es) h =
    step (is_within q (found_of name e)) (All-head (λ (x : Numbered). IsFrom order from x.entry.stamp) e es h) (found_from order from name q es (All-tail (λ (x : Numbered). IsFrom order from x.entry.stamp) e es h)) where
      step : (t : Bool) → IsFrom order from e.entry.stamp → All (λ f. IsFrom order from f.entry.stamp) (found_between name q es) → All (λ f. IsFrom order from f.entry.stamp) (cond t (found_of name e ∷ found_between name q es) (found_between name q es))
      step true here rest = All-cons (λ f. IsFrom order from f.entry.stamp) (found_of name e) (found_between name q es) here rest
      step false here rest = rest

pub found_passed : (name : List ℕ) (q : Question) (from : ℕ) (es : List Numbered) (b : BestState) → PassesOver from b → All (λ e. IsFrom b.order from e.entry.stamp) es → Offers (found_between name q es) b b
found_passed name q from es b pass h = offers_passed from b (found_between name q es) pass (found_from b.order from name q es h)

-- those of a run from one on that is passed over, in the order in which it rises
module _ (rise : StampsRise) (name : List ℕ) (q : Question) (run : List Numbered) (up : AreInOrder run) (i : ℕ) (e : Numbered) (within : i < length run) (is : e ≡ get_or run i e) where
  split : run ≡ take i run ++ e ∷ drop (i + 1) run
  split = sym (take-append-drop i run) ∙ ap (λ l. take i run ++ l) (left_from run i e within is)

  both_sides : All (λ x. x.entry.stamp ≤ e.entry.stamp) (take i run) × All (λ x. e.entry.stamp ≤ x.entry.stamp) (drop (i + 1) run)
  both_sides = rise (take i run) (drop (i + 1) run) e (subst AreInOrder split up)

  pub rest_of_run : (old b : BestState) → b.order ≡ Forward → PassesOver e.entry.stamp b → Offers (found_between name q (take i run)) old b → Offers (found_between name q run) old b
  rest_of_run old b forward pass so_far =
      let rest : All (λ (x : Numbered). IsFrom b.order e.entry.stamp x.entry.stamp) (e ∷ drop (i + 1) run) =
      subst (λ o. All (λ (x : Numbered). IsFrom o e.entry.stamp x.entry.stamp) (e ∷ drop (i + 1) run)) (sym forward)
      (All-cons (λ (x : Numbered). e.entry.stamp ≤ x.entry.stamp) e (drop (i + 1) run) (omega arith) both_sides.1) in
      offers_next name q (take i run) (e ∷ drop (i + 1) run) run old b b split so_far (found_passed name q e.entry.stamp (e ∷ drop (i + 1) run) b pass rest)

  -- and those up to one, where it falls
  pub front_of_run : (old b : BestState) → b.order ≡ Backward → PassesOver e.entry.stamp b → Offers (found_between name q (drop (i + 1) run)) old b → Offers (found_between name q run) old b
  front_of_run old b backward pass so_far =
      let front : All (λ (x : Numbered). IsFrom b.order e.entry.stamp x.entry.stamp) (take i run ++ e ∷ []) =
      subst (λ o. All (λ (x : Numbered). IsFrom o e.entry.stamp x.entry.stamp) (take i run ++ e ∷ [])) (sym backward)
      (All-push (λ (x : Numbered). x.entry.stamp ≤ e.entry.stamp) (take i run) e both_sides.0 (omega arith)) in
      offers_previous name q (drop (i + 1) run) (take i run ++ e ∷ []) run old b b (split ∙ sym (append_assoc (take i run) (e ∷ []) (drop (i + 1) run))) so_far
      (found_passed name q e.entry.stamp (take i run ++ e ∷ []) b pass front)

pub holds : (b : Bool) → not b ≡ false → b ≡ true
holds true h = refl
holds false h = absurd (cc)

-- none of them is in the range
pub offers_missed : (name : List ℕ) (q : Question) (es : List Numbered) (b : BestState) → filter (is_between q.start q.end) es ≡ [] → Offers (found_between name q es) b b
offers_missed name q es b none = subst (λ l. Offers l b b) (sym (missed q name es none)) (offers_none b)

-- one goes ahead of the others that are left
pub offers_step : (x : Found) (rest left all : List Found) (old mid new last : BestState) → left ≡ x ∷ rest → Offers (x ∷ []) mid new → ((last : BestState) → Offers left mid last → Offers all old last) → Offers rest new last → Offers all old last
offers_step x rest left all old mid new last is one before h = before last (subst (λ l. Offers l mid last) (sym is) (offers_both (x ∷ []) rest mid new last one h))

pub empty_is : {X : Type 0} (xs : List X) → length xs ≡ 0 → xs ≡ []
empty_is [] h = refl
empty_is (x ∷ xs) h = absurd (omega (arith, h))
