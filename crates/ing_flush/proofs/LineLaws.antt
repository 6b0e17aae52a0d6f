-- Each step of a flush queue keeps its rule.
use Rattle.std.proofs.Common.{◌≡◌, ◌≢◌, ◌<◌, ⊎_elim, ℕ, zero, suc, ◌+◌, true, false, List, [], ◌∷◌, ◌++◌, length, drop, set, refl, sym, ap, subst, ◌∙◌, append_assoc, arith}
use Rattle.std.specs.Prelude.{IfSome, MatchOption, None, Option, Some, sum_by}
use Rattle.std.proofs.lemmas.List.Sums.{sum_by_push, sum_by-cons}
use mathlib.Core.Option.{some, some-ne-none, some-injective}
use lib.ListN.{get_elem?}
use Rattle.crossbeam_queue.specs.Fifo.{Pushes, Pops, Forks, Learns}
use Rattle.crossbeam_queue.proofs.Lists.{at_set, at_snoc}
use Rattle.ing_shard.specs.declared.sealing.Op.{Op}
use Rattle.ing_flush.specs.declared.line.Moved.{Moved}
use Rattle.ing_flush.specs.Lines.{IsBalanced, IsLine, IsStanding, IsTaken, Learned, first, in_company, later, with_put, with_taken}

-- ---- the balance

-- a sum after one pass changed
sum_set : (f : Moved → ℕ) (passes : List Moved) (i : ℕ) (old new : Moved) → get_elem? passes i ≡ some old
    → sum_by f (set passes i new) + f old ≡ sum_by f passes + f new
sum_set f [] i old new at = absurd (some-ne-none old (sym at))
sum_set f (p ∷ ps) zero old new at =
    let same : f p ≡ f old = ap f (some-injective p old at) in
    omega (arith, same, sum_by-cons f new ps, sum_by-cons f p ps)
sum_set f (p ∷ ps) (suc i) old new at =
    omega (arith, sum_set f ps i old new at, sum_by-cons f p ps, sum_by-cons f p (set ps i new))

balance_put : (id : ℕ) (old : Moved) (op : Op) (standing : List Op) (passes : List Moved) → IsBalanced standing passes → get_elem? passes id ≡ some old
    → IsBalanced (standing ++ op ∷ []) (set passes id (with_put op old))
balance_put id old op standing passes balance at weight =
    let new = with_put op old in
    let put = sum_set (λ p. sum_by weight p.put) passes id old new at in
    let taken = sum_set (λ p. sum_by weight p.taken) passes id old new at in
    let was = balance weight in
    let one = sum_by_push weight old.put op in
    let there = sum_by_push weight standing op in
    omega (arith, put, taken, was, one, there)

balance_taken : (id : ℕ) (old : Moved) (op : Op) (standing : List Op) (passes : List Moved) → IsBalanced (op ∷ standing) passes
    → get_elem? passes id ≡ some old → IsBalanced standing (set passes id (with_taken op old))
balance_taken id old op standing passes balance at weight =
    let new = with_taken op old in
    let put = sum_set (λ p. sum_by weight p.put) passes id old new at in
    let taken = sum_set (λ p. sum_by weight p.taken) passes id old new at in
    let was = balance weight in
    let one = sum_by_push weight old.taken op in
    let there = sum_by-cons weight op standing in
    omega (arith, put, taken, was, one, there)

balance_forked : (id : ℕ) (old : Moved) (standing : List Op) (passes : List Moved) → IsBalanced standing passes → get_elem? passes id ≡ some old
    → IsBalanced standing (set passes id (in_company old) ++ later ∷ [])
balance_forked id old standing passes balance at weight =
    let new = in_company old in
    let put = sum_set (λ p. sum_by weight p.put) passes id old new at in
    let taken = sum_set (λ p. sum_by weight p.taken) passes id old new at in
    let was = balance weight in
    let put_there = sum_by_push (λ (p : Moved). sum_by weight p.put) (set passes id new) later in
    let taken_there = sum_by_push (λ (p : Moved). sum_by weight p.taken) (set passes id new) later in
    omega (arith, put, taken, was, put_there, taken_there)

-- ---- a pass that is alone

there_below : {X : Type 0} (xs : List X) (i : ℕ) (x : X) → get_elem? xs i ≡ some x → i < length xs
there_below [] i x at = absurd (some-ne-none x (sym at))
there_below (y ∷ ys) zero x at = omega arith
there_below (y ∷ ys) (suc i) x at = let rest = there_below ys i x at in omega (arith, rest)

length_set : {X : Type 0} (xs : List X) (i : ℕ) (x : X) → length (set xs i x) ≡ length xs
length_set [] i x = refl
length_set (y ∷ ys) zero x = refl
length_set (y ∷ ys) (suc i) x = ap suc (length_set ys i x)

-- no pass beside another is alone
not_beside : (standing : List Op) (passes : List Moved) (id i : ℕ) (old pass : Moved) → IsLine standing passes → get_elem? passes id ≡ some old
    → i ≢ id → get_elem? passes i ≡ some pass → pass.alone ≡ true → ⊥
not_beside standing passes id i old pass line at other there alone =
    let one : length passes ≡ 1 = (line.alone i pass there alone).0 in
    let here = there_below passes id old at in
    let beside = there_below passes i pass there in
    let same : i ≡ id = omega (arith, one, here, beside) in
    other same

-- after one pass changed, it is still the only one that may be alone
alone_set : (was now : List Op) (passes : List Moved) (id : ℕ) (old new : Moved) → IsLine was passes → get_elem? passes id ≡ some old
    → (new.alone ≡ true → old.alone ≡ true) → (IsStanding was old → IsStanding now new)
    → (i : ℕ) (pass : Moved) → get_elem? (set passes id new) i ≡ some pass → pass.alone ≡ true → (length (set passes id new) ≡ 1) × IsStanding now pass
alone_set was now passes id old new line at stays stands i pass there alone =
    ⊎_elim
    (λ here.
    let only = line.alone id old at (stays (subst (λ (p : Moved). p.alone ≡ true) (sym here.1) alone)) in
    (length_set passes id new ∙ only.0, subst (λ (p : Moved). IsStanding now p) here.1 (stands only.1)))
    (λ else. absurd (not_beside was passes id i old pass line at else.0 else.1 alone))
    (at_set passes id i new pass there)

-- ---- the steps

pub puts : (room id : ℕ) (old : Moved) (op : Op) → Pushes IsLine room id old op (λ new. new ≡ with_put op old)
puts room id old op standing passes fits line at =
    let new = with_put op old in (
      new,
      record {
        balanced = balance_put id old op standing passes line.balanced at;
        alone = alone_set standing (standing ++ op ∷ []) passes id old new line at (λ is. is)
            (λ is. ap (λ (ops : List Op). ops ++ op ∷ []) is ∙ append_assoc old.taken standing (op ∷ []));
      },
      refl,
    )

pub takes : (id : ℕ) (old : Moved) → Pops IsLine id old (IsTaken old)
takes id old op standing passes line at =
    let new = with_taken op old in (
      new,
      record {
        balanced = balance_taken id old op standing passes line.balanced at;
        alone = alone_set (op ∷ standing) standing passes id old new line at (λ is. is) (λ is. is ∙ sym (append_assoc old.taken (op ∷ []) standing));
      },
      (refl, λ alone. (standing, (line.alone id old at alone).1)),
    )

pub forks : (id : ℕ) (old : Moved) → Forks IsLine id old (in_company old) later
forks id old standing passes line at = record {
  balanced = balance_forked id old standing passes line.balanced at;
  alone = λ i pass there alone.
      ⊎_elim
      (λ before.
      let only = alone_set standing standing passes id old (in_company old) line at (λ is. absurd cc) (λ is. is) i pass before alone in
      absurd
      (⊎_elim
      (λ here. let no : false ≡ true = ap (λ (p : Moved). p.alone) here.1 ∙ alone in cc)
      (λ else. not_beside standing passes id i old pass line at else.0 else.1 alone)
      (at_set passes id i (in_company old) pass before)))
      (λ last. let no : false ≡ true = ap (λ (p : Moved). p.alone) last ∙ alone in absurd cc)
      (at_snoc (set passes id (in_company old)) later pass i there);
}

begin_alone : (i : ℕ) (pass : Moved) → get_elem? (first ∷ []) i ≡ some pass → pass.alone ≡ true → (length (first ∷ []) ≡ 1) × IsStanding [] pass
begin_alone zero pass there alone = (refl, subst (λ (p : Moved). IsStanding [] p) (some-injective first pass there) refl)
begin_alone (suc i) pass there alone = absurd (some-ne-none pass (sym there))

pub begins : IsLine [] (first ∷ [])
begins = record { balanced = λ weight. refl; alone = begin_alone }

pub learns : (id : ℕ) (old : Moved) → Learns IsLine id old (Learned old)
learns id old standing passes line at alone = (line.alone id old at alone).1

-- ---- what stands in the queue

drop_front : {X : Type 0} (front back : List X) → drop (length front) (front ++ back) ≡ back
drop_front [] back = refl
drop_front (x ∷ front) back = drop_front front back

pub stands : (standing : List Op) (pass : Moved) → IsStanding standing pass → drop (length pass.taken) pass.put ≡ standing
stands standing pass is = ap (drop (length pass.taken)) is ∙ drop_front pass.taken standing

next_stands : (old new : Moved) (op : Op) → IsTaken old op new → old.alone ≡ true
    → drop (length old.taken) old.put ≡ op ∷ drop (length new.taken) new.put
next_stands old new op is alone =
    let front = is.1 alone in
    let then : IsStanding front.0 (with_taken op old) = front.1 ∙ sym (append_assoc old.taken (op ∷ []) front.0) in
    let now : drop (length new.taken) new.put ≡ front.0 =
    ap (λ (p : Moved). drop (length p.taken) p.put) is.0 ∙ stands front.0 (with_taken op old) then in
    stands (op ∷ front.0) old front.1 ∙ ap (λ (ops : List Op). op ∷ ops) (sym now)

pub taken_stands : (E : Type 0) (old new : Moved) (taken : Option Op) → MatchOption taken E (λ op. IsTaken old op new)
    → IfSome taken (λ op. old.alone ≡ true → drop (length old.taken) old.put ≡ op ∷ drop (length new.taken) new.put)
taken_stands E old new None is = tt
taken_stands E old new (Some op) is = next_stands old new op is
