-- Flushes one after another.
use Rattle.std.proofs.Common.{◌≡◌, ◌≢◌, ◌⊎◌, ◌<◌, ◌≤◌, ◌+◌, ◌-◌, ◌^◌, ℕ, zero, suc, List, [], ◌∷◌, ◌++◌, length, inl, inr, refl, sym, ap, subst, ◌∙◌, append_assoc, arith}
use Rattle.std.specs.Prelude.{None, Option, Some, slice_get}
use Rattle.std.proofs.lemmas.List.{append-nil, length-append}
use Rattle.std.proofs.lemmas.List.Sums.{sum_by-cons}
use mathlib.Core.Logic.{dite}
use native.Mathlib.Decide.{ℕ_discrete}
use Rattle.ing_shard.specs.declared.sealing.Op.{Op}
use Rattle.ing_tally.specs.Books.{ShareState, amount_of}
use Rattle.ing_flush.specs.declared.flush.Flushed.{Flushed}
use Rattle.ing_flush.specs.declared.flush.Flushed.TheVariants.{Stored, Nothing, GaveBack, Strange}
use Rattle.ing_refusals.specs.Failures.{HasFailed}
use Rattle.ing_store.specs.declared.fault.StoreFault.TheVariants.{NoMemory, Failed, Damaged}
use Rattle.ing_flush.specs.Flushes.{IsCounted, IsFlushed}
use Rattle.ing_flush.specs.Queues.{PassState}
use Rattle.ing_flush.specs.Rounds.{HasTaken, HaveRisen, IsTold, failed_in, other_in, stored_in}
use Rattle.ing_flush.specs.Tallies.{amount_at}

-- ---- shares

abbrev amount_in : Option ShareState → ℕ
amount_in None = 0
amount_in (Some s) = s.amount

amount_got : (ss : List ShareState) (i : ℕ) → amount_at i ss ≡ amount_in (slice_get ss i)
amount_got [] i = refl
amount_got (s ∷ ss) zero = refl
amount_got (s ∷ ss) (suc i) = amount_got ss i

same_amount : (old new : List ShareState) (i : ℕ) → slice_get new i ≡ slice_get old i → amount_at i new ≡ amount_at i old
same_amount old new i is = amount_got new i ∙ ap amount_in is ∙ sym (amount_got old i)

-- lists that have the same at each place
same_total : (old new : List ShareState) → ((i : ℕ) → slice_get new i ≡ slice_get old i) → amount_of new ≡ amount_of old
same_total [] [] is = refl
same_total [] (m ∷ ms) is = let no : Some m ≡ None = is 0 in absurd cc
same_total (o ∷ os) [] is = let no : None ≡ Some o = is 0 in absurd cc
same_total (o ∷ os) (m ∷ ms) is =
    let here : Some m ≡ Some o = is 0 in
    let same : m ≡ o = cc in
    omega (arith, ap (λ (s : ShareState). s.amount) same, same_total os ms (λ i. is (suc i)), sum_by-cons (λ (s : ShareState). s.amount) m ms, sum_by-cons (λ (s : ShareState). s.amount) o os)

-- one that rose
total_risen : (n shard : ℕ) (old new : List ShareState) → length new ≡ length old → shard < length old
    → amount_at shard new ≡ amount_at shard old + n → ((i : ℕ) → i ≢ shard → slice_get new i ≡ slice_get old i) → amount_of new ≡ amount_of old + n
total_risen n shard [] new long below rose others = absurd (omega (arith, below))
total_risen n shard (o ∷ os) [] long below rose others = absurd (omega (arith, long))
total_risen n zero (o ∷ os) (m ∷ ms) long below rose others =
    let rest = same_total os ms (λ i. others (suc i) (λ is. omega arith)) in
    omega (arith, rose, rest, sum_by-cons (λ (s : ShareState). s.amount) m ms, sum_by-cons (λ (s : ShareState). s.amount) o os)
total_risen n (suc shard) (o ∷ os) (m ∷ ms) long below rose others =
    let here : Some m ≡ Some o = others 0 (λ is. omega arith) in
    let same : m ≡ o = cc in
    let rest = total_risen n shard os ms (omega (arith, long)) (omega (arith, below)) rose (λ i other. others (suc i) (λ is. other (omega arith))) in
    omega (arith, ap (λ (s : ShareState). s.amount) same, rest, sum_by-cons (λ (s : ShareState). s.amount) m ms, sum_by-cons (λ (s : ShareState). s.amount) o os)

each_risen : (n shard i : ℕ) (old new : List ShareState) → amount_at shard new ≡ amount_at shard old + n
    → ((i : ℕ) → i ≢ shard → slice_get new i ≡ slice_get old i) → amount_at i old ≤ amount_at i new
each_risen n shard i old new rose others =
    dite (ℕ_discrete i shard)
    (λ is. subst (λ j. amount_at j old ≤ amount_at j new) (sym is) (omega (arith, rose)))
    (λ other. let same = same_amount old new i (others i other) in omega (arith, same))

same_risen : (old new : List ShareState) → new ≡ old → HaveRisen 0 old new
same_risen old new is = record {
  each = λ i. let same = ap (amount_at i) is in omega (arith, same);
  all = let same = ap amount_of is in omega (arith, same);
  none = λ _. is;
}

pub one_risen : (flushed : Flushed) (shard : ℕ) (old new : List ShareState) → length new ≡ length old → shard < length old
    → IsFlushed flushed shard old new → HaveRisen (stored_in flushed) old new
one_risen (Stored n) shard old new long below is = record {
  each = λ i. each_risen n shard i old new is.rose is.others;
  all = let total = total_risen n shard old new long below is.rose is.others in omega (arith, total, is.some);
  none = λ no. absurd (omega (arith, no));
}
one_risen Nothing shard old new long below is = same_risen old new is
one_risen (GaveBack why) shard old new long below is = same_risen old new is
one_risen (Strange stray) shard old new long below is = same_risen old new is

pub none_risen : (shares : List ShareState) → HaveRisen 0 shares shares
none_risen shares = same_risen shares shares refl

-- one after the other
pub both_risen : (a b c : ℕ) (old mid new : List ShareState) → HaveRisen a old mid → HaveRisen b mid new → c ≤ a + b → (c ≡ 0 → a + b ≡ 0)
    → HaveRisen c old new
both_risen a b c old mid new first then most none = record {
  each = λ i. let x = first.each i in let y = then.each i in omega (arith, x, y);
  all = let x = first.all in let y = then.all in omega (arith, x, y, most);
  none = λ is. let zero = none is in then.none (omega (arith, zero)) ∙ first.none (omega (arith, zero));
}

-- ---- passes

pub none_taken : (pass : PassState) → HasTaken 0 pass pass
none_taken pass = record { queue = refl; put = refl; alone = refl; ops = []; taken = sym (append-nil pass.taken); enough = omega arith }

pub one_taken : (a b : ℕ) (old mid new : PassState) (op : Op) → HasTaken a old mid → new ≡ record mid { taken = mid.taken ++ op ∷ [] } → b ≤ a + 1
    → HasTaken b old new
one_taken a b old mid new op first is most = record {
  queue = ap (λ (p : PassState). p.queue) is ∙ first.queue;
  put = ap (λ (p : PassState). p.put) is ∙ first.put;
  alone = ap (λ (p : PassState). p.alone) is ∙ first.alone;
  ops = first.ops ++ op ∷ [];
  taken = ap (λ (p : PassState). p.taken) is ∙ ap (λ (ops : List Op). ops ++ op ∷ []) first.taken ∙ append_assoc old.taken first.ops (op ∷ []);
  enough = omega (arith, first.enough, most, length-append first.ops (op ∷ []));
}

-- ---- ends

none_told : (before after : ℕ) → after ≡ before → IsTold 0 0 before after
none_told before after same = record { less = omega (arith, same); none = λ _. same; cause = inl (omega (arith, same)) }

one_failed : (before after : ℕ) → before ≤ after → HasFailed before after → IsTold 1 0 before after
one_failed before after less (inl risen) = record { less = less; none = λ no. absurd (omega (arith, no)); cause = inl (omega (arith, risen)) }
one_failed before after less (inr last) = record { less = less; none = λ no. absurd (omega (arith, no)); cause = inr (omega (arith, less, last)) }

both_caused : (a m b n c k before between after : ℕ) → (before + (a - m) ≤ between) ⊎ (2 ^ 64 ≤ between + 1) → (between + (b - n) ≤ after) ⊎ (2 ^ 64 ≤ after + 1)
    → between ≤ after → c - k ≤ (a - m) + (b - n) → (before + (c - k) ≤ after) ⊎ (2 ^ 64 ≤ after + 1)
both_caused a m b n c k before between after (inl first) (inl then) less most = inl (omega (arith, first, then, most))
both_caused a m b n c k before between after (inl first) (inr last) less most = inr last
both_caused a m b n c k before between after (inr last) then less most = inr (omega (arith, last, less))

-- of one flush
pub one_told : (flushed : Flushed) (before after : ℕ) → IsCounted before after flushed → IsTold (failed_in flushed) (other_in flushed) before after
one_told (Stored entries) before after same = none_told before after same
one_told Nothing before after same = none_told before after same
one_told (GaveBack NoMemory) before after same = record { less = omega (arith, same); none = λ no. absurd (omega (arith, no)); cause = inl (omega (arith, same)) }
one_told (GaveBack Failed) before after both = one_failed before after both.0 both.1
one_told (GaveBack Damaged) before after both = one_failed before after both.0 both.1
one_told (Strange stray) before after less = record { less = less; none = λ no. absurd (omega (arith, no)); cause = inl (omega (arith, less)) }

-- one after the other
pub both_told : (a m b n c k before between after : ℕ) → IsTold a m before between → IsTold b n between after → (c ≡ 0 → a + b ≡ 0)
    → c - k ≤ (a - m) + (b - n) → IsTold c k before after
both_told a m b n c k before between after first then none most = record {
  less = let x = first.less in let y = then.less in omega (arith, x, y);
  none = λ is. let zero = none is in then.none (omega (arith, zero)) ∙ first.none (omega (arith, zero));
  cause = both_caused a m b n c k before between after first.cause then.cause then.less most;
}
