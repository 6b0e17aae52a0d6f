-- Failures that were answered, and the failures that a store end has counted.
use Rattle.std.proofs.Common.{◌≡◌, ◌∙◌, ℕ, ◌+◌, ◌≤◌, arith, inl, inr}
use Rattle.ing_refusals.specs.Failures.{HasFailed}
use Rattle.ing_session.specs.Causes.{GoesOn, HaveCause}

pub no_failure : (n : ℕ) → HaveCause n n 0
no_failure n = (omega arith, inl (omega arith))

-- a count that stays has no failure to account for
pub same_count : (before after : ℕ) → after ≡ before → HaveCause before after 0
same_count before after same = (omega (arith, same), inl (omega (arith, same)))

-- an end that has failed accounts for one failure
pub one_failure : (before after : ℕ) → before ≤ after → HasFailed before after → HaveCause before after 1
one_failure before after risen (inl less) = (risen, inl (omega (arith, less)))
one_failure before after risen (inr last) = (risen, inr (omega (arith, risen, last)))

pub causes_on : (a b c n : ℕ) → HaveCause a b n → b ≤ c → HaveCause a c n
causes_on a b c n (risen, inl counted) le = (omega (arith, risen, le), inl (omega (arith, counted, le)))
causes_on a b c n (risen, inr last) le = (omega (arith, risen, le), inr (omega (arith, last, le)))

-- causes of failures and of those after them
pub causes_more : (a b c n m : ℕ) → HaveCause a b n → HaveCause b c m → HaveCause a c (n + m)
causes_more a b c n m (risen, inl counted) (more, inl next) = (omega (arith, risen, more), inl (omega (arith, counted, next)))
causes_more a b c n m (risen, inl counted) (more, inr last) = (omega (arith, risen, more), inr last)
causes_more a b c n m (risen, inr last) (more, next) = (omega (arith, risen, more), inr (omega (arith, last, more)))

-- an end of a store goes on and on
pub goes_on : {E : Type 0} (never_fails : E → Type 0) (failures : E → ℕ) (a b c : E) → GoesOn never_fails failures a b → GoesOn never_fails failures b c → GoesOn never_fails failures a c
goes_on never_fails failures a b c h k = (omega (arith, h.0, k.0), λ sure. let mid = h.1 sure in let last = k.1 mid.0 in (last.0, last.1 ∙ mid.1))
