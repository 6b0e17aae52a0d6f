-- What the verdicts of a push tell.
use Rattle.std.proofs.Common.{◌≡◌, ◌≤◌, ℕ, suc, List, [], ◌∷◌, length, filter, refl, ap, arith, true, false, cond, not, ◌&&◌, Bool, nat_lt, nat_le, is_some}
use Rattle.std.proofs.lemmas.Bool.Decides.{nat_tests}
use Rattle.ing_rows.specs.declared.entry.Entry.{Entry}
use Rattle.ing_rows.specs.declared.rules.Rules.{Rules}
use Rattle.ing_rows.specs.declared.verdict.Verdict.{Verdict}
use Rattle.ing_rows.specs.declared.verdict.Verdict.TheVariants.{Accepted, Duplicate, LineTooLong, TooFarBehind, TooManyStreams}
use Rattle.ing_rows.specs.Facts.{Facts, facts_of}
use Rattle.ing_rows.specs.Rows.{State, StreamKey}
use Rattle.ing_rows.specs.Steps.{verdicts_of, after_entry}
use Rattle.ing_rows.specs.Turns.{accepted_among}
use Rattle.ing_rows.specs.Verdicts.{accepted_number, verdict_by, verdict_of, window_limit, is_entry}
use Rattle.ing_node.specs.Pushes.{AreTold, MayBeTold, accepted_in}

-- a line that is not too long
kept_told : (same few : Bool) (rules : Rules) (e : Entry) (live n : ℕ) → length e.line ≤ rules.max_line_size
    → MayBeTold rules e (cond same Duplicate (cond few (TooManyStreams live) (Accepted n)))
kept_told true few rules e live n short = short
kept_told false true rules e live n short = short
kept_told false false rules e live n short = short

told_by : (long some low same few : Bool) (rules : Rules) (e : Entry) (limit live n : ℕ)
    → nat_lt rules.max_line_size (length e.line) ≡ long → nat_lt e.stamp limit ≡ low
    → MayBeTold rules e (cond long LineTooLong (cond (some && low) (TooFarBehind limit) (cond same Duplicate (cond few (TooManyStreams live) (Accepted n)))))
told_by true some low same few rules e limit live n is_long is_low = grind (arith, nat_tests)
told_by false true true same few rules e limit live n is_long is_low = (grind (arith, nat_tests), grind (arith, nat_tests))
told_by false true false same few rules e limit live n is_long is_low =
    kept_told same few rules e live n (grind (arith, nat_tests))
told_by false false low same few rules e limit live n is_long is_low =
    kept_told same few rules e live n (grind (arith, nat_tests))

verdict_told : (rules : Rules) (facts : Facts) (e : Entry) → MayBeTold rules e (verdict_by rules facts e)
verdict_told rules facts e =
    let limit = window_limit facts.greatest rules.max_chunk_age in
    told_by (nat_lt rules.max_line_size (length e.line)) (nat_lt 0 facts.count) (nat_lt e.stamp limit) (is_entry e facts.last)
    (not facts.is_live && nat_le rules.max_streams_per_tenant facts.live) rules e limit facts.live facts.count refl refl

pub all_told : (rules : Rules) (s : StreamKey) (now : ℕ) (es : List Entry) (st : State) → AreTold rules es (verdicts_of rules s now es st)
all_told rules s now [] st = _
all_told rules s now (e ∷ es) st =
    let v = verdict_of st.rows rules s e in
    (verdict_told rules (facts_of st.rows s) e, all_told rules s now es (after_entry rules s e now v st))

-- as many entries are accepted as verdicts say so
pub told_count : (rules : Rules) (es : List Entry) (vs : List Verdict) → AreTold rules es vs → length (accepted_among es vs) ≡ accepted_in vs
told_count rules [] [] told = refl
told_count rules [] (v ∷ vs) told = absurd told
told_count rules (e ∷ es) [] told = absurd told
told_count rules (e ∷ es) (v ∷ vs) told =
    let rest = told_count rules es vs told.1 in
    elim (is_some (accepted_number v)) as (λ b. length (cond b (e ∷ accepted_among es vs) (accepted_among es vs)) ≡ length (cond b (v ∷ filter (λ w. is_some (accepted_number w)) vs) (filter (λ w. is_some (accepted_number w)) vs))) [
      | true ↦ ap suc rest
      | false ↦ rest
    ]
