use Rattle.std.proofs.Common.{ℕ, ◌≡◌, ◌+◌, ◌-◌, ◌<◌, ◌≤◌, suc, length, ap, sym, ◌∙◌, refl, arith}
use Rattle.ing_limits.specs.Durations.{capped, parts_sum}
use Rattle.ing_limits.proofs.Sums.{ends_with, ended, went_on, long_part, refused_part}
use Rattle.ing_limits.proofs.duration.duration_of.Goals as goal

-- one turn less
turns : (i n : ℕ) → i < n → n - i ≡ suc (n - (i + 1))
turns i n h = omega arith

pub returns-in_err-part : goal.returns-in_err-part
returns-in_err-part c =
    c.from_residual.ensures
    ∙ sym (refused_part c.loop-turn.total c.loop-turn.rest.now (length c.args.text.now - c.loop-turn.turn) _ refl c.in_err-part.ensures)
    ∙ c.loop-turn.invariant

pub returns-in_err-total : goal.returns-in_err-total
returns-in_err-total c =
    let long : 9223372036854775808 ≤ c.loop-turn.total + c.in_ok-part.part = omega (arith, c.in_err-total.ensures) in
    c.from_residual-in_err-total.ensures
    ∙ sym (long_part c.loop-turn.total c.in_ok-part.part c.in_ok-part.after.now c.loop-turn.rest.now (length c.args.text.now - c.loop-turn.turn) c.in_ok-part.ensures long)
    ∙ c.loop-turn.invariant

pub returns-then-is_empty : goal.returns-then-is_empty
returns-then-is_empty c =
    let more = length c.args.text.now - (c.loop-turn.turn + 1) in
    c.capped.ensures
    ∙ ap capped c.in_ok-total.ensures
    ∙ sym (ended c.loop-turn.total c.in_ok-part.part c.in_ok-part.after.now c.loop-turn.rest.now more c.in_ok-part.ensures (sym c.is_empty.ensures ∙ c.if-is_empty.true))
    ∙ sym (ap (λ n. ends_with c.loop-turn.total (parts_sum n c.loop-turn.rest.now)) (turns c.loop-turn.turn (length c.args.text.now) c.loop-turn-test.true))
    ∙ c.loop-turn.invariant

pub loop-turn-preserved : goal.loop-turn-preserved
loop-turn-preserved c =
    let more = length c.args.text.now - (c.loop-turn.turn + 1) in
    ap (λ n. ends_with n (parts_sum more c.in_ok-part.after.now)) c.in_ok-total.ensures
    ∙ sym (went_on c.loop-turn.total c.in_ok-part.part c.in_ok-part.after.now c.loop-turn.rest.now more c.in_ok-part.ensures (sym c.is_empty.ensures ∙ c.if-is_empty.false))
    ∙ sym (ap (λ n. ends_with c.loop-turn.total (parts_sum n c.loop-turn.rest.now)) (turns c.loop-turn.turn (length c.args.text.now) c.loop-turn-test.true))
    ∙ c.loop-turn.invariant

pub returns : goal.returns
unfolding parts_sum
returns c = let over : length c.args.text.now - c.loop-turn.turn ≡ 0 = omega arith in ap (λ n. ends_with c.loop-turn.total (parts_sum n c.loop-turn.rest.now)) (sym over) ∙ c.loop-turn.invariant
