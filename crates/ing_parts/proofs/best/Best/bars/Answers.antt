use Rattle.std.proofs.Common.{rules, ◌≤◌, length, subst, arith}
use Rattle.ing_parts.specs.Answers.{BestState, IsPast, PassesOver}
use Rattle.ing_parts.proofs.KeptLaws.{barred, none_first, none_wanted}
use Rattle.ing_parts.proofs.best.Best.bars.Goals as goal

pub returns-in-Some : goal.returns-in-Some
returns-in-Some c = λ past.
    let inside = c.self.inside in
    let b : BestState = record { order = inside.order; limit = inside.limit; held = inside.held.items } in
    let full : inside.limit ≤ length inside.held.items = omega (arith, c.if-len-self.false, c.len.ensures) in
    let behind = subst (λ n. IsPast inside.order n c.args.from) c.nanoseconds.ensures.value (c.is_past.ensures.yes past) in
    subst (λ (x : BestState). PassesOver c.args.from x) c.self.view_is (barred b c.in-Some.last.now c.self.invariant.heap full (search rules) c.args.from behind)

pub returns-in-None : goal.returns-in-None
returns-in-None c = λ _.
    let inside = c.self.inside in
    let b : BestState = record { order = inside.order; limit = inside.limit; held = inside.held.items } in
    let none = none_first c.deref.result.now c.in-None.ensures.value in
    let zero : inside.limit ≤ 0 = omega (arith, none, c.deref.ensures.len, c.if-len-self.false, c.len.ensures) in
    subst (λ (x : BestState). PassesOver c.args.from x) c.self.view_is (λ f _. none_wanted b f zero)
