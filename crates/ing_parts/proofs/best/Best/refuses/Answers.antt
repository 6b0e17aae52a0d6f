use Rattle.std.proofs.Common.{rules, ◌≡◌, ◌≤◌, ◌∙◌, ◌∷◌, [], length, false, subst, sym, arith}
use Rattle.ing_parts.specs.declared.found.Found.{Found}
use Rattle.ing_parts.specs.Answers.{BestState, Offers, precedes}
use Rattle.ing_parts.proofs.KeptLaws.{failed, none_first, none_wanted, refused}
use Rattle.ing_parts.proofs.best.Best.refuses.Goals as goal

pub returns-in-Some : goal.returns-in-Some
returns-in-Some c = λ refuses entry stamp.
    let inside = c.self.inside in
    let b : BestState = record { order = inside.order; limit = inside.limit; held = inside.held.items } in
    let f : Found = record { name = c.args.name.now; number = c.args.number; entry = entry } in
    let last = c.in-Some.last.now in
    let full : inside.limit ≤ length inside.held.items = omega (arith, c.if-len-self.false, c.len.ensures) in
    let behind : precedes inside.order f last ≡ false = sym (c.goes_before.ensures entry stamp) ∙ failed c.goes_before.result refuses in
    subst (λ (x : BestState). Offers (f ∷ []) x x) c.self.view_is (refused b last c.self.invariant.heap full (search rules) f behind)

pub returns-in-None : goal.returns-in-None
returns-in-None c = λ _ entry _.
    let inside = c.self.inside in
    let b : BestState = record { order = inside.order; limit = inside.limit; held = inside.held.items } in
    let f : Found = record { name = c.args.name.now; number = c.args.number; entry = entry } in
    let none = none_first c.deref.result.now c.in-None.ensures.value in
    let zero : inside.limit ≤ 0 = omega (arith, none, c.deref.ensures.len, c.if-len-self.false, c.len.ensures) in
    subst (λ (x : BestState). Offers (f ∷ []) x x) c.self.view_is (none_wanted b f zero)
