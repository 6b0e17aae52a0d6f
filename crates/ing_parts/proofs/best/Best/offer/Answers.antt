use Rattle.std.proofs.Common.{rules, ◌≡◌, ◌≤◌, ◌<◌, ◌∙◌, ◌∷◌, [], length, set, false, true, refl, subst, sym, arith}
use Rattle.std.specs.Prelude.{IsPermutation}
use Rattle.std.proofs.lemmas.List.{with_items_is}
use Rattle.std.proofs.lemmas.Result.{on_ok_weaker}
use Rattle.ing_parts.specs.Answers.{BestState, Offers, precedes}
use Rattle.ing_parts.proofs.KeptLaws.{added, none_first, none_wanted, refused, replaces}
use Rattle.ing_parts.proofs.best.Best.offer.Goals as goal

pub returns-then-len-self : goal.returns-then-len-self
returns-then-len-self c =
    let inside = c.self.inside in
    let old : BestState = record { order = inside.order; limit = inside.limit; held = inside.held.items } in
    let new : BestState = record { order = inside.order; limit = inside.limit; held = c.add.new.held.items } in
    on_ok_weaker c.add.result (λ same. subst (λ (b : BestState). Offers (c.args.found ∷ []) b new) c.self.view_is (added old new c.args.found refl refl same)) c.add.ensures.same

pub returns-then-is_lt : goal.returns-then-is_lt
returns-then-is_lt c =
    let inside = c.self.inside in
    let held = inside.held.items in
    let f = c.args.found in
    let last = c.in-Some.last.now in
    let full : inside.limit ≤ length held = omega (arith, c.if-len-self.false, c.len.ensures) in
    let before : precedes inside.order f last ≡ true = sym c.compare.ensures ∙ sym c.is_lt.ensures ∙ c.if-is_lt.true in
    let new : BestState = record { order = inside.order; limit = inside.limit; held = c.replace_last.new.held } in
    let same = subst (λ l. IsPermutation (set l 0 f) c.replace_last.new.held) c.deref_mut.ensures.value c.replace_last.ensures.same in
    let some : 0 < length held = search (rules, arith) in
    let all = with_items_is inside.held c.replace_last.new.held (c.replace_last.ensures.count ∙ c.deref_mut.ensures.len) in
    subst (λ l. Offers (f ∷ []) c.args.self.now (record { order = inside.order; limit = inside.limit; held = l })) (sym all)
    (subst (λ (b : BestState). Offers (f ∷ []) b new) c.self.view_is (replaces inside.order inside.limit last f held c.replace_last.new.held c.self.invariant.heap full some (search rules) before same))

pub returns-else-is_lt : goal.returns-else-is_lt
returns-else-is_lt c =
    let inside = c.self.inside in
    let b : BestState = record { order = inside.order; limit = inside.limit; held = inside.held.items } in
    let f = c.args.found in
    let last = c.in-Some.last.now in
    let full : inside.limit ≤ length inside.held.items = omega (arith, c.if-len-self.false, c.len.ensures) in
    let behind : precedes inside.order f last ≡ false = sym c.compare.ensures ∙ sym c.is_lt.ensures ∙ c.if-is_lt.false in
    subst (λ (x : BestState). Offers (f ∷ []) x x) c.self.view_is (refused b last c.self.invariant.heap full (search rules) f behind)

pub returns-in_default : goal.returns-in_default
returns-in_default c =
    let inside = c.self.inside in
    let b : BestState = record { order = inside.order; limit = inside.limit; held = inside.held.items } in
    let none = none_first c.deref.result.now c.in_default.ensures.value in
    let zero : inside.limit ≤ 0 = omega (arith, none, c.deref.ensures.len, c.if-len-self.false, c.len.ensures) in
    subst (λ (x : BestState). Offers (c.args.found ∷ []) x x) c.self.view_is (none_wanted b c.args.found zero)
