use Rattle.std.proofs.Common.{◌∙◌, ◌∷◌, ◌++◌, [], ap, subst, sym, take}
use Rattle.std.specs.Prelude.{All}
use Rattle.std.proofs.lemmas.List.{take_all, take_more}
use Rattle.std.proofs.lemmas.List.Elements.{All-append, All-cons, All-nil}
use Rattle.ing_world.specs.Turns.{IsShort}
use Rattle.ing_world.proofs.event.names_are_short.Goals as goal

-- one event more
pub loop-event-preserved : goal.loop-event-preserved
loop-event-preserved c =
    let es = c.args.events.now in
    let i = c.loop-event.event-index in
    let e = c.event-item.result in
    subst (All IsShort) (ap (λ x. take i es ++ x ∷ []) c.event-item.is ∙ sym (take_more es i e c.loop-event-test.true))
    (All-append IsShort (take i es) (e ∷ []) c.loop-event.invariant (All-cons IsShort e [] (c.is_short.ensures.yes c.if-not-is_short.false) (All-nil IsShort)))

-- all of them
pub returns-clause-yes : goal.returns-clause-yes
returns-clause-yes c = λ is. subst (All IsShort) (take_all c.loop-event.event-index c.args.events.now c.loop-event-test.false) c.loop-event.invariant
