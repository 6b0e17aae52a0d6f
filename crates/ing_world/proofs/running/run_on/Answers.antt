use Rattle.std.proofs.Common.{◌+◌, ◌∙◌, subst, sym, take}
use Rattle.std.proofs.lemmas.List.{take_all}
use Rattle.ing_limits.specs.Ranges.{rules_for}
use Rattle.ing_world.specs.Held.{seen}
use Rattle.ing_world.specs.Turns.{Turns}
use Rattle.ing_world.specs.Worlds.{empty_world}
use Rattle.ing_world.proofs.RunLaws.{has_run, turn_next}
use Rattle.ing_world.proofs.running.run_on.Goals as goal

-- one event more
pub loop-event-preserved : goal.loop-event-preserved
loop-event-preserved g c =
    let so_far = c.loop-event.invariant in
    let accepted = so_far.turns.0 in
    let now = c.loop-event.world.shard.settings in
    let settings = c.args.world.now.shard.settings in
    let turned = c.in_ok-reply.ensures.turn accepted so_far.turns.1 in
    record {
      held = c.in_ok-reply.ensures.held;
      settings = c.in_ok-reply.ensures.settings ∙ so_far.settings;
      turns = (
        turned.after,
        turned.kept,
        subst (λ l. Turns (rules_for settings) empty_world (take (c.loop-event.event-index + 1) c.args.events.now) l (seen c.turn.new.world turned.after)) (sym c.in_ok-push.ensures.items)
            (turn_next now settings c.args.events.now c.loop-event.replies.items c.loop-event.event-index c.event-item.result c.in_ok-reply.reply c.loop-event.world c.turn.new.world accepted so_far.settings
            c.event-item.is c.loop-event-test.true so_far.turns.2 turned),
      );
    }

-- all of them
pub returns : goal.returns
returns g c =
    let done = c.loop-event.invariant in
    let rules = rules_for c.args.world.now.shard.settings in
    record {
      held = done.held;
      run = has_run rules c.args.events.now c.loop-event.replies.items c.loop-event.world done.turns.0 done.turns.1
          (subst (λ l. Turns rules empty_world l c.loop-event.replies.items (seen c.loop-event.world done.turns.0)) (take_all c.loop-event.event-index c.args.events.now c.loop-event-test.false) done.turns.2);
    }
