use Rattle.std.proofs.Common.{List, subst, sym}
use Rattle.std.specs.Prelude.{IfOk}
use Rattle.ing_limits.specs.Ranges.{rules_for}
use Rattle.ing_rows.specs.Kept.{Numbered}
use Rattle.ing_shard.specs.Contents.{stream_of}
use Rattle.ing_world.specs.Held.{HasTurned, IsKept}
use Rattle.ing_world.specs.Turns.{Tells, TellsPush}
use Rattle.ing_world.proofs.running.turn.Goals as goal

pub returns-in-Push-clause-turn : goal.returns-in-Push-clause-turn
returns-in-Push-clause-turn g c =
    subst (λ e. IfOk c.push.result (λ reply. (accepted : List Numbered) → IsKept c.args.world.now accepted → HasTurned (rules_for c.args.world.now.shard.settings) (Tells e) reply c.args.world.now c.push.new.self accepted)) (sym c.in-Push.is)
    (subst (λ es. IfOk c.push.result (λ reply. (accepted : List Numbered) → IsKept c.args.world.now accepted → HasTurned (rules_for c.args.world.now.shard.settings) (TellsPush (stream_of c.in-Push.tenant c.in-Push.labels) c.in-Push.now es) reply c.args.world.now c.push.new.self accepted)) c.deref.ensures.value c.push.ensures.turn)

pub returns-in-Sweep-clause-turn : goal.returns-in-Sweep-clause-turn
returns-in-Sweep-clause-turn g c =
    subst (λ e. IfOk c.sweep.result (λ reply. (accepted : List Numbered) → IsKept c.args.world.now accepted → HasTurned (rules_for c.args.world.now.shard.settings) (Tells e) reply c.args.world.now c.sweep.new.self accepted)) (sym c.in-Sweep.is) c.sweep.ensures.turn

pub returns-in-Claim-clause-turn : goal.returns-in-Claim-clause-turn
returns-in-Claim-clause-turn g c =
    subst (λ e. IfOk c.claim.result (λ reply. (accepted : List Numbered) → IsKept c.args.world.now accepted → HasTurned (rules_for c.args.world.now.shard.settings) (Tells e) reply c.args.world.now c.claim.new.self accepted)) (sym c.in-Claim.is) c.claim.ensures.turn

pub returns-in-Finish-clause-turn : goal.returns-in-Finish-clause-turn
returns-in-Finish-clause-turn g c =
    subst (λ e. IfOk c.finish.result (λ reply. (accepted : List Numbered) → IsKept c.args.world.now accepted → HasTurned (rules_for c.args.world.now.shard.settings) (Tells e) reply c.args.world.now c.finish.new.self accepted)) (sym c.in-Finish.is) c.finish.ensures.turn

pub returns-in-GiveBack-clause-turn : goal.returns-in-GiveBack-clause-turn
returns-in-GiveBack-clause-turn g c =
    subst (λ e. (accepted : List Numbered) → IsKept c.args.world.now accepted → HasTurned (rules_for c.args.world.now.shard.settings) (Tells e) c.give_back.result c.args.world.now c.give_back.new.self accepted) (sym c.in-GiveBack.is) c.give_back.ensures.turn

pub returns-in-Query-clause-turn : goal.returns-in-Query-clause-turn
returns-in-Query-clause-turn g c =
    subst (λ e. IfOk c.query.result (λ reply. (accepted : List Numbered) → IsKept c.args.world.now accepted → HasTurned (rules_for c.args.world.now.shard.settings) (Tells e) reply c.args.world.now c.args.world.now accepted)) (sym c.in-Query.is) (c.query.ensures.turn tt)
