use Rattle.std.proofs.Common.{◌≡◌, Result, Ok, Err, IfErr, subst, sym}
use Rattle.std.specs.Result.{IsErrAnd}
use Rattle.ing_durable.specs.Kept.{IsSafe, shard_at}
use Rattle.ing_durable.specs.Refusing.{IsOwnText}
use Rattle.ing_begun.specs.Recovering.{IsRefused, LeavesOrReplays}
use Rattle.ing_begun.proofs.RecoverLaws.{numbered}
use Rattle.ing_begun.proofs.begun.Begun.recovered.Goals as goal

-- a fault is handed on
handed_on : {X E : Type 0} (P : E → Type 0) (r : Result X E) (fault : E) → IsErrAnd r (λ e. e ≡ fault) → P fault → IfErr r P
handed_on P (Ok x) fault same p = tt
handed_on P (Err e) fault same p = subst P (sym same) p

pub returns-clause-own : goal.returns-clause-own
returns-clause-own g c = λ honest. subst (λ s. IsOwnText s c.args.number (g.D.LogDisk.seen c.args.log).now.bytes) c.in-Ok.ensures (c.in_ok-shard.ensures.own honest)

pub returns-clause-leaves : goal.returns-clause-leaves
returns-clause-leaves g c = λ honest.
    let d = g.D.LogDisk in
    let made = c.in_ok-shard.field-0.shard in
    subst (λ s. LeavesOrReplays (shard_at s c.args.number) d.seen d.moment d.left_since c.args.log made.log made.memory.state) c.in-Ok.ensures
    (c.in_ok-shard.ensures.any_moment honest)

pub returns-clause-safe : goal.returns-clause-safe
returns-clause-safe g c = λ honest whole.
    let told = c.in_ok-shard.ensures in
    let made = c.in_ok-shard.field-0.shard in
    subst (λ w. IsSafe w (g.D.LogDisk.seen made.log) made.memory.state) (numbered c.in-Ok.settings c.args.number made.memory told.settings told.number)
    (told.safe honest whole)

pub returns-in_err-shard-clause-refused : goal.returns-in_err-shard-clause-refused
returns-in_err-shard-clause-refused g c =
    let d = g.D.LogDisk in
    let e = c.in_err-shard.field-0.0 in
    let told = c.in_err-shard.ensures in
    handed_on (λ e. IsRefused d.is_honest d.seen d.failure_count c.args.settings.now c.args.number c.args.log e.0 e.1) c.from_residual.result e c.from_residual.ensures.1
    (subst (λ s. IsRefused d.is_honest d.seen d.failure_count s c.args.number c.args.log e.0 e.1) c.in-Ok.ensures
    (record { why = told.refused; taken = told.taken; device = told.device; same = told.back }))
