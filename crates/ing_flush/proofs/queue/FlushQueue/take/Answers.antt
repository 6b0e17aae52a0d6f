use Rattle.std.proofs.Common.{◌≡◌, ◌∷◌, IfSome, IsTrue, subst}
use Rattle.ing_flush.specs.Queues.{PassState, pass_of, standing}
use Rattle.ing_flush.proofs.LineLaws.{learns, taken_stands, takes}
use Rattle.ing_flush.proofs.queue.FlushQueue.take.Goals as goal

pub pop_as-requires-clause-rule : goal.pop_as-requires-clause-rule
pop_as-requires-clause-rule g c = (takes _ _, learns _ _)

pub returns-clause-front : goal.returns-clause-front
returns-clause-front g c =
    let new = pass_of c.pop_as.new.pass in
    subst (λ (old : PassState). IfSome c.pop_as.result (λ op. IsTrue old.alone → standing old ≡ op ∷ standing new)) c.pass.view_is
    (taken_stands _ _ _ _ c.pop_as.ensures.rule)
