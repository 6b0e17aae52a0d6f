use Rattle.std.proofs.Common.{refl}
use Rattle.std.proofs.lemmas.Result.{err_from_is_err_and}
use Rattle.ing_session.proofs.RunsLaws.{no_room}
use Rattle.ing_service.proofs.runs.run.Goals as goal

-- there was no room for the shards
pub returns-in_err-seats-clause-written : goal.returns-in_err-seats-clause-written
returns-in_err-seats-clause-written g c =
    let p = err_from_is_err_and c.from_residual.result c.from_residual.ensures.1 in
    no_room _ _ _ c.from_residual.result p.0 p.1 p.2 refl refl
