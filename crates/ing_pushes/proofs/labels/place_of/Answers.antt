use Rattle.std.proofs.Common.{◌<◌, length, arith}
use Rattle.ing_pushes.proofs.labels.place_of.Goals as goal
use Rattle.ing_pushes.proofs.Rising.{goes_behind, under_one_more}

pub returns-in-Greater-clause-goes : goal.returns-in-Greater-clause-goes
returns-in-Greater-clause-goes c =
    let within : c.loop-above.above < length c.args.labels.now = omega (arith, c.loop-above-test.true, c.min-above-end.ensures) in
    goes_behind c.args.labels.now c.loop-above.above _ c.args.name.now within c.loop-above.invariant c.in-Greater.ensures

pub loop-above-preserved : goal.loop-above-preserved
loop-above-preserved c =
    let within : c.loop-above.above < length c.args.labels.now = omega (arith, c.loop-above-test.true, c.min-above-end.ensures) in
    under_one_more c.args.labels.now c.loop-above.above _ c.args.name.now within c.loop-above.invariant c.in-Less.ensures
