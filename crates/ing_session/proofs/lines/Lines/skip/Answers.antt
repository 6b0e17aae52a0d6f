use Rattle.std.proofs.Common.{◌-◌, ◌≤◌, arith, drop, length-take}
use Rattle.ing_session.proofs.LinesLaws.{slice_range-later}
use Rattle.ing_session.proofs.lines.Lines.skip.Goals as goal

pub returns-clause-bytes : goal.returns-clause-bytes
returns-clause-bytes c =
    let lines = c.args.self.now in
    let within : c.args.count ≤ lines.filled - lines.at = omega (arith, c.requires, length-take (lines.filled - lines.at) (drop lines.at lines.chunk.items)) in
    slice_range-later lines.chunk.items lines.at lines.filled c.args.count within
