use Rattle.std.proofs.Common.{◌≡◌, ◌-◌, ◌+◌, ◌≤◌, ◌++◌, ◌∷◌, take, drop, slice_range, sym, ap, ◌∙◌, arith, length-take}
use Rattle.ing_session.specs.Unread.{unread}
use Rattle.ing_session.proofs.LinesLaws.{slice_range-later}
use Rattle.ing_session.proofs.lines.Lines.take.Goals as goal

pub returns-in_ok-long-in-Some-clause-part : goal.returns-in_ok-long-in-Some-clause-part
returns-in_ok-long-in-Some-clause-part c =
    let lines = c.args.self.now in
    let index = c.in-Some.index in
    let ahead = slice_range c.deref.result.now lines.at lines.filled in
    let same : ahead ≡ unread lines = ap (λ bytes. slice_range bytes lines.at lines.filled) c.deref.ensures.value in
    let within : index + 1 ≤ lines.filled - lines.at = omega (arith, c.in-Some.ensures.0, length-take (lines.filled - lines.at) (drop lines.at c.deref.result.now)) in
    let rest = slice_range-later lines.chunk.items lines.at lines.filled (index + 1) within in
    λ taken holds. (
      take index ahead,
      c.in-Some.ensures.1,
      sym same ∙ c.in-Some.ensures.2 ∙ ap (λ after. take index ahead ++ 10 ∷ after) (ap (drop (index + 1)) same ∙ sym rest),
      c.in_ok-long-in-Some.ensures.holds taken holds,
    )
