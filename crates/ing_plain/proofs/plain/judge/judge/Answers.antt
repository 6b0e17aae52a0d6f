use Rattle.std.proofs.Common.{arith, reverse}
use Rattle.std.proofs.lemmas.Bool.Decides.{nat_tests}
use Rattle.ing_rows.specs.Rows.{stream}
use Rattle.ing_plain.proofs.PlainLaws.{is_live_row}
use Rattle.ing_plain.proofs.plain.judge.judge.Goals as goal

pub returns-then-live-rules : goal.returns-then-live-rules
returns-then-live-rules c =
    let live = is_live_row (reverse c.args.rows.now) (stream c.args.tenant.now c.args.name.now) c.requires.unstored in
    grind (arith, nat_tests, live, c.is_last.ensures, c.count_of-count.ensures, c.live_streams-live.ensures)

pub returns-else-count-eq0 : goal.returns-else-count-eq0
returns-else-count-eq0 c =
    let live = is_live_row (reverse c.args.rows.now) (stream c.args.tenant.now c.args.name.now) c.requires.unstored in
    grind (arith, nat_tests, live, c.is_last.ensures, c.count_of-count.ensures)
