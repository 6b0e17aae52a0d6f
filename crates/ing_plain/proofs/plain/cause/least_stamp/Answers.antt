use Rattle.std.proofs.Common.{◌∙◌, ap, reverse}
use Rattle.std.specs.Option.{unwrap_or}
use Rattle.std.proofs.lemmas.List.{take_all}
use Rattle.ing_rows.specs.Rows.{rows_of_chunk}
use Rattle.ing_plain.proofs.PlainSeals.{least_of, least_told}
use Rattle.ing_plain.proofs.plain.cause.least_stamp.Goals as goal

pub returns : goal.returns
returns c =
    let m = c.args.mark.now in
    c.unwrap_or.ensures
    ∙ ap (λ o. unwrap_or o 0) (c.loop-row.invariant ∙ ap (λ rows. least_of (rows_of_chunk m.stream m.chunk (reverse rows))) (take_all c.loop-row.row-index c.args.rows.now c.loop-row-test.false))
    ∙ least_told (rows_of_chunk m.stream m.chunk (reverse c.args.rows.now))
