use Rattle.std.proofs.Common.{◌∙◌, ◌&&◌, ap, bytes_eq, filter, length, nat_eq, reverse}
use Rattle.std.proofs.lemmas.List.{take_all}
use Rattle.ing_plain.proofs.PlainLaws.{live_count}
use Rattle.ing_plain.proofs.plain.judge.live_streams.Goals as goal

pub returns : goal.returns
returns c =
    c.loop-row.invariant.counted
    ∙ ap (λ rows. length (filter (λ r. bytes_eq r.stream.tenant c.args.tenant.now && nat_eq r.number 0) (reverse rows))) (take_all c.loop-row.row-index c.args.rows.now c.loop-row-test.false)
    ∙ live_count c.args.tenant.now (reverse c.args.rows.now) c.requires.counted c.requires.unstored
