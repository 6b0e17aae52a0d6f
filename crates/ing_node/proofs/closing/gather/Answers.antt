use Rattle.std.proofs.Common.{◌-◌, ◌∙◌, arith, subst}
use Rattle.ing_tally.specs.Books.{amount_of}
use Rattle.ing_begun.specs.Contents.{Contents}
use Rattle.ing_node.specs.Reports.{CountsRows}
use Rattle.ing_node.proofs.ClosingLaws.{counted_by, gathered_by, same_state}
use Rattle.ing_node.proofs.closing.gather.Goals as goal

pub overflow_sub-report : goal.overflow_sub-report
overflow_sub-report g c =
    let whole = c.in-Ok.ensures in
    let shard = c.into_parts-memory.result.0 in
    let all = (whole.accepted shard.state (same_state shard.state)).1 in
    let before = c.requires.recovered in
    omega (arith, all, before)

pub returns-clause-closed : goal.returns-clause-closed
returns-clause-closed g c =
    let whole = c.in-Ok.ensures in
    let shard = c.into_parts-memory.result.0 in
    gathered_by c.args.recovered c.in-Ok.field-0.accepted c.in-Ok.field-0.stored (amount_of c.args.pushing.items) (amount_of c.args.tallies.items)
    (whole.accepted shard.state (same_state shard.state)).1
    (whole.stored shard.state (same_state shard.state)).1
    whole.within c.requires.recovered

pub returns-clause-rows : goal.returns-clause-rows
returns-clause-rows g c =
    let whole = c.in-Ok.ensures in
    let shard = c.into_parts-memory.result.0 in
    let same = same_state shard.state in
    let recovered = c.args.recovered in
    let accepted = c.in-Ok.field-0.accepted in
    let stored = c.in-Ok.field-0.stored in
    let all = (whole.accepted shard.state same).1 in
    let before = c.requires.recovered in
    subst (λ (s : Contents). CountsRows s.state.rows (record { accepted = accepted - recovered; recovered = recovered; stored = stored; kept = accepted - stored })) (c.into_parts-memory.ensures.0 ∙ c.into_shard.ensures)
    (counted_by shard.state.rows recovered accepted stored (omega (arith, all, before)) (whole.accepted shard.state same).0 (whole.stored shard.state same).0 (whole.landed shard.state same))
