use Rattle.std.proofs.Common.{All, get_or, map, rules, subst, sum_by}
use Rattle.ing_session.specs.Causes.{HaveCause}
use Rattle.ing_service.specs.Ends.{IsNoteOf, failed_by}
use Rattle.ing_service.proofs.uploads.draw_each.Goals as goal

pub returns-clause-noted : goal.returns-clause-noted
returns-clause-noted g c = λ i u lt.
    let k = (c.for_each_mut.ensures i u lt).1 in
    let p = k.call in
    subst (λ w. All (λ n. IsNoteOf g.R.Receipt.bytes g.R.Receipt.name (map (λ b. b.now) c.args.chunks.now) n.place n.outcome) w.noted.items) k.left (search rules)

pub returns-clause-causes : goal.returns-clause-causes
returns-clause-causes g c = λ i u lt.
    let k = (c.for_each_mut.ensures i u lt).1 in
    let p = k.call in
    subst (λ w. HaveCause (g.S.StoreEnd.failure_count (get_or c.args.workers.now i u).end) (g.S.StoreEnd.failure_count w.end) (sum_by (λ n. failed_by n.outcome) w.noted.items)) k.left (search rules)
