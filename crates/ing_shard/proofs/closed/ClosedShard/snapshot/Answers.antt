use Rattle.std.proofs.Common.{◌≡◌, All, ap, subst, sym}
use Rattle.std.specs.Prelude.{IfOk}
use Rattle.ing_parts.specs.Parts.{standing}
use Rattle.ing_rows.specs.Placement.{shard_of}
use Rattle.ing_rows.specs.Gauges.{StandsOnce}
use Rattle.ing_rows.specs.Rows.{State, StreamKey, count_of}
use Rattle.ing_shard.specs.Closed.{ClosedContents}
use Rattle.ing_shard.proofs.OnceLaws.{all_once}
use Rattle.ing_shard.proofs.RowLaws.{all_placed}
use Rattle.ing_shard.proofs.closed.ClosedShard.snapshot.Goals as goal

pub returns-clause-once : goal.returns-clause-once
returns-clause-once g c =
    let sts = c.self.inside.streams.list.items in
    let own = ap (λ (contents : ClosedContents). contents.state) c.self.view_is in
    let picks = c.streams_are_picked.ensures c.args.tenant.now c.args.selector.now in
    all_once c.args.tenant.now c.args.selector.now picks.0 picks.1 sts c.self.invariant.held.labelled
    (subst (λ (st : State). (s : StreamKey) → StandsOnce st.rows s (count_of st.rows s)) (sym own) c.totals-front.ensures.once)
    c.snapshot.result c.snapshot.ensures.rows

pub returns-clause-own : goal.returns-clause-own
returns-clause-own g c =
    let inside = c.self.inside in
    let tenant = c.args.tenant.now in
    let ms = c.args.selector.now in
    let picks = c.streams_are_picked.ensures tenant ms in
    subst (λ (contents : ClosedContents). IfOk c.snapshot.result (λ s. All (λ f. shard_of tenant f.name contents.settings.shards ≡ contents.number) (standing s))) c.self.view_is
    (all_placed tenant inside.settings.shards inside.number ms picks.0 picks.1 inside.streams.list.items c.self.invariant.held.labelled c.self.invariant.own c.snapshot.result c.snapshot.ensures.rows)
