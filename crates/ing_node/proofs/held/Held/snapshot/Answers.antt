use Rattle.std.proofs.Common.{◌≡◌, ◌≤◌, ◌∙◌, ap, length, arith, subst, sym}
use Rattle.std.proofs.lemmas.List.Sorted.{IsPermutation-refl}
use Rattle.ing_rows.specs.Rows.{IsSame}
use Rattle.ing_begun.specs.Contents.{Contents, Stands}
use Rattle.ing_node.proofs.ClosingLaws.{same_state}
use Rattle.ing_node.proofs.held.Held.snapshot.Goals as goal

pub returns-clause-front : goal.returns-clause-front
returns-clause-front g c =
    let shard = c.args.self.now.shard.memory in
    let same : IsSame shard.state shard.state = record { rows = IsPermutation-refl shard.state.rows; marks = IsPermutation-refl shard.state.marks } in
    let below : c.args.share.now.amount ≤ length shard.state.rows = c.covers.ensures.amount shard.state same in
    let stays = c.memory.ensures ∙ ap (λ s. s.memory) c.covers.ensures.shard in
    let front : c.in_ok-snapshot.field-0.front ≡ length shard.state.rows =
    c.in_ok-snapshot.ensures.front shard.state (subst (λ (s : Contents). Stands s shard.state) (sym stays) same) in
    omega (arith, below, front)

pub returns-clause-asked : goal.returns-clause-asked
returns-clause-asked g c =
    let snapshot = c.in_ok-snapshot.ensures in
    let rows = c.memory.result.now.state.rows in
    let law = c.snapshots_are_selected.ensures c.args.tenant.now c.args.selector.now rows c.in_ok-snapshot.field-0 snapshot.rows in
    record {
      rows = rows;
      count = snapshot.front c.memory.result.now.state (same_state c.memory.result.now.state);
      has = snapshot.rows;
      range = snapshot.range;
      order = snapshot.best.0;
      limit = snapshot.best.1;
      kept = law.1;
      selected = law.0;
    }
