use Rattle.std.proofs.Common.{◌≤◌, ◌∙◌, ap, length, subst}
use Rattle.std.proofs.lemmas.List.Sorted.{IsPermutation-refl}
use Rattle.ing_begun.specs.Catalog.{AddsCatalog, asked_view}
use Rattle.ing_begun.specs.Contents.{Contents}
use Rattle.ing_rows.specs.Rows.{IsSame}
use Rattle.ing_node.proofs.held.Held.add_catalog.Goals as goal

-- the shard is the one that stands there
told_here : (g : _) (c : goal.In_ok-add_catalog g) → AddsCatalog (asked_view c.args.asked.now) c.args.self.now.shard.memory.state.rows c.args.texts.now c.add_catalog.new.texts
told_here g c =
    let stays = c.memory.ensures ∙ ap (λ s. s.memory) c.covers.ensures.shard in
    subst (λ (m : Contents). AddsCatalog (asked_view c.args.asked.now) m.state.rows c.args.texts.now c.add_catalog.new.texts) stays c.in_ok-add_catalog.ensures

pub returns-clause-told : goal.returns-clause-told
returns-clause-told g c = told_here g c

pub returns-clause-looked : goal.returns-clause-looked
returns-clause-looked g c =
    let shard = c.args.self.now.shard.memory in
    let same : IsSame shard.state shard.state = record { rows = IsPermutation-refl shard.state.rows; marks = IsPermutation-refl shard.state.marks } in
    let below : c.args.share.now.amount ≤ length shard.state.rows = c.covers.ensures.amount shard.state same in
    (shard.state.rows, below, told_here g c)
