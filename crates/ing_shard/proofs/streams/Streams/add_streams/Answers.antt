use Rattle.std.proofs.Common.{◌≡◌, ◌+◌, [], ◌∷◌, ◌++◌, List, take, ap, sym, ◌∙◌, slice_get, subst}
use Rattle.std.proofs.lemmas.List.{flat_map_more, take_more}
use Rattle.ing_rows.specs.Rows.{Row}
use Rattle.ing_parts.specs.Parts.{AddsRows}
use Rattle.ing_shard.specs.Snapshots.{rows_at, rows_of}
use Rattle.ing_shard.proofs.streams.Streams.add_streams.Goals as goal

-- one more is added, which stands behind the others
pub loop-number-preserved : goal.loop-number-preserved
loop-number-preserved g c =
    let at = c.loop-number in
    let i = at.number-index in
    let sts = c.args.self.now.list.items in
    let numbers = c.args.numbers.now in
    let n = c.number-item.result in
    let new = c.add_stream.new.snapshot in
    let sooner : List Row = rows_at sts (take i numbers) in
    let own : List Row = rows_of (slice_get sts n) in
    let all : sooner ++ own ≡ rows_at sts (take (i + 1) numbers) =
    flat_map_more (λ k. rows_of (slice_get sts k)) [] (take i numbers) n
    ∙ ap (rows_at sts) (ap (λ y. take i numbers ++ y ∷ []) c.number-item.is ∙ sym (take_more numbers i n c.loop-number-test.true)) in
    let added : AddsRows own at.snapshot new = subst (λ k. AddsRows (rows_of (slice_get sts k)) at.snapshot new) c.number.ensures c.in_ok-add_stream.ensures in
    subst (λ (l : List Row). AddsRows l c.args.snapshot.now new) all (c.rows_join.ensures.both sooner own c.args.snapshot.now at.snapshot new at.invariant added)
