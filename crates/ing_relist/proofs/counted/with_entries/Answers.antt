use Rattle.std.proofs.Common.{[], ◌∷◌, List, take, sym, subst}
use Rattle.ing_chunk.specs.declared.numbered.Numbered.{Numbered}
use Rattle.ing_relist.specs.Counts.{AddsTo}
use Rattle.ing_relist.proofs.CountLaws.{entries_more, adds_more}
use Rattle.ing_relist.proofs.counted.with_entries.Goals as goal

pub loop-entry-preserved : goal.loop-entry-preserved
loop-entry-preserved c =
    let es = c.args.entries.now in
    let i = c.loop-entry.entry-index in
    let e = c.entry-item.result in
    let more = entries_more es i e c.loop-entry-test.true c.entry-item.is in
    record {
      adds = subst (λ (xs : List Numbered). AddsTo xs c.args.counted c.with_entry-sum.result) (sym more)
          (adds_more (take i es) (e ∷ []) _ _ _ c.loop-entry.invariant.adds c.with_entry-sum.ensures.adds);
      small = c.with_entry-sum.ensures.small;
    }
