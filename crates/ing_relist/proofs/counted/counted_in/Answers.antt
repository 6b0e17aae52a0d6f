use Rattle.std.proofs.Common.{◌≡◌, ◌+◌, ◌-◌, ◌^◌, List, length, take, sym, ap, subst, arith}
use Rattle.std.proofs.lemmas.List.{take_all}
use Rattle.ing_chunk.specs.declared.numbered.Numbered.{Numbered}
use Rattle.ing_chunk.specs.Chunks.{in_blocks}
use Rattle.ing_codec.proofs.Counts.{count_more, count_front}
use Rattle.ing_relist.specs.Counts.{AddsTo}
use Rattle.ing_relist.proofs.CountLaws.{in_blocks_more, adds_more, least_small}
use Rattle.ing_relist.proofs.counted.counted_in.Goals as goal

pub with_entries-sum-requires-clause-few : goal.with_entries-sum-requires-clause-few
with_entries-sum-requires-clause-few c =
    let bs = c.args.blocks.now in
    let i = c.loop-block.block-index in
    let b = c.block-item.result in
    let more = count_more bs i b c.loop-block-test.true c.block-item.is in
    let front = count_front bs (i + 1) in
    let len : length c.entries.result.now ≡ length b = ap length c.entries.ensures.value in
    omega (arith, more, front, len, c.requires.few, c.loop-block.invariant.adds.count)

pub loop-block-preserved : goal.loop-block-preserved
loop-block-preserved c =
    let bs = c.args.blocks.now in
    let i = c.loop-block.block-index in
    let b = c.block-item.result in
    let more = in_blocks_more bs i b c.loop-block-test.true c.block-item.is in
    let adds = subst (λ (xs : List Numbered). AddsTo xs c.loop-block.sum c.with_entries-sum.result) c.entries.ensures.value c.with_entries-sum.ensures.adds in
    record {
      adds = subst (λ (xs : List Numbered). AddsTo xs (record { count = 0; size = 0; least = 2 ^ 63 - 1; greatest = 0 }) c.with_entries-sum.result) (sym more)
          (adds_more (in_blocks (take i bs)) b _ _ _ c.loop-block.invariant.adds adds);
      small = c.with_entries-sum.ensures.small;
    }

pub returns : goal.returns
returns c =
    let bs = c.args.blocks.now in
    let all = ap in_blocks (take_all c.loop-block.block-index bs c.loop-block-test.false) in
    let adds = subst (λ (xs : List Numbered). AddsTo xs (record { count = 0; size = 0; least = 2 ^ 63 - 1; greatest = 0 }) c.loop-block.sum) all c.loop-block.invariant.adds in
    record {
      count = omega (arith, adds.count);
      size = omega (arith, adds.size);
      least = omega (arith, adds.least, least_small (in_blocks bs));
      greatest = omega (arith, adds.greatest);
    }
