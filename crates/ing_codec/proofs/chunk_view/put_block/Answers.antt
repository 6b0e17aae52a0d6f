use Rattle.std.specs.Int.{w32, to_be_bytes}
use Rattle.std.proofs.Common.{length}
use Rattle.ing_codec.specs.Versions.{written_version}
use Rattle.ing_codec.specs.ChunkObjects.{entry_text, IsEntry}
use Rattle.ing_codec.proofs.Writes.{written_more, all_through, all_gone}
use Rattle.ing_codec.proofs.chunk_view.put_block.Goals as goal

pub loop-numbered-preserved : goal.loop-numbered-preserved
loop-numbered-preserved c =
    let es = c.entries-entries.result.now in
    let i = c.loop-numbered.numbered-index in
    let x = c.numbered-item.result in
    record {
      text = written_more (entry_text written_version c.args.first) es i x c.args.out.now.items (to_be_bytes w32 (length es)) c.loop-numbered.out.items c.put_entry.new.out.items c.loop-numbered-test.true c.numbered-item.is c.loop-numbered.invariant.text c.in_ok-put_entry.ensures.text;
      entries = all_through IsEntry es i x c.loop-numbered-test.true c.numbered-item.is c.loop-numbered.invariant.entries c.in_ok-put_entry.ensures.entry;
    }

pub returns-clause-block : goal.returns-clause-block
returns-clause-block c =
    let entries = all_gone IsEntry c.entries-entries.result.now c.loop-numbered.numbered-index c.loop-numbered-test.false c.loop-numbered.invariant.entries in
    record { in_order = c.entries-entries.ensures.ordered; entries = rw c.entries-entries.ensures.value at entries }
