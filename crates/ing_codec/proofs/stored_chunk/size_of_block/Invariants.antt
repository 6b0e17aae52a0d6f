use Rattle.std.proofs.Common.{◌≡◌, ◌*◌, ◌≤◌, ◌^◌, take}
use Rattle.ing_chunk.specs.Chunks.{size_of_entries}
use Rattle.ing_codec.proofs.stored_chunk.size_of_block.Given as goal

abbrev pub invariant-loop-numbered : goal.invariant-loop-numbered
invariant-loop-numbered l = record {
  value : l.size ≡ size_of_entries (take l.numbered-index l.entries);
  small : l.size ≤ l.numbered-index * 2 ^ 65;
}
