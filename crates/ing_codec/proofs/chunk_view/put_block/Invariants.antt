use Rattle.std.proofs.Common.{◌≡◌, ◌++◌, length, take}
use Rattle.std.specs.Int.{w32, to_be_bytes}
use Rattle.std.specs.List.{flat_map, AllByRecursion}
use Rattle.ing_codec.specs.Versions.{written_version}
use Rattle.ing_codec.specs.ChunkObjects.{entry_text, IsEntry}
use Rattle.ing_codec.proofs.chunk_view.put_block.Given as goal

abbrev pub invariant-loop-numbered : goal.invariant-loop-numbered
invariant-loop-numbered l = record {
  text : l.out.items ≡ l.fn.out.items ++ (to_be_bytes w32 (length l.entries) ++ flat_map (entry_text written_version l.first) (take l.numbered-index l.entries));
  entries : AllByRecursion IsEntry (take l.numbered-index l.entries);
}
