-- What contracts see of one stream of a shard.
use Rattle.std.specs.Prelude.{ℕ, List, Option}
use Rattle.ing_labels.specs.Labels.{LabelMap}
use Rattle.ing_rows.specs.declared.entry.Entry.{Entry}
use Rattle.ing_checkpoint.specs.Contents.{StreamContents}

-- whose it is, its labels, the greatest accepted stamp, the last accepted entry, and its chunks
pub record Stream : Type 0 where
  pub tenant : List ℕ
  pub labels : LabelMap
  pub greatest : ℕ
  pub last : Option Entry
  pub chunks : StreamContents
