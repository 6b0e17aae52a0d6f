-- What the bytes of a file are, and what is shown of them (own).
use Rattle.std.specs.Prelude.{◌≡◌, ◌≢◌, ℕ, codes, List, map, nat_eq, if◌then◌else◌, Result, Ok, Err}
use Rattle.std.specs.List.{starts_with}
use Rattle.ing_codec.specs.declared.fault.CodecFault.TheVariants as codec
use Rattle.ing_codec.specs.ChunkReading.{read_chunk}
use Rattle.ing_codec.specs.RowObjects.{read_row}
use Rattle.ing_records.specs.Frames.{IsCut}
use Rattle.ing_logged.specs.LogFaults.{IsDamage}
use Rattle.ing_logged.specs.LogTexts.{Says, record_of}
use Rattle.ctl_show.specs.declared.shown.Kind.{Kind}
use Rattle.ctl_show.specs.declared.shown.Kind.TheVariants as kind
use Rattle.ctl_show.specs.declared.shown.ShowFault.{ShowFault}
use Rattle.ctl_show.specs.declared.shown.ShowFault.TheVariants as fault
use Rattle.ctl_show.specs.declared.shown.Shown.{Shown}
use Rattle.ctl_show.specs.declared.shown.Shown.TheVariants as shown

-- by the letters that they begin with
abbrev pub kind_of : List ℕ → Kind
kind_of bytes =
    if starts_with nat_eq bytes (codes "INGC") then kind.Chunk
    else if starts_with nat_eq bytes (codes "INGR") then kind.Row
    else kind.Log

-- of a kind, what is read, or its first fault
abbrev pub Shows : List ℕ → Kind → Result Shown ShowFault → Type 0
Shows bytes kind.Chunk (Ok (shown.Chunk chunk)) = read_chunk bytes ≡ Ok chunk
Shows bytes kind.Chunk (Err (fault.Object why)) = why ≢ codec.NoMemory → read_chunk bytes ≡ Err why
Shows bytes kind.Row (Ok (shown.Row row)) = read_row bytes ≡ Ok row
Shows bytes kind.Row (Err (fault.Object why)) = why ≢ codec.NoMemory → read_row bytes ≡ Err why
Shows bytes kind.Log (Ok (shown.Log found)) = Says bytes (map record_of found.whole.items) found.rest.now × IsCut found.rest.now
Shows bytes kind.Log (Err (fault.Log why)) = IsDamage bytes why
Shows bytes _ _ = ⊥
