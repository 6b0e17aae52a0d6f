use Rattle.std.proofs.Common.{map, subst}
use Rattle.std.specs.Prelude.{IsPermutation}
use Rattle.ing_rows.specs.Rows.{StreamKey, rows_of}
use Rattle.ing_parts.specs.Parts.{found_among, found_at}
use Rattle.ctl_export.specs.Reads.{numbered_of}
use Rattle.ctl_export.proofs.ReadLaws.{if_some_is, rows_read}
use Rattle.ctl_export.proofs.reading.read_stream.Goals as goal

pub returns-clause-all : goal.returns-clause-all
returns-clause-all g c honest =
    let l = c.in-Some.listed in
    let rows = c.args.shard.now.state.rows in
    let s : StreamKey = record { tenant = l.tenant; name = l.name } in
    rows_read (found_among l.parts.items) (rows_of s rows) c.in_ok-entries-in-Some.entries.items
    (if_some_is (λ x. IsPermutation (found_among x.parts.items) (map found_at (rows_of (record { tenant = x.tenant; name = x.name }) rows))) c.in_ok-listed.field-0 l c.in-Some.is c.in_ok-listed.ensures.rows)
    (subst (λ ps. IsPermutation (map numbered_of (found_among ps)) c.in_ok-entries-in-Some.entries.items) c.deref.ensures.value (c.in_ok-entries-in-Some.ensures.all honest))
