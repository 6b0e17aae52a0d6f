use Rattle.std.proofs.Common.{filter, map, subst}
use Rattle.ing_rows.specs.Rows.{StreamKey}
use Rattle.ing_parts.specs.Parts.{found_among}
use Rattle.ing_diary.specs.Fronts.{is_from}
use Rattle.ing_diary.specs.Notes.{AreRead, has_number, numbered_of}
use Rattle.ing_diary.proofs.ReadLaws.{stream_noted}
use Rattle.ing_diary.proofs.reading.read_listed.Goals as goal

pub returns-clause-all : goal.returns-clause-all
returns-clause-all g c =
    let s : StreamKey = record { tenant = c.args.listed.tenant; name = c.args.listed.name } in
    let es = c.in_ok-entries.entries.items in
    stream_noted g.S.StoreEnd.is_honest s c.args.front (found_among c.args.listed.parts.items) es
    (subst (λ ps. AreRead has_number g.S.StoreEnd.is_honest (filter (is_from c.args.front) (map numbered_of (found_among ps))) es) c.deref.ensures.value c.in_ok-entries.ensures.all)
