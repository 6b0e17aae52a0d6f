use Rattle.std.proofs.Common.{ap, ◌∙◌, filter, map}
use Rattle.ing_parts.specs.Parts.{entries_in, found_of}
use Rattle.ing_diary.specs.Fronts.{is_from}
use Rattle.ing_diary.specs.Notes.{numbered_of}
use Rattle.ing_diary.proofs.ReadLaws.{stored_before}
use Rattle.ing_diary.proofs.reading.is_before.Goals as goal

pub returns-in-Stored : goal.returns-in-Stored
returns-in-Stored g c told =
    let part = c.args.part.now in
    ap (λ source. filter (is_from c.args.front) (map numbered_of (map (found_of part.name) (entries_in source)))) c.in-Stored.is
    ∙ stored_before c.args.front part.name c.in-Stored.listing (c.ends_before.ensures told)
