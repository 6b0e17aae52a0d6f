use Rattle.std.proofs.Common.{◌≡◌, ◌++◌, drop}
use Rattle.ing_diary.specs.Notes.{notes_of}
use Rattle.ing_diary.proofs.compare.add_refs.Given as goal

-- those that are left do the rest
abbrev pub invariant-loop-numbered : goal.invariant-loop-numbered
invariant-loop-numbered l =
    l.notes.items ++ notes_of (record { tenant = l.tenant; name = l.name }) (drop l.numbered-index l.entries)
    ≡ l.initial.notes.items ++ notes_of (record { tenant = l.tenant; name = l.name }) l.entries
