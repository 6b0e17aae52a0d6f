use Rattle.std.proofs.Common.{◌≡◌, ◌++◌, map, drop}
use Rattle.serde_json.specs.View.{items_view}
use Rattle.ctl_explain.specs.StreamNotes as specs
use Rattle.ctl_explain.proofs.stream_notes.stream_notes_of.Given as goal

-- the notes so far, and those of the streams that are left, are all
abbrev pub invariant-loop-at : goal.invariant-loop-at
invariant-loop-at l =
    map (λ note. (note.stream, note.name.now)) l.notes.items ++ specs.strangers_from l.at (items_view (drop l.at l.list))
    ≡ specs.strangers_from 0 (items_view l.list)
