use Rattle.std.proofs.Common.{◌≡◌, ◌++◌, map}
use Rattle.serde_json.specs.View.{members_view}
use Rattle.ctl_explain.specs.StreamNotes as specs
use Rattle.ctl_explain.proofs.stream_notes.add_strangers.Given as goal

-- the names so far, and those of the members that are left, are those of all
abbrev pub invariant-loop-name : goal.invariant-loop-name
invariant-loop-name l =
    map (λ note. (note.stream, note.name.now)) l.notes.items ++ specs.strangers l.at (members_view l.name-iterator)
    ≡ map (λ note. (note.stream, note.name.now)) l.initial.notes.items ++ specs.strangers l.at (members_view l.members.entries)
