use Rattle.std.proofs.Common.{◌≡◌, ◌++◌, map}
use Rattle.serde_json.specs.View.{members_view}
use Rattle.ctl_explain.specs.Notes as specs
use Rattle.ctl_explain.proofs.notes.strangers.Given as goal

-- the names so far, and those of the members that are left, are those of all
abbrev pub invariant-loop-name : goal.invariant-loop-name
invariant-loop-name l =
    map (λ name. name.now) l.names.items ++ specs.strangers l.cmd (members_view l.name-iterator)
    ≡ specs.strangers l.cmd (members_view l.members.entries)
