use Rattle.std.proofs.Common.{◌≡◌, ◌++◌, true}
use Rattle.std.specs.Prelude.{is_ok}
use Rattle.serde_json.specs.View.{members_view}
use Rattle.ing_commands.specs.PushCommands.{raw_labels}
use Rattle.ctl_feed.specs.Labels.{members_labels}
use Rattle.ctl_feed.proofs.labels.Labels.of_canonical.Given as goal

-- the labels so far, and those that are left, are all
abbrev pub invariant-loop-name : goal.invariant-loop-name
invariant-loop-name l = record {
  can_next : (goal.iterator-loop-name).can_next l.name-iterator;
  is_finite : (goal.iterator-loop-name).is_finite l.name-iterator;
  texts : is_ok (raw_labels (members_view l.members.entries)) ≡ true;
  labels : members_labels (members_view l.members.entries) ++ l.name-iterator ≡ l.initial.name-iterator;
}
