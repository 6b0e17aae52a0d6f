use Rattle.std.proofs.Common.{◌≡◌, drop, map, true}
use Rattle.std.specs.Prelude.{is_ok}
use Rattle.serde_json.specs.View.{members_view}
use Rattle.ing_commands.specs.PushCommands.{raw_labels}
use Rattle.ctl_feed.specs.Labels.{labels_of, members_labels, with_arguments}
use Rattle.ctl_feed.proofs.labels.Labels.of_arguments.Given as goal

-- the labels so far, with those of the arguments that are left, are those of all
abbrev pub invariant-loop-at : goal.invariant-loop-at
invariant-loop-at l = record {
  texts : is_ok (raw_labels (members_view l.members.entries)) ≡ true;
  labels : with_arguments l.at (members_labels (members_view l.members.entries)) (map (λ a. a.now) (drop l.at l.arguments)) ≡ labels_of (map (λ a. a.now) l.arguments);
}
