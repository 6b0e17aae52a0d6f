use Rattle.std.proofs.Common.{ap, ◌∙◌}
use Rattle.serde_json.specs.Data.{put}
use Rattle.serde_json.specs.View.{members_view}
use Rattle.ing_commands.specs.PushCommands.{raw_labels}
use Rattle.ctl_feed.proofs.LabelLaws.{put_read}
use Rattle.ctl_feed.proofs.labels.put_label.Goals as goal

pub returns : goal.returns
returns c =
    ap raw_labels (c.in_ok-put.ensures.ok ∙ ap (λ d. put c.args.name.now d (members_view c.args.members.now.entries)) c.in_ok-try_from_str.ensures)
    ∙ put_read c.args.name.now c.args.value.now (members_view c.args.members.now.entries) c.requires
