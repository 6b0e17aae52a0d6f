use Rattle.std.proofs.Common.{ap, ◌∙◌}
use Rattle.serde_json.specs.View.{view}
use Rattle.ctl_feed.specs.Labels.{labels_data, labels_in, labels_read}
use Rattle.ctl_feed.proofs.ReadBack.{object_is, read_is}
use Rattle.ctl_feed.proofs.labels.Labels.object.Goals as goal

pub returns : goal.returns
returns c =
    let found = view c.self.inside.object in
    object_is found (labels_in found) (read_is (labels_read found) c.self.invariant) ∙ ap labels_data c.self.view_is
