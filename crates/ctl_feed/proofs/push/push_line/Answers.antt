use Rattle.serde_json.specs.View.{view}
use Rattle.ctl_feed.proofs.Written.{written_says, written_is}
use Rattle.ctl_feed.proofs.push.push_line.Goals as goal

pub returns-clause-says : goal.returns-clause-says
returns-clause-says c =
    let value = c.in_ok-push_value in
    let written = c.to_vec.ensures in
    written_says (λ line. line.items) c.args.tenant.now c.args.now c.args.labels.now c.args.entries.items c.to_vec.result (view value.field-0)
    value.ensures.value written.compact written.utf8 written.reads_back value.ensures.tenant value.ensures.now value.ensures.stamps

pub returns-clause-text : goal.returns-clause-text
returns-clause-text c =
    let value = c.in_ok-push_value in
    written_is (λ line. line.items) c.args.tenant.now c.args.now c.args.labels.now c.args.entries.items c.to_vec.result (view value.field-0) value.ensures.value c.to_vec.ensures.text
