use Rattle.std.proofs.Common.{arith}
use Rattle.ctl_feed.proofs.LabelLaws.{label_split}
use Rattle.ctl_feed.proofs.labels.label_of.Goals as goal

pub returns : goal.returns
returns c =
    rw c.ok_or.ensures.value (label_split c.args.at c.args.argument.now c.split_once.result (c.split_once.ensures.byte (omega arith) (λ w o h. h)))
