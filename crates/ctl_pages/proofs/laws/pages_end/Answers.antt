use Rattle.ctl_pages.proofs.PageLaws.{pages_to_last}
use Rattle.ctl_pages.proofs.laws.pages_end.Goals as goal

pub returns : goal.returns
returns c = pages_to_last
