use Rattle.ctl_pages.proofs.PageLaws.{all_pages}
use Rattle.ctl_pages.proofs.laws.pages_have_all.Goals as goal

pub returns : goal.returns
returns c = all_pages
