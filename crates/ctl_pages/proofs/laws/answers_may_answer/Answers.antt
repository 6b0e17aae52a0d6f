use Rattle.ctl_pages.proofs.AnswerLaws.{answer_may}
use Rattle.ctl_pages.proofs.laws.answers_may_answer.Goals as goal

pub returns : goal.returns
returns c = answer_may
