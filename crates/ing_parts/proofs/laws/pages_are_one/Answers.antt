use Rattle.ing_parts.proofs.PageLaws.{page_is_all, pages_join}
use Rattle.ing_parts.proofs.laws.pages_are_one.Goals as goal

pub returns-clause-next : goal.returns-clause-next
returns-clause-next c = λ q all page rest front last more. pages_join q last all page rest front more

pub returns-clause-last : goal.returns-clause-last
returns-clause-last c = page_is_all
