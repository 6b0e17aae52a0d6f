use Rattle.ing_rows.proofs.MarkLaws.{turns_marked, push_marked, seal_marked, order_marked, empty_marked, parts_marked}
use Rattle.ing_rows.proofs.laws.chunks_have_one_mark.Goals as goal

pub returns-clause-fresh : goal.returns-clause-fresh
returns-clause-fresh c = empty_marked

pub returns-clause-push : goal.returns-clause-push
returns-clause-push c = push_marked

pub returns-clause-turns : goal.returns-clause-turns
returns-clause-turns c = turns_marked

pub returns-clause-seals : goal.returns-clause-seals
returns-clause-seals c = seal_marked

pub returns-clause-order : goal.returns-clause-order
returns-clause-order c = order_marked

pub returns-clause-parts : goal.returns-clause-parts
returns-clause-parts c = parts_marked
