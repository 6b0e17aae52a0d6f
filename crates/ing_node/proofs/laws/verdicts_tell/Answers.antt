use Rattle.std.proofs.Common.{List, sym, subst}
use Rattle.ing_rows.specs.declared.verdict.Verdict.{Verdict}
use Rattle.ing_node.specs.Pushes.{AreTold}
use Rattle.ing_node.proofs.VerdictLaws.{all_told, told_count}
use Rattle.ing_node.proofs.laws.verdicts_tell.Goals as goal

pub returns-clause-each : goal.returns-clause-each
returns-clause-each c rules s now es vs judged = subst (λ (ws : List Verdict). AreTold rules es ws) (sym judged.1) (all_told rules s now es judged.0)

pub returns-clause-count : goal.returns-clause-count
returns-clause-count c = told_count
