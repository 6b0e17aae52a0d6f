use Rattle.std.proofs.Common.{set}
use Rattle.std.proofs.lemmas.List.Sorted.{IsPermutation-trans}
use Rattle.ing_parts.specs.Answers.{precedes}
use Rattle.ing_parts.proofs.HeapLaws.{topped}
use Rattle.ing_parts.proofs.best.replace_last.Goals as goal

pub sink-leaf-requires-clause-rest : goal.sink-leaf-requires-clause-rest
sink-leaf-requires-clause-rest c = topped (precedes c.args.order) c.args.held.now c.args.found c.requires.heap

pub returns-clause-same : goal.returns-clause-same
returns-clause-same c = IsPermutation-trans (set c.args.held.now 0 c.args.found) c.sink-leaf.new.held c.rise.new.held c.sink-leaf.ensures.same c.rise.ensures.same
