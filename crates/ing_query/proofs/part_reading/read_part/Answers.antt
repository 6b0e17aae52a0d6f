use Rattle.std.proofs.Common.{rules}
use Rattle.std.proofs.lemmas.List.Sorted.{IsNonDecreasingBy-from_sort_by_key}
use Rattle.ing_query.proofs.part_reading.read_part.Goals as goal

pub returns-clause-in_order : goal.returns-clause-in_order
returns-clause-in_order g c = IsNonDecreasingBy-from_sort_by_key (λ f. f.number) c.sort_unstable_by_key.new.self.items c.sort_unstable_by_key.ensures.sorted (search rules)
