use Rattle.std.proofs.Common.{filter}
use Rattle.std.proofs.lemmas.List.Sorted.{IsPermutation-map}
use Rattle.ing_parts.specs.Parts.{found_at}
use Rattle.ing_parts.proofs.Reordered.{filter_reordered}
use Rattle.ing_parts.proofs.laws.found_rows_have_no_order.Goals as goal

pub returns : goal.returns
returns c = λ test rows others same. IsPermutation-map found_at (filter test rows) (filter test others) (filter_reordered test rows others same)
