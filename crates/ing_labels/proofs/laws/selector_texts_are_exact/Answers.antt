use Rattle.ing_labels.proofs.Complete.{exact}
use Rattle.ing_labels.proofs.laws.selector_texts_are_exact.Goals as goal

pub returns : goal.returns
returns c = exact
