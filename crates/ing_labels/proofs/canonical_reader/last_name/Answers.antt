use Rattle.std.proofs.Common.{◌∙◌}
use Rattle.ing_labels.proofs.Rising.{last_text}
use Rattle.ing_labels.proofs.canonical_reader.last_name.Goals as goal

pub returns-in-Some : goal.returns-in-Some
returns-in-Some c =
    c.as_str.ensures.value ∙ last_text c.args.read.now.entries c.in-Some.name.now c.in-Some.field-0-1.now c.in-Some.ensures.last
