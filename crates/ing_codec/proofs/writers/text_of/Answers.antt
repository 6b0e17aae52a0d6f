use Rattle.std.proofs.Common.{ap, ◌∙◌, sym}
use Rattle.std.specs.Str.{is_utf8}
use Rattle.std.proofs.lemmas.Str.{is_utf8-from_IsUtf8}
use Rattle.ing_codec.proofs.writers.text_of.Goals as goal

pub returns-clause-utf8 : goal.returns-clause-utf8
returns-clause-utf8 c = ap is_utf8 (sym c.as_str.ensures) ∙ is_utf8-from_IsUtf8 c.as_str.result.now c.as_str.utf8
