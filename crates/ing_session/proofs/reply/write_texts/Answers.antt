use Rattle.std.proofs.Common.{map, append_assoc}
use Rattle.std.specs.Prelude.{string_bytes}
use Rattle.std.proofs.lemmas.Simd.{map-map}
use Rattle.serde_json.specs.Data.{string}
use Rattle.ing_session.specs.Views.{text_data}
use Rattle.ing_session.proofs.WritingLaws.{items_listed}
use Rattle.ing_session.proofs.reply.write_texts.Goals as goal

pub returns-clause-tokens : goal.returns-clause-tokens
returns-clause-tokens c = rw (c.in_ok-end_object.ensures.ok, c.in_ok-end_array.ensures.ok, c.in_ok-write_each_text.ensures.tokens, c.in_ok-begin_array.ensures.ok, c.in_ok-key.ensures.ok, c.in_ok-begin_object.ensures.ok, map-map string string_bytes c.args.texts.now, items_listed (map text_data c.args.texts.now)) (simp append_assoc)
