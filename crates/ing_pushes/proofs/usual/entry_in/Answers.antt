use Rattle.std.proofs.Common.{false, refl, sym, ap, ◌∙◌}
use Rattle.serde_json.specs.Data.{string, array, no_items, item}
use Rattle.serde_json.specs.Read.{of_json}
use Rattle.ing_pushes.proofs.Entries.{spelled}
use Rattle.ing_pushes.proofs.usual.entry_in.Goals as goal

pub returns : goal.returns
returns c =
    let texts = c.in-Some.texts in
    let stamp = spelled _ _ _ (sym c.of_text.ensures ∙ c.in-Ok.is) in
    record {
      said = array (item (string texts.first.now) (item (string texts.second.now) no_items));
      raw = record { stamp = texts.first.now; line = texts.second.now; has_metadata = false };
      read = ap of_json c.in-Some.ensures;
      shape = refl;
      bare = refl;
      timed = rw stamp refl;
      entry = rw (stamp, c.in_ok-line.ensures) refl;
    }
