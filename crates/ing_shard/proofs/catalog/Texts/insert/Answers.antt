use Rattle.std.proofs.Common.{◌||◌, ◌∙◌, ap, bytes_eq, sym}
use Rattle.std.specs.Prelude.{string_bytes}
use Rattle.ing_shard.specs.Catalog.{is_among}
use Rattle.ing_shard.proofs.TellLaws.{among_more, among_same, among_set}
use Rattle.ing_shard.proofs.catalog.Texts.insert.Goals as goal

-- it is there
pub returns-then-contains : goal.returns-then-contains
returns-then-contains c = λ t.
    let text = c.args.text.now in
    among_same text t c.args.self.now (ap (is_among text) (sym c.self.view_is) ∙ among_set text c.self.inside.set ∙ sym c.contains.ensures ∙ c.if-contains.true)

pub returns : goal.returns
returns c = λ t.
    among_more (string_bytes c.in_ok-from_str.field-0) t c.self.inside.set c.insert.new.self c.in_ok-insert.ensures.updates
    ∙ (λ i. bytes_eq (c.in_ok-from_str.ensures.ok i) t || is_among t (c.self.view_is i))
