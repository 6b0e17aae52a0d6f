use Rattle.std.proofs.Common.{ap, ◌∙◌}
use Rattle.ing_postings.specs.Streams.{numbers_of, selected}
use Rattle.ing_shard.specs.Streams.{listed_of}
use Rattle.ing_shard.proofs.ListedLaws.{if_ok_then, numbers_picked}
use Rattle.ing_shard.proofs.streams.Streams.select.Goals as goal

pub returns-clause-found : goal.returns-clause-found
returns-clause-found g c =
    let items = c.args.self.now.list.items in
    let ms = c.args.selector.now in
    let id = c.args.tenant.now in
    if_ok_then c.select.result _ _
    (λ found h picked picks.
    h
    ∙ ap (λ l. numbers_of (selected ms l)) (c.requires.posted c.as_str.result.now ∙ ap (λ t. listed_of t items) c.as_str.ensures.text)
    ∙ numbers_picked id ms picked items picks c.requires.labelled)
    c.select.ensures.found
