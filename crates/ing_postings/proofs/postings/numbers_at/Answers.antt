use Rattle.std.proofs.Common.{◌++◌, [], ◌∷◌, refl, sym, ap, ◌∙◌}
use Rattle.std.proofs.lemmas.Option.{slice_get_read}
use Rattle.ing_postings.proofs.Chosen.{numbers_more}
use Rattle.ing_postings.proofs.postings.numbers_at.Goals as goal

pub loop-place-preserved : goal.loop-place-preserved
loop-place-preserved c =
    let stream = c.index-streams-place.result in
    c.in_ok-push.ensures.items
    ∙ ap (λ t. c.loop-place.found.items ++ t.number ∷ []) (sym c.index-streams-place.is)
    ∙ ap (λ ns. ns ++ stream.number ∷ []) c.loop-place.invariant
    ∙ sym (numbers_more c.args.streams.now c.args.places.now c.loop-place.place-index stream c.loop-place-test.true (slice_get_read _ _ _ _ refl (c.requires c.loop-place.place-index 0 c.loop-place-test.true) c.index-streams-place.is))
