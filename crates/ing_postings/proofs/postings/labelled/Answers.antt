use Rattle.std.proofs.Common.{◌≡◌, Bool, false, true, refl, sym, ap, ◌∙◌, append-nil, arith}
use Rattle.std.specs.Option.{option_map_or}
use Rattle.std.proofs.lemmas.Option.{slice_get_read}
use Rattle.std.proofs.lemmas.Grind.{common_steps}
use Rattle.ing_labels.specs.Selectors.{match_holds}
use Rattle.ing_postings.specs.Streams.{picks_at}
use Rattle.ing_postings.proofs.Walked.{kept_more}
use Rattle.ing_postings.proofs.postings.labelled.Goals as goal
use Rattle.ing_postings.proofs.postings.labelled.Goals.{then-holds+in_ok-push, else-holds}

pub loop-place-preserved : goal.loop-place-preserved
loop-place-preserved c =
    let m = c.args.matcher.now in
    let read = slice_get_read _ _ _ _ refl (c.requires c.loop-place.place-index 0 c.loop-place-test.true) c.index-streams-place.is in
    let more = λ (b : Bool) (is : c.holds.result ≡ b).
    kept_more (picks_at c.args.streams.now m) c.args.places.now c.loop-place.kept.items c.loop-place.place-index _ b c.loop-place-test.true refl (sym is ∙ c.holds.ensures ∙ ap (λ s. match_holds s.labels m) (sym c.index-streams-place.is) ∙ sym (ap (λ o. option_map_or (λ s. match_holds s.labels m) o false) read)) c.loop-place.invariant in
    elim c.if-holds.branch [
      | then-holds+in_ok-push w ↦ grind (arith, common_steps, more true w.if-holds.true)
      | else-holds w ↦ grind (arith, common_steps, more false w.if-holds.false, append-nil)
    ]
