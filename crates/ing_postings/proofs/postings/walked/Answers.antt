use Rattle.std.proofs.Common.{◌≡◌, ◌+◌, Bool, get_or, false, true, refl, sym, ap, ◌∙◌, append-nil, arith}
use Rattle.std.proofs.lemmas.Grind.{common_steps}
use Rattle.ing_labels.specs.Selectors.{agrees}
use Rattle.ing_postings.specs.Streams.{is_in}
use Rattle.ing_postings.proofs.Walked.{SameFrom, same_more, kept_more}
use Rattle.ing_postings.proofs.postings.walked.Goals as goal
use Rattle.ing_postings.proofs.postings.walked.Goals.{then-picks+in_ok-push, else-picks}

pub loop-place-preserved : goal.loop-place-preserved
loop-place-preserved c =
    let i = c.loop-place.place-index in
    let places = c.args.places.now in
    let list = c.args.list.now in
    let rest = c.from_place-rest.result.now in
    let same : SameFrom places i list rest = same_more places list c.loop-place.rest.now rest i _ c.requires.places c.loop-place-test.true refl c.from_place-rest.ensures.rest c.loop-place.invariant.same in
    let next : SameFrom places (i + 1) list rest = λ k from h. same k (omega arith) h in
    let test : c.picks.result ≡ agrees c.args.op (is_in (get_or places i 0) list) = c.picks.ensures ∙ ap (agrees c.args.op) (c.begins_with-is_listed.ensures ∙ same i (omega arith) c.loop-place-test.true) in
    let more = λ (b : Bool) (is : c.picks.result ≡ b).
    kept_more (λ p. agrees c.args.op (is_in p list)) places c.loop-place.kept.items i (get_or places i 0) b c.loop-place-test.true refl (sym is ∙ test) c.loop-place.invariant.kept in
    elim c.if-picks.branch [
      | then-picks+in_ok-push w ↦ record { kept = grind (arith, common_steps, more true w.if-picks.true); rising = c.from_place-rest.ensures.rising; same = next }
      | else-picks w ↦ record { kept = grind (arith, common_steps, more false w.if-picks.false, append-nil); rising = c.from_place-rest.ensures.rising; same = next }
    ]
