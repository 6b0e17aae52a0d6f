use Rattle.std.proofs.Common.{◌≡◌, ◌∙◌, ◌+◌, ◌<◌, ◌++◌, ◌∷◌, [], ap, arith, get_or, length, map, subst, sum_by, sym, take}
use Rattle.std.specs.Prelude.{IfSome, IfOk}
use Rattle.std.proofs.lemmas.List.{get_or-map, length-map, length-set, take_more}
use Rattle.std.proofs.lemmas.List.Elements.{All-get_or}
use Rattle.std.proofs.lemmas.List.Sums.{sum_by_push, sum_by-set}
use Rattle.ing_session.proofs.CausesLaws.{causes_more, goes_on}
use Rattle.ing_service.specs.Ends.{AreUploadsOf, IsShort, IsUploadOf, failed_if, lost_by}
use Rattle.ing_service.proofs.UploadsLaws.{zip_at, zip_push, zip_set}
use Rattle.ing_service.proofs.uploads.upload_rest.Goals as goal

pub outcome_of-requires-clause-short : goal.outcome_of-requires-clause-short
outcome_of-requires-clause-short g c =
    subst (λ b. IsShort b.now) (sym c.index-chunks-place.is) (All-get_or (λ b. IsShort b.now) c.args.chunks.now c.loop-place.place c.index-chunks-place.result c.loop-place-test.true c.requires.short)

pub outcome_of-requires-clause-of : goal.outcome_of-requires-clause-of
outcome_of-requires-clause-of g c =
    let bytes = g.R.Receipt.bytes in
    let name = g.R.Receipt.name in
    let chunks = c.args.chunks.now in
    let noted = c.loop-place.noted in
    let i = c.loop-place.place in
    let b = c.index-chunks-place.result in
    let e = c.index-noted-place.result in
    let here : i < length noted = omega (arith, c.loop-place-test.true, c.loop-place.invariant.many) in
    let at : get_or (map (λ b. b.now) chunks) i b.now ≡ b.now = get_or-map (λ b. b.now) chunks i b b.now c.loop-place-test.true ∙ ap (λ x. x.now) (sym c.index-chunks-place.is) in
    subst (λ o. IfSome o (λ outcome. IfOk outcome (IsUploadOf bytes name b.now))) (sym c.take.ensures.value)
    (subst (λ f. IfSome (get_or noted i e) (λ outcome. IfOk outcome (IsUploadOf bytes name f))) at
    (zip_at (λ f noted. IfSome noted (λ outcome. IfOk outcome (IsUploadOf bytes name f))) (map (λ b. b.now) chunks) noted i b.now e here c.loop-place.invariant.noted))

-- one chunk more has its upload
pub loop-place-preserved : goal.loop-place-preserved
loop-place-preserved g c =
    let failures = g.S.StoreEnd.failure_count in
    let bytes = g.R.Receipt.bytes in
    let name = g.R.Receipt.name in
    let inv = c.loop-place.invariant in
    let chunks = c.args.chunks.now in
    let flown = map (λ b. b.now) chunks in
    let noted = c.loop-place.noted in
    let i = c.loop-place.place in
    let b = c.index-chunks-place.result in
    let e = c.index-noted-place.result in
    let done = c.in_ok-done.done in
    let here : i < length noted = omega (arith, c.loop-place-test.true, inv.many) in
    let there : i < length flown = subst (λ n. i < n) (sym (length-map chunks (λ b. b.now))) c.loop-place-test.true in
    let at : get_or flown i b.now ≡ b.now = get_or-map (λ b. b.now) chunks i b b.now c.loop-place-test.true ∙ ap (λ x. x.now) (sym c.index-chunks-place.is) in
    let pushed = c.in_ok-push.ensures.items in
    let so_far = inv.causes in
    let this = c.in_ok-done.ensures.causes in
    let more = ap (sum_by lost_by) pushed ∙ sum_by_push lost_by c.loop-place.all.items done in
    let less = sum_by-set failed_if noted i c.take.new.self e here in
    let none = ap failed_if c.take.ensures.after in
    let taken = ap failed_if c.take.ensures.value in
    record {
      of = subst (AreUploadsOf bytes name (take (i + 1) flown)) (sym pushed)
          (subst (λ l. AreUploadsOf bytes name l (c.loop-place.all.items ++ done ∷ [])) (sym (take_more flown i b.now there))
          (zip_push (λ f upload. IfSome upload (IsUploadOf bytes name f)) (take i flown) c.loop-place.all.items (get_or flown i b.now) done inv.of
          (subst (λ f. IfSome done (IsUploadOf bytes name f)) (sym at) c.in_ok-done.ensures.of)));
      many = length-set noted i c.take.new.self ∙ inv.many;
      noted = zip_set (λ f noted. IfSome noted (λ outcome. IfOk outcome (IsUploadOf bytes name f))) flown noted i c.take.new.self here inv.noted
          (λ d. subst (λ o. IfSome o (λ outcome. IfOk outcome (IsUploadOf bytes name (get_or flown i d)))) (sym c.take.ensures.after) tt);
      causes = (so_far.0 + this.0, omega (arith, so_far.1, this.1, more, less, none, taken), causes_more (failures c.args.own.now) (failures c.loop-place.own) (failures c.outcome_of.new.own) so_far.0 this.0 so_far.2 this.2);
      end = goes_on g.S.StoreEnd.never_fails failures c.args.own.now c.loop-place.own c.outcome_of.new.own inv.end c.in_ok-done.ensures.end;
    }
