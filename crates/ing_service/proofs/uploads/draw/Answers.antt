use Rattle.std.proofs.Common.{◌++◌, ◌∷◌, [], All, map, subst, sum_by, sym}
use Rattle.std.proofs.lemmas.List.Elements.{All-push}
use Rattle.std.proofs.lemmas.List.Sums.{sum_by_push}
use Rattle.ing_session.specs.Causes.{HaveCause}
use Rattle.ing_session.proofs.CausesLaws.{causes_more, goes_on}
use Rattle.ing_service.specs.Ends.{IsNoteOf, failed_by}
use Rattle.ing_service.specs.declared.uploads.Noted.{Noted}
use Rattle.ing_service.proofs.uploads.draw.Goals as goal

pub returns-then-is_err-clause-noted : goal.returns-then-is_err-clause-noted
returns-then-is_err-clause-noted g c =
    subst (All (λ n. IsNoteOf g.R.Receipt.bytes g.R.Receipt.name (map (λ b. b.now) c.args.chunks.now) n.place n.outcome)) (sym c.reserve.ensures.items) c.loop.invariant.noted

-- one more is noted
pub loop-preserved : goal.loop-preserved
loop-preserved g c =
    let failures = g.S.StoreEnd.failure_count in
    let Q : Noted _ → Type 0 = λ n. IsNoteOf g.R.Receipt.bytes g.R.Receipt.name (map (λ b. b.now) c.args.chunks.now) n.place n.outcome in
    let first = failures c.args.worker.now.end in
    let so_far = c.loop.worker.noted.items in
    let note = c.upload_at-note.result in
    let items = c.push_reserved.ensures.items in
    let before = c.reserve.ensures.items in
    record {
      noted = subst (All Q) (sym items) (All-push Q c.reserve.new.self.items note (subst (All Q) (sym before) c.loop.invariant.noted) c.upload_at-note.ensures.of);
      causes = subst (λ ns. HaveCause first (failures c.upload_at-note.new.end) (sum_by (λ n. failed_by n.outcome) ns)) (sym items)
          (subst (λ ns. HaveCause first (failures c.upload_at-note.new.end) (sum_by (λ n. failed_by n.outcome) (ns ++ note ∷ []))) (sym before)
          (subst (HaveCause first (failures c.upload_at-note.new.end)) (sym (sum_by_push (λ n. failed_by n.outcome) so_far note))
          (causes_more first (failures c.loop.worker.end) (failures c.upload_at-note.new.end) (sum_by (λ n. failed_by n.outcome) so_far) (failed_by note.outcome) c.loop.invariant.causes c.upload_at-note.ensures.cause)));
      end = goes_on g.S.StoreEnd.never_fails failures c.args.worker.now.end c.loop.worker.end c.upload_at-note.new.end c.loop.invariant.end c.upload_at-note.ensures.end;
    }

pub returns-then-is_err-clause-causes : goal.returns-then-is_err-clause-causes
returns-then-is_err-clause-causes g c =
    let failures = g.S.StoreEnd.failure_count in
    subst (λ ns. HaveCause (failures c.args.worker.now.end) (failures c.loop.worker.end) (sum_by (λ n. failed_by n.outcome) ns)) (sym c.reserve.ensures.items) c.loop.invariant.causes

pub returns-then-place-chunks-clause-causes : goal.returns-then-place-chunks-clause-causes
returns-then-place-chunks-clause-causes g c =
    let failures = g.S.StoreEnd.failure_count in
    subst (λ ns. HaveCause (failures c.args.worker.now.end) (failures c.loop.worker.end) (sum_by (λ n. failed_by n.outcome) ns)) (sym c.reserve.ensures.items) c.loop.invariant.causes
