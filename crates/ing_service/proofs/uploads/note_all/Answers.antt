use Rattle.std.proofs.Common.{◌∙◌, ◌+◌, ◌<◌, All, ap, arith, drop, get_or, length, subst, sum_by, sym}
use Rattle.std.proofs.Math.Seq.{map-set_same}
use Rattle.std.proofs.lemmas.List.{drop-set-lt, drop_more, length-set}
use Rattle.std.proofs.lemmas.List.Elements.{All-get_or}
use Rattle.std.proofs.lemmas.List.Sums.{sum_by_more}
use Rattle.ing_service.specs.Ends.{IsNoteOf, failed_by}
use Rattle.ing_service.proofs.UploadsLaws.{same_here}
use Rattle.ing_service.proofs.uploads.note_all.Goals as goal

pub note_each-requires : goal.note_each-requires
note_each-requires g c =
    let i = c.loop-worker.worker-index in
    let d = c.worker-item.result in
    let inv = c.loop-worker.invariant in
    let there = c.loop-worker-test.true in
    let here : i < length c.loop-worker.workers = omega (arith, there, inv.many) in
    let same = same_here c.loop-worker.workers c.args.workers.now i d inv.left here there in
    record {
      places = subst (λ n. All (λ x. x.place < n) (get_or c.loop-worker.workers i d).noted.items) (sym inv.len)
          (subst (λ w. All (λ n. n.place < length c.args.noted.now) w.noted.items) (sym same) (All-get_or (λ w. All (λ n. n.place < length c.args.noted.now) w.noted.items) c.args.workers.now i d there c.requires.places));
    }

-- the notes of one worker more are taken
pub loop-worker-preserved : goal.loop-worker-preserved
loop-worker-preserved g c =
    let bytes = g.R.Receipt.bytes in
    let name = g.R.Receipt.name in
    let i = c.loop-worker.worker-index in
    let d = c.worker-item.result in
    let inv = c.loop-worker.invariant in
    let workers = c.loop-worker.workers in
    let new = c.note_each.new.worker in
    let there = c.loop-worker-test.true in
    let here : i < length workers = omega (arith, there, inv.many) in
    let same = same_here workers c.args.workers.now i d inv.left here there in
    let more = sum_by_more (λ w. sum_by (λ n. failed_by n.outcome) w.noted.items) c.args.workers.now i d there in
    let this = ap (λ w. sum_by (λ n. failed_by n.outcome) w.noted.items) same in
    record {
      of = λ chunks all are.
          c.note_each.ensures.of chunks
          (subst (λ w. All (λ n. IsNoteOf bytes name chunks n.place n.outcome) w.noted.items) (sym same) (All-get_or (λ w. All (λ n. IsNoteOf bytes name chunks n.place n.outcome) w.noted.items) c.args.workers.now i d there all))
          (inv.of chunks all are);
      len = c.note_each.ensures.len ∙ inv.len;
      failed = omega (arith, inv.failed, c.note_each.ensures.failed, more, this);
      many = length-set workers i new ∙ inv.many;
      left = drop-set-lt (i + 1) workers i new (omega arith) ∙ ap (drop 1) (sym (drop_more workers i d here) ∙ inv.left ∙ drop_more c.args.workers.now i d there);
      ends = map-set_same (λ w. w.end) workers i new d c.note_each.ensures.end ∙ inv.ends;
    }
