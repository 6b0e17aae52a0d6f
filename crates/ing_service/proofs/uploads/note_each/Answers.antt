use Rattle.std.proofs.Common.{◌∙◌, ◌<◌, Some, ap, arith, length, subst, sum_by, sym}
use Rattle.std.specs.Prelude.{IfSome, IfOk}
use Rattle.std.proofs.lemmas.List.{length-set}
use Rattle.std.proofs.lemmas.List.Elements.{All-pop}
use Rattle.std.proofs.lemmas.List.Sums.{sum_by_push, sum_by-set}
use Rattle.ing_service.specs.Ends.{AreNotedOf, IsNoteOf, IsUploadOf, failed_by, failed_if}
use Rattle.ing_service.proofs.UploadsLaws.{zip_set}
use Rattle.ing_service.proofs.uploads.note_each.Goals as goal

pub note_one-requires : goal.note_one-requires
note_one-requires g c =
    let out = All-pop (λ n. n.place < length c.args.noted.now) c.loop-note.worker.noted.items c.pop.new.self.items (Some c.in-Some.note) c.in-Some.ensures.items c.loop-note.invariant.places in
    omega (arith, out.1, c.loop-note.invariant.len)

-- one note more is taken
pub loop-note-preserved : goal.loop-note-preserved
loop-note-preserved g c =
    let bytes = g.R.Receipt.bytes in
    let name = g.R.Receipt.name in
    let inv = c.loop-note.invariant in
    let x = c.in-Some.note in
    let left = c.pop.new.self.items in
    let popped = c.in-Some.ensures.items in
    let placed = All-pop (λ n. n.place < length c.args.noted.now) c.loop-note.worker.noted.items left (Some x) popped inv.places in
    let here : x.place < length c.loop-note.noted = omega (arith, placed.1, inv.len) in
    let less = ap (sum_by (λ n. failed_by n.outcome)) popped ∙ sum_by_push (λ n. failed_by n.outcome) left x in
    let taken = ap (sum_by failed_if) c.note_one.ensures in
    let more = sum_by-set failed_if c.loop-note.noted x.place (Some x.outcome) (Some x.outcome) here in
    record {
      of = λ chunks all are.
          let so_far = inv.of chunks all are in
          let out = All-pop (λ n. IsNoteOf bytes name chunks n.place n.outcome) c.loop-note.worker.noted.items left (Some x) popped so_far.0 in (
            out.0,
            subst (AreNotedOf bytes name chunks) (sym c.note_one.ensures)
                (zip_set (λ f noted. IfSome noted (λ outcome. IfOk outcome (IsUploadOf bytes name f))) chunks c.loop-note.noted x.place (Some x.outcome) here so_far.1 out.1.1),
          );
      end = inv.end;
      places = placed.0;
      len = ap length c.note_one.ensures ∙ length-set c.loop-note.noted x.place (Some x.outcome) ∙ inv.len;
      failed = omega (arith, inv.failed, less, taken, more);
    }
