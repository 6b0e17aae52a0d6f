use Rattle.std.proofs.Common.{◌∙◌, ap, arith, length, map, subst, sum_by, sym}
use Rattle.std.proofs.lemmas.List.{length-map}
use Rattle.ing_session.specs.Causes.{HaveCause}
use Rattle.ing_service.specs.Ends.{failed_by, failed_in}
use Rattle.ing_service.proofs.EndsLaws.{all_causes, all_go_on, ends_go_on, fewer_causes, same_sum}
use Rattle.ing_service.proofs.uploads.upload_by.Goals as goal

pub note_all-requires : goal.note_all-requires
note_all-requires g c =
    let all = length-map c.args.chunks.now (λ b. b.now) in
    record {
      places = λ i w lt k n within.
          let said = c.draw_each.ensures.noted i w (omega (arith, lt, c.draw_each.ensures.len)) k n within in
          omega (arith, said.0, all, c.requires.many);
    }

pub returns-clause-of : goal.returns-clause-of
returns-clause-of g c =
    c.note_all.ensures.of (map (λ b. b.now) c.args.chunks.now) (λ i w lt. c.draw_each.ensures.noted i w (omega (arith, lt, c.draw_each.ensures.len))) c.requires.of

pub returns-clause-causes : goal.returns-clause-causes
returns-clause-causes g c =
    let count = g.S.StoreEnd.failure_count in
    let olds = c.args.workers.now in
    let mids = c.draw_each.new.workers in
    let news = c.note_all.new.workers in
    let all = all_causes (λ w. count w.end) (λ w. sum_by (λ n. failed_by n.outcome) w.noted.items) olds mids c.draw_each.ensures.len c.draw_each.ensures.causes in
    subst (λ n. HaveCause (sum_by (λ w. count w.end) olds) n (failed_in c.note_all.new.noted)) (sym (same_sum (λ w. w.end) g.S.StoreEnd.never_fails count mids news c.note_all.ensures.ends))
    (fewer_causes _ _ _ _ (omega (arith, c.note_all.ensures.failed, c.requires.failed)) all)

pub returns-clause-len : goal.returns-clause-len
returns-clause-len g c =
    sym (length-map c.note_all.new.workers (λ w. w.end)) ∙ ap length c.note_all.ensures.ends ∙ length-map c.draw_each.new.workers (λ w. w.end) ∙ c.draw_each.ensures.len

pub returns-clause-end : goal.returns-clause-end
returns-clause-end g c =
    let count = g.S.StoreEnd.failure_count in
    let never = g.S.StoreEnd.never_fails in
    ends_go_on (λ w. w.end) never count c.args.workers.now c.draw_each.new.workers c.note_all.new.workers c.note_all.ensures.ends
    (all_go_on (λ w. never w.end) (λ w. count w.end) c.args.workers.now c.draw_each.new.workers c.draw_each.ensures.len c.draw_each.ensures.ends)
