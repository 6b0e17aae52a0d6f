use Rattle.std.proofs.Common.{◌∙◌, ◌∷◌, ap, length, sym, subst}
use Rattle.std.proofs.lemmas.Result.{IfOk-weaker}
use Rattle.ing_commands.specs.Views.{push_view}
use Rattle.ing_lanes.specs.ByLane.{told_by}
use Rattle.ing_lanes.specs.Drafts.{MayLast, PushesEach}
use Rattle.ing_lanes.proofs.DraftLaws.{no_marks_last}
use Rattle.ing_lanes.proofs.lane.Lane.push_all.Goals as goal

pub returns-clause-pushed : goal.returns-clause-pushed
returns-clause-pushed g c =
    let logs = g.N.NodeName.has_logs in
    let lasting = c.deref.result.now in
    let may : MayLast logs lasting =
    no_marks_last logs lasting (λ none. ap length c.deref.ensures.value ∙ sym c.sync.new.marks.ok.0 ∙ c.sync.ensures ∙ c.draft_lines-drafts.ensures.marks ∙ c.in_ok-marks.ensures.none none) in
    let drafted = c.in_ok-drafts.ensures.pushed in
    IfOk-weaker c.told_each.result _ _
    (λ replies told. record {
      others = drafted.others;
      taken = drafted.taken;
      each = subst (PushesEach logs g.N.NodeName.settings (push_view c.args.first ∷ drafted.others) (told_by c.args.self.now.pusher) (told_by c.draft_lines-drafts.new.self.pusher)) (sym told) (drafted.each lasting may);
    })
    c.told_each.ensures
