use Rattle.std.proofs.Common.{◌∙◌, ap, length, map, refl, sym, subst}
use Rattle.ing_commands.specs.Views.{push_view}
use Rattle.ing_lanes.specs.ByLane.{PushesStreams, told_by}
use Rattle.ing_lanes.specs.Drafts.{MayLast}
use Rattle.ing_session.specs.Views.{stream_data}
use Rattle.ing_lanes.proofs.DraftLaws.{no_marks_last}
use Rattle.ing_lanes.proofs.LedgerLaws.{streams_from}
use Rattle.ing_lanes.proofs.lane.Lane.push.Goals as goal

pub returns-clause-pushed : goal.returns-clause-pushed
returns-clause-pushed g c = λ told same.
    let logs = g.N.NodeName.has_logs in
    let said = push_view c.args.push in
    let lasting = c.deref.result.now in
    let may : MayLast logs lasting =
    no_marks_last logs lasting (λ none. ap length c.deref.ensures.value ∙ sym c.sync.new.marks.ok.0 ∙ c.sync.ensures ∙ c.draft_streams-drafts.ensures.marks ∙ c.in_ok-marks.ensures.none none) in
    let replies = map stream_data c.in_ok-told.field-0.items in
    let drafted = c.in_ok-drafts.ensures.pushed lasting may in
    let pushed = subst (λ rs. PushesStreams logs g.N.NodeName.settings said.tenant said.now said.streams rs (told_by c.args.self.now.pusher) (told_by c.draft_streams-drafts.new.self.pusher)) (sym c.in_ok-told.ensures) drafted in
    record {
      replies = replies;
      streams = streams_from logs g.N.NodeName.settings said.tenant said.now said.streams replies (told_by c.args.self.now.pusher) told (told_by c.draft_streams-drafts.new.self.pusher) same pushed;
      told = refl;
      failures = refl;
    }
