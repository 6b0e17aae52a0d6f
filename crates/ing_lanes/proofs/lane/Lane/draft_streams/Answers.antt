use Rattle.std.proofs.Common.{◌≡◌, ◌∙◌, ◌++◌, ◌∷◌, [], arith, ap, subst, sym, map}
use Rattle.std.proofs.lemmas.Grind.{common_steps}
use Rattle.std.specs.Vec.Iter.{into_iter_items}
use Rattle.std.proofs.lemmas.List.{map-append}
use Rattle.ing_commands.specs.Views.{stream_view}
use Rattle.ing_lanes.specs.ByLane.{PushesStreams, told_by}
use Rattle.ing_lanes.specs.Drafts.{data_of}
use Rattle.ing_lanes.proofs.HeldLaws.{rises_trans}
use Rattle.ing_lanes.proofs.LedgerLaws.{streams_more}
use Rattle.ing_lanes.proofs.lane.Lane.draft_streams.Goals as goal

pub loop-stream-preserved : goal.loop-stream-preserved
loop-stream-preserved g c =
    let settings = g.N.NodeName.settings in
    let tenant = c.args.push.tenant in
    let now = c.args.push.now in
    let so_far = map stream_view c.loop-stream.yielded in
    let this = stream_view c.in-Some.stream in
    let first = told_by c.args.self.now.pusher in
    let last = told_by c.draft_stream.new.self.pusher in
    let more : map stream_view (c.loop-stream.yielded ++ c.in-Some.stream ∷ []) ≡ so_far ++ this ∷ [] = map-append stream_view c.loop-stream.yielded (c.in-Some.stream ∷ []) in
    record {
      all = grind (arith, common_steps);
      whole = grind (arith, common_steps);
      told = λ lasting may.
          (let drafts = map (data_of lasting) c.loop-stream.drafts.items in
          let draft = data_of lasting c.in_ok-draft.draft in
          let told : map (data_of lasting) c.push.new.self.items ≡ drafts ++ draft ∷ [] =
          ap (map (data_of lasting)) c.in_ok-push.ensures.items ∙ map-append (data_of lasting) c.loop-stream.drafts.items (c.in_ok-draft.draft ∷ []) in
          subst (λ ss. PushesStreams g.N.NodeName.has_logs settings tenant now ss (map (data_of lasting) c.push.new.self.items) first last) (sym more)
          (subst (λ rs. PushesStreams g.N.NodeName.has_logs settings tenant now (so_far ++ this ∷ []) rs first last) (sym told)
          (streams_more g.N.NodeName.has_logs settings tenant now so_far drafts this draft first (told_by c.loop-stream.self.pusher) last (c.loop-stream.invariant.told lasting may) (c.in_ok-draft.ensures.pushed lasting may))));
      rises = rises_trans first (told_by c.loop-stream.self.pusher) last c.loop-stream.invariant.rises c.draft_stream.ensures.rises;
      workers = c.draft_stream.ensures.workers ∙ c.loop-stream.invariant.workers;
      marks = c.mark.ensures ∙ c.loop-stream.invariant.marks;
      board = c.draft_stream.ensures.board ∙ c.loop-stream.invariant.board;
    }

pub returns-clause-pushed : goal.returns-clause-pushed
returns-clause-pushed g c = λ lasting may.
    let push = c.args.push in
    let whole : c.loop-stream.yielded ≡ into_iter_items c.into_iter-stream-iterator.result = grind (arith, common_steps) in
    let gives : into_iter_items c.into_iter-stream-iterator.result ≡ push.streams.items = c.into_iter-stream-iterator.ensures.into_iter_gives.0 in
    subst (λ ss. PushesStreams g.N.NodeName.has_logs g.N.NodeName.settings push.tenant push.now (map stream_view ss) (map (data_of lasting) c.loop-stream.drafts.items) (told_by c.args.self.now.pusher) (told_by c.loop-stream.self.pusher))
    (whole ∙ gives) (c.loop-stream.invariant.told lasting may)

-- ---- where memory runs out

pub returns-in_err-draft-clause-rises : goal.returns-in_err-draft-clause-rises
returns-in_err-draft-clause-rises g c =
    rises_trans (told_by c.args.self.now.pusher) (told_by c.loop-stream.self.pusher) (told_by c.draft_stream.new.self.pusher) c.loop-stream.invariant.rises c.draft_stream.ensures.rises

pub returns-in_err-push-clause-rises : goal.returns-in_err-push-clause-rises
returns-in_err-push-clause-rises g c =
    rises_trans (told_by c.args.self.now.pusher) (told_by c.loop-stream.self.pusher) (told_by c.draft_stream.new.self.pusher) c.loop-stream.invariant.rises c.draft_stream.ensures.rises
