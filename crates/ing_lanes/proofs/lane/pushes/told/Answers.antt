use Rattle.std.proofs.Common.{◌∙◌, ◌++◌, ◌∷◌, [], arith, map, sym, ap}
use Rattle.std.proofs.lemmas.Grind.{common_steps}
use Rattle.std.proofs.lemmas.List.{map-append}
use Rattle.ing_session.specs.Views.{stream_data}
use Rattle.ing_lanes.specs.Drafts.{data_of}
use Rattle.ing_lanes.proofs.lane.pushes.told.Goals as goal

pub loop-draft-preserved : goal.loop-draft-preserved
loop-draft-preserved c =
    let lasting = c.args.lasting.now in
    record {
      all = grind (arith, common_steps);
      whole = grind (arith, common_steps);
      told = ap (map stream_data) c.in_ok-push.ensures.items ∙ map-append stream_data c.loop-draft.replies.items (c.told_of.result ∷ [])
          ∙ (λ i. c.loop-draft.invariant.told i ++ c.told_of.ensures i ∷ [])
          ∙ sym (map-append (data_of lasting) c.loop-draft.yielded (c.in-Some.draft ∷ []));
    }
