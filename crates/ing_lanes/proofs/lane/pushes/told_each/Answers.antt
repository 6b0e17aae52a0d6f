use Rattle.std.proofs.Common.{◌∙◌, ◌++◌, ◌∷◌, [], arith, map, sym, ap}
use Rattle.std.proofs.lemmas.Grind.{common_steps}
use Rattle.std.proofs.lemmas.List.{map-append}
use Rattle.ing_session.specs.Replies.{push_data}
use Rattle.ing_session.specs.Views.{reply_data}
use Rattle.ing_session.specs.declared.reply.Reply.TheVariants.{Push}
use Rattle.ing_lanes.specs.Drafts.{replies_of}
use Rattle.ing_lanes.proofs.lane.pushes.told_each.Goals as goal

pub loop-push-preserved : goal.loop-push-preserved
loop-push-preserved c =
    let lasting = c.args.lasting.now in
    record {
      all = grind (arith, common_steps);
      whole = grind (arith, common_steps);
      told = ap (map reply_data) c.in_ok-push.ensures.items ∙ map-append reply_data c.loop-push.replies.items (Push c.in_ok-streams.streams ∷ [])
          ∙ (λ i. c.loop-push.invariant.told i ++ push_data (c.in_ok-streams.ensures i) ∷ [])
          ∙ sym (map-append (replies_of lasting) (map (λ push. push.items) c.loop-push.yielded) (c.in-Some.push.items ∷ []))
          ∙ ap (map (replies_of lasting)) (sym (map-append (λ push. push.items) c.loop-push.yielded (c.in-Some.push ∷ [])));
    }
