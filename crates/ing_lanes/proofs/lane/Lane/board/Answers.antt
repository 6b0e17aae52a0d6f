use Rattle.std.proofs.Common.{rules, ◌∙◌, ap, sym, subst}
use Rattle.std.specs.Prelude.{slice_get}
use Rattle.ing_lanes.specs.ByLane.{AreOrdered}
use Rattle.ing_lanes.proofs.HeldLaws.{later_on, known_on, ordered_on}
use Rattle.ing_lanes.proofs.lane.Lane.board.Goals as goal

-- one shard more is read
pub loop-shard-preserved : goal.loop-shard-preserved
loop-shard-preserved g c =
    let before = c.loop-shard.self.board in
    let after = c.read.new.self in
    let all = c.loop-shard.all.items in
    let long = sym c.loop-shard.all.ok.0 ∙ c.loop-shard.invariant.all in
    record {
      all = search rules;
      ordered = subst AreOrdered (sym c.in_ok-push.ensures.items) (ordered_on all c.read.result c.loop-shard.invariant.ordered c.read.ensures.ordered);
      later = later_on before after c.loop-shard.shard c.read.result c.args.self.now.board c.loop-shard.invariant.later c.read.ensures.later c.read.ensures.known c.read.ensures.others;
      known = λ i counts at. known_on before after c.loop-shard.shard c.read.result all long c.loop-shard.invariant.known c.read.ensures.known c.read.ensures.others i counts (ap (λ xs. slice_get xs i) (sym c.in_ok-push.ensures.items) ∙ at);
      pusher = search rules;
      workers = search rules;
    }
