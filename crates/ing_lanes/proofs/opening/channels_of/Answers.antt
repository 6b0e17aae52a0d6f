use Rattle.std.proofs.Common.{rules, ◌∙◌, ◌++◌, ◌∷◌, [], ap, arith, map}
use Rattle.std.proofs.lemmas.Grind.{common_steps}
use Rattle.std.proofs.lemmas.List.{map-append}
use Rattle.std.proofs.lemmas.List.Elements.{All-push}
use Rattle.ing_lanes.specs.ByLane.{nothing_held}
use Rattle.ing_lanes.specs.Counted.{IsHeld, counted_by}
use Rattle.ing_lanes.proofs.opening.channels_of.Goals as goal

-- one line more
pub loop-line-preserved : goal.loop-line-preserved
loop-line-preserved g c =
    let before = c.loop-line.channels.items in
    record {
      all = grind (arith, common_steps);
      whole = grind (arith, common_steps);
      sweeper = c.in-Ok.ensures.sweeper ∙ c.loop-line.invariant.sweeper;
      ends = grind (arith, common_steps);
      lines =
          ap (map (λ ch. ch.line)) c.push_reserved.ensures.items ∙ map-append (λ ch. ch.line) before (record { line = c.in-Some.line; lane = c.in-Ok.lane } ∷ [])
          ∙ ap (λ l. l ++ c.in-Some.line ∷ []) c.loop-line.invariant.lines;
      nothing =
          rw c.push_reserved.ensures.items
          (All-push (λ ch. IsHeld ch.lane.pusher (counted_by ch.lane.workers.items) ch.lane.board nothing_held) before (record { line = c.in-Some.line; lane = c.in-Ok.lane }) c.loop-line.invariant.nothing
          c.in-Ok.ensures.nothing);
      room = search rules;
    }
