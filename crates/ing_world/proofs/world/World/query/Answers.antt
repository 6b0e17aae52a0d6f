use Rattle.std.proofs.Common.{◌∙◌, ap, refl, subst}
use Rattle.ing_limits.specs.Ranges.{rules_for}
use Rattle.ing_parts.specs.Answers.{IsAnswer}
use Rattle.ing_parts.specs.Questions.{question_view}
use Rattle.ing_query.specs.Answers.{wanted_in}
use Rattle.ing_world.specs.Turns.{TellsQuery}
use Rattle.ing_world.specs.declared.reply.Reply.TheVariants as reply
use Rattle.ing_world.proofs.QueryLaws.{answer_told, one_wanted}
use Rattle.ing_world.proofs.WorldLaws.{idle}
use Rattle.ing_world.proofs.world.World.query.Goals as goal

pub returns-in-Ok : goal.returns-in-Ok
returns-in-Ok g c =
    let w = c.args.self.now in
    let q = question_view c.args.question in
    let snapshot = c.in_ok-snapshot.snapshot in
    let read = c.in_ok-snapshot.ensures in
    let found = c.in-Ok.found in
    record {
      turn = λ honest accepted kept.
          idle (rules_for w.shard.settings) (TellsQuery c.args.tenant.now c.args.selector.now q) (reply.Found found) w w accepted (
            refl,
            refl,
            λ picked picks.
                answer_told picked q c.found_rows_have_no_order.ensures c.standing_joins.ensures.answered q.order q.limit w.shard.state.rows accepted snapshot found.items kept.kept (read.rows picked picks)
                read.range read.best.0 read.best.1
                (subst (λ l. IsAnswer q.order q.limit l found.items) (ap wanted_in c.in_ok-snapshots.ensures.items ∙ one_wanted snapshot) (c.in-Ok.ensures.answer honest)),
          )
          refl kept;
    }
