use Rattle.std.proofs.Common.{◌∙◌}
use Rattle.ing_diary.specs.Questions.{question_view}
use Rattle.ing_node.proofs.AnswerLaws.{rows_of}
use Rattle.ing_node.proofs.ingester.Ingester.query_after.Goals as goal

pub returns-clause-selected : goal.returns-clause-selected
returns-clause-selected g c =
    let tenant = c.args.tenant.now in
    let ms = c.args.selector.now in
    let question = question_view c.args.question in
    let snapshots = c.in_ok-snapshots.snapshots.items in
    let asked = c.in_ok-snapshots.ensures.snapshots in
    let drawn = c.in_ok-entries.ensures.drawn (c.answers_are_of_snapshots.ensures.kept tenant ms question snapshots asked) in
    (c.answers_are_of_snapshots.ensures.selected tenant ms question snapshots c.in_ok-entries.entries.items asked drawn).0

pub returns-clause-found : goal.returns-clause-found
returns-clause-found g c honest =
    let tenant = c.args.tenant.now in
    let ms = c.args.selector.now in
    let q = question_view c.args.question in
    let joins = c.standing_joins.ensures in
    let looked = c.in_ok-snapshots.ensures in
    let entries = c.in_ok-entries.entries.items in
    let rows = rows_of joins.alike joins.through joins.beside tenant ms q c.in_ok-snapshots.snapshots.items looked.snapshots in
    record {
      shards = rows.shards;
      counts = looked.told ∙ rows.counts;
      answer = λ picked picks. joins.answered q.order q.limit _ _ entries (rows.stand picked picks) (c.in_ok-entries.ensures.answer honest);
    }
