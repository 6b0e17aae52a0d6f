use Rattle.std.proofs.Common.{◌∙◌, ap, map, refl, subst}
use Rattle.ing_service.specs.Queries.{Given}
use Rattle.ing_session.specs.Replies.{query_data}
use Rattle.ing_session.specs.Selecting.{page_of, question_of}
use Rattle.ing_session.proofs.CausesLaws.{same_count}
use Rattle.ing_commands.specs.Views.{query_view}
use Rattle.ing_query.specs.Questions.{Question, question_view}
use Rattle.ing_query.specs.Answers.{wanted_in}
use Rattle.ing_query.specs.PartAnswers.{IsAnswer}
use Rattle.ing_service.specs.Held.{held_in, shard_held}
use Rattle.ing_service.specs.Snapshots.{AreAsked}
use Rattle.ing_service.proofs.AskLaws.{fronts_are, is_found}
use Rattle.ing_service.proofs.ObeyLaws.{not_answered, obeys_query, risen}
use Rattle.ing_service.proofs.owned.OwnShards.find.Goals as goal

-- entries are given
pub returns-in-Ok-clause-obeyed : goal.returns-in-Ok-clause-obeyed
returns-in-Ok-clause-obeyed g c = λ spelt usable.
    let query = query_view c.args.query.now in
    let found = c.in-Ok.found.items in
    let failures = g.S.StoreEnd.failure_count in
    let own = c.args.self.now in
    let shards = map (λ seat. shard_held seat.shard) own.seats.items in
    let snapshots = c.in_ok-snapshots.snapshots.items in
    let joins = c.standing_joins.ensures in
    let ms = c.args.selector.now in
    let q = question_of query in
    let asks = c.question_of-question.result in
    let asked : AreAsked query.tenant ms q snapshots shards =
    subst (λ (x : Question). AreAsked query.tenant ms x snapshots shards) c.question_of-question.ensures
    (subst (λ l. AreAsked query.tenant ms (question_view asks) snapshots (map (λ seat. shard_held seat.shard) l)) c.deref.ensures.value c.in_ok-snapshots.ensures) in
    let answered = subst (λ (x : Question). IsAnswer x.order x.limit (wanted_in snapshots) found) c.question_of-question.ensures in
    obeys_query g.S.StoreEnd.is_honest g.N.Beginning.begun own.settings query (held_in shards own.ops.items) (Given found) (failures c.args.end.now) (failures c.run_query.new.end)
    (query_data c.page_of.result found c.in_ok-fronts.fronts.items) (
      record { ms = c.args.selector.now; spelt = spelt; usable = usable },
      λ honest picked picks.
          is_found joins.alike joins.through joins.beside joins.answered query ms snapshots shards asked found (answered (c.in-Ok.ensures.answer honest)) picked picks,
    )
    (ap (λ page. query_data page found c.in_ok-fronts.fronts.items) c.page_of.ensures
    ∙ ap (query_data (page_of query) found) (c.in_ok-fronts.ensures ∙ ap (map (λ snapshot. snapshot.front)) c.deref-2.ensures.value ∙ fronts_are query.tenant ms q snapshots shards asked))
    (same_count (failures c.args.end.now) (failures c.run_query.new.end) c.in-Ok.ensures.count)

-- the store does not let it be answered
pub returns-in-Err-clause-obeyed : goal.returns-in-Err-clause-obeyed
returns-in-Err-clause-obeyed g c = λ spelt usable.
    let failures = g.S.StoreEnd.failure_count in
    let own = c.args.self.now in
    not_answered g.S.StoreEnd.is_honest g.N.Beginning.begun own.settings (query_view c.args.query.now) (held_in (map (λ seat. shard_held seat.shard) own.seats.items) own.ops.items) (failures c.args.end.now) (failures c.run_query.new.end) c.in-Err.fault c.query_fault.result
    (record { ms = c.args.selector.now; spelt = spelt; usable = usable }) c.in-Err.ensures.honest c.in-Err.ensures.count c.query_fault.ensures.memory c.query_fault.ensures.reply

pub returns-in-Err-clause-end : goal.returns-in-Err-clause-end
returns-in-Err-clause-end g c =
    let failures = g.S.StoreEnd.failure_count in
    (risen (failures c.args.end.now) (failures c.run_query.new.end) c.in-Err.fault c.in-Err.ensures.count, c.in-Err.ensures.sure)
