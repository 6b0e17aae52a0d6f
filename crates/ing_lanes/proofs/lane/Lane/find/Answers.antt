use Rattle.std.proofs.Common.{◌≤◌, ap, length, refl, subst, sym, ◌∙◌}
use Rattle.std.specs.List.{AllPass}
use Rattle.std.specs.List.Sorted.{IsSortedBy}
use Rattle.std.proofs.lemmas.Result.{IfOk-weaker}
use Rattle.ing_node.specs.declared.query.Answer.{Answer}
use Rattle.ing_commands.specs.Views.{query_view}
use Rattle.ing_node.specs.PartAnswers.{precedes}
use Rattle.ing_node.specs.Parts.{is_within}
use Rattle.ing_node.specs.Queries.{AreAnswerOf}
use Rattle.ing_node.specs.Questions.{Question}
use Rattle.ing_session.specs.Replies.{query_data}
use Rattle.ing_session.proofs.CausesLaws.{same_count}
use Rattle.ing_lanes.specs.ByLane.{Entries, Given, Failed}
use Rattle.ing_lanes.proofs.LedgerLaws.{failed_causes}
use Rattle.ing_lanes.proofs.lane.Lane.find.Goals as goal

-- entries are given
pub returns-in-Ok-clause-came : goal.returns-in-Ok-clause-came
returns-in-Ok-clause-came g c = λ spelt usable told same.
    let query = query_view c.args.query.now in
    let answer = c.in-Ok.answer in
    let found = answer.entries.items in
    let said = c.in-Ok.ensures in
    let asked = c.question_of-question.ensures in
    record {
      answer = Given answer.entries.items answer.fronts.items;
      may_be = record {
        reads = record { ms = c.args.selector.now; spelt = spelt; usable = usable };
        selected = said.selected;
        within = subst (λ (q : Question). AllPass (is_within q) found) asked said.within;
        in_order = subst (λ (q : Question). IsSortedBy (precedes q.order) found) asked said.in_order;
        most = subst (λ (q : Question). length found ≤ q.limit) asked said.most;
        once = said.once;
        all = sym answer.fronts.ok.0 ∙ said.fronts.0;
        wanted = λ honest. subst (λ (q : Question). AreAnswerOf query.tenant c.args.selector.now q answer.fronts.items found) asked (said.found honest);
        no_less = λ i front at. subst (λ n. n ≤ front) (sym (same (Entries i))) (said.fronts.1 i front at);
      };
      told = ap (λ page. query_data page found answer.fronts.items) c.page_of.ensures;
      causes = same_count _ _ said.count;
    }

-- it is not answered
pub returns-in-Err-clause-came : goal.returns-in-Err-clause-came
returns-in-Err-clause-came g c = λ spelt usable.
    IfOk-weaker c.answer_fault.result _ _
    (λ reply made told same. record {
      answer = Failed c.in-Err.fault;
      may_be = record {
        reads = record { ms = c.args.selector.now; spelt = spelt; usable = usable };
        passed = c.in-Err.ensures.refused;
        fine = c.in-Err.ensures.honest;
      };
      told = made;
      causes = failed_causes Answer _ _ c.in-Err.fault c.in-Err.ensures.count;
    })
    c.answer_fault.ensures

-- the end has not unlearnt a failure
pub returns-in-Err-clause-end : goal.returns-in-Err-clause-end
returns-in-Err-clause-end g c = ((failed_causes Answer _ _ c.in-Err.fault c.in-Err.ensures.count).0, c.in-Err.ensures.sure)
