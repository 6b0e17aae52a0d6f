use Rattle.std.proofs.Common.{ap}
use Rattle.std.specs.Option.{option_map}
use Rattle.ing_rows.specs.Cursors.{cursor_view}
use Rattle.ing_parts.specs.Questions.{question_view}
use Rattle.ing_parts.proofs.Narrowed.{end_narrowed, start_narrowed}
use Rattle.ing_parts.proofs.found.Question.narrowed.Goals as goal

pub returns-then-self-cursor-clause-same : goal.returns-then-self-cursor-clause-same
returns-then-self-cursor-clause-same c =
    start_narrowed (question_view c.args.self) (cursor_view c.in-Some.cursor) (ap (option_map cursor_view) c.in-Some.is) c.in-Forward.is c.if-self-cursor.true

pub returns-then-cursor-self-clause-same : goal.returns-then-cursor-self-clause-same
returns-then-cursor-self-clause-same c =
    end_narrowed (question_view c.args.self) (cursor_view c.in-Some.cursor) (ap (option_map cursor_view) c.in-Some.is) c.in-Backward.is c.if-cursor-self.true
