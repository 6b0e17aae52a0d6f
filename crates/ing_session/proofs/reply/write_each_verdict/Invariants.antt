use Rattle.std.proofs.Common.{◌≡◌, ◌++◌, map, take}
use Rattle.ing_session.specs.Replies.{verdict_data}
use Rattle.ing_session.specs.Written.{tokens_of_each}
use Rattle.ing_session.proofs.reply.write_each_verdict.Given as goal

-- the tokens of the verdicts so far are added
abbrev pub invariant-loop-verdict : goal.invariant-loop-verdict
invariant-loop-verdict l =
    record {
      tokens : l.out.tokens ≡ l.initial.out.tokens ++ tokens_of_each (map verdict_data (take l.verdict-index l.verdicts));
      before : l.out.before ≡ l.initial.out.before;
    }
