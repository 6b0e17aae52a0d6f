use Rattle.std.proofs.Common.{◌≡◌, ◌++◌, map, take}
use Rattle.ing_session.specs.Replies.{count}
use Rattle.ing_session.specs.Written.{tokens_of_each}
use Rattle.ing_session.proofs.reply.write_each_front.Given as goal

-- the tokens of those so far are added
abbrev pub invariant-loop-front : goal.invariant-loop-front
invariant-loop-front l =
    record {
      tokens : l.out.tokens ≡ l.initial.out.tokens ++ tokens_of_each (map count (take l.front-index l.fronts));
      before : l.out.before ≡ l.initial.out.before;
    }
