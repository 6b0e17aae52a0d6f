use Rattle.std.proofs.Common.{◌≡◌, ◌++◌, map, take}
use Rattle.serde_json.specs.Data.{boolean}
use Rattle.ing_session.specs.Written.{tokens_of_each}
use Rattle.ing_session.proofs.reply.write_each_boolean.Given as goal

-- the tokens of those so far are added
abbrev pub invariant-loop-is_so : goal.invariant-loop-is_so
invariant-loop-is_so l =
    record {
      tokens : l.out.tokens ≡ l.initial.out.tokens ++ tokens_of_each (map boolean (take l.is_so-index l.booleans));
      before : l.out.before ≡ l.initial.out.before;
    }
