use Rattle.std.proofs.Common.{◌≡◌, ◌++◌, map, take}
use Rattle.ing_session.specs.Replies.{entry_data}
use Rattle.ing_session.specs.Written.{tokens_of_each}
use Rattle.ing_session.proofs.reply.write_each_entry.Given as goal

-- the tokens of the entries so far are added
abbrev pub invariant-loop-entry : goal.invariant-loop-entry
invariant-loop-entry l =
    record {
      tokens : l.out.tokens ≡ l.initial.out.tokens ++ tokens_of_each (map entry_data (take l.entry-index l.found));
      before : l.out.before ≡ l.initial.out.before;
    }
