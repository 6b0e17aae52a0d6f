use Rattle.std.proofs.Common.{◌≡◌, ◌++◌, map, take}
use Rattle.ing_session.specs.Replies.{counts_data}
use Rattle.ing_session.specs.Written.{tokens_of_each}
use Rattle.ing_session.proofs.reply.write_each_counts.Given as goal

-- the tokens of those so far are added
abbrev pub invariant-loop-counts : goal.invariant-loop-counts
invariant-loop-counts l =
    record {
      tokens : l.out.tokens ≡ l.initial.out.tokens ++ tokens_of_each (map counts_data (take l.counts-index l.shards));
      before : l.out.before ≡ l.initial.out.before;
    }
