use Rattle.std.proofs.Common.{◌≡◌, ◌++◌, map, take}
use Rattle.ing_session.specs.Replies.{shard_data}
use Rattle.ing_session.specs.Written.{tokens_of_each}
use Rattle.ing_session.proofs.reply.write_each_shard.Given as goal

-- the tokens of those so far are added
abbrev pub invariant-loop-shard : goal.invariant-loop-shard
invariant-loop-shard l =
    record {
      tokens : l.out.tokens ≡ l.initial.out.tokens ++ tokens_of_each (map shard_data (take l.shard-index l.shards));
      before : l.out.before ≡ l.initial.out.before;
    }
