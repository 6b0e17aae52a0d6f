use Rattle.std.proofs.Common.{◌≡◌, ◌++◌, map, take}
use Rattle.ing_session.specs.Replies.{tenant_data}
use Rattle.ing_session.specs.Written.{tokens_of_each}
use Rattle.ing_session.proofs.reply.write_each_tenant.Given as goal

-- the tokens of those so far are added
abbrev pub invariant-loop-of_shard : goal.invariant-loop-of_shard
invariant-loop-of_shard l =
    record {
      tokens : l.out.tokens ≡ l.initial.out.tokens ++ tokens_of_each (map tenant_data (take l.of_shard-index l.gauges));
      before : l.out.before ≡ l.initial.out.before;
    }
