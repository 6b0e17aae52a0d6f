use Rattle.std.proofs.Common.{map, append_assoc}
use Rattle.ing_session.specs.Replies.{shard_data}
use Rattle.ing_session.proofs.WritingLaws.{items_listed}
use Rattle.ing_session.proofs.reply.write_channels.Goals as goal

pub returns-clause-tokens : goal.returns-clause-tokens
returns-clause-tokens c = rw (c.in_ok-end_object.ensures.ok, c.in_ok-end_array.ensures.ok, c.in_ok-write_each_shard.ensures.tokens, c.in_ok-begin_array.ensures.ok, c.in_ok-key.ensures.ok, c.in_ok-write_count.ensures.tokens, c.in_ok-begin_object.ensures.ok, items_listed (map shard_data c.args.shards.now)) (simp append_assoc)
