use Rattle.std.proofs.Common.{◌≡◌, ◌++◌, length, map, take}
use Rattle.ing_session.specs.Runs.{lines_text}
use Rattle.ing_session.specs.Views.{reply_data}
use Rattle.ing_session.proofs.reply.add_lines.Given as goal

-- the replies so far
abbrev pub invariant-loop-reply : goal.invariant-loop-reply
invariant-loop-reply l = record {
  so_far : l.replies.items ≡ l.fn.replies.items ++ lines_text (map reply_data (take l.reply-index l.told));
  long : l.before ≡ length l.fn.replies.items;
}
