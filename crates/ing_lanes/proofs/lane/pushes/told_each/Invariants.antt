use Rattle.std.proofs.Common.{◌≡◌, ◌++◌, length, map}
use Rattle.std.specs.Vec.Iter.{into_iter_items, into_iter_len}
use Rattle.ing_session.specs.Views.{reply_data}
use Rattle.ing_lanes.specs.Drafts.{replies_of}
use Rattle.ing_lanes.proofs.lane.pushes.told_each.Given as goal

-- the replies so far
abbrev pub invariant-loop-push : goal.invariant-loop-push
invariant-loop-push l = record {
  all : l.yielded ++ into_iter_items l.push-iterator ≡ into_iter_items l.initial.push-iterator;
  whole : into_iter_len l.push-iterator ≡ length (into_iter_items l.push-iterator);
  told : map reply_data l.replies.items ≡ map (replies_of l.fn.lasting) (map (λ push. push.items) l.yielded);
}
