use Rattle.std.proofs.Common.{◌≡◌, ◌++◌, length, map}
use Rattle.std.specs.Vec.Iter.{into_iter_items, into_iter_len}
use Rattle.ing_session.specs.Views.{stream_data}
use Rattle.ing_lanes.specs.Drafts.{data_of}
use Rattle.ing_lanes.proofs.lane.pushes.told.Given as goal

-- the replies so far
abbrev pub invariant-loop-draft : goal.invariant-loop-draft
invariant-loop-draft l = record {
  all : l.yielded ++ into_iter_items l.draft-iterator ≡ into_iter_items l.initial.draft-iterator;
  whole : into_iter_len l.draft-iterator ≡ length (into_iter_items l.draft-iterator);
  told : map stream_data l.replies.items ≡ map (data_of l.fn.lasting) l.yielded;
}
