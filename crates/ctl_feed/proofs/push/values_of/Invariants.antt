use Rattle.std.proofs.Common.{◌≡◌, ◌++◌, length, map, true}
use Rattle.std.specs.List.{list_all}
use Rattle.std.specs.Vec.Iter.{into_iter_items, into_iter_len}
use Rattle.serde_json.specs.View.{view}
use Rattle.ctl_feed.specs.Pushes.{is_stamp, value_data}
use Rattle.ctl_feed.proofs.push.values_of.Given as goal

-- the values so far are those of the entries so far
abbrev pub invariant-loop-entry : goal.invariant-loop-entry
invariant-loop-entry l = record {
  all : l.yielded ++ into_iter_items l.entry-iterator ≡ into_iter_items l.initial.entry-iterator;
  whole : into_iter_len l.entry-iterator ≡ length (into_iter_items l.entry-iterator);
  stamps : list_all is_stamp l.yielded ≡ true;
  values : map view l.values.items ≡ map value_data l.yielded;
}
