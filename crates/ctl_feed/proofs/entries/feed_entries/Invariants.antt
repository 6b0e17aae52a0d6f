use Rattle.std.proofs.Common.{◌≡◌, ◌++◌, ◌≤◌, length}
use Rattle.std.specs.Vec.Iter.{into_iter_items, into_iter_len}
use Rattle.ctl_feed.specs.Feeds.{Feeds}
use Rattle.ctl_feed.proofs.entries.feed_entries.Given as goal

-- those so far were taken, and no more wait than a command may have
abbrev pub invariant-loop-entry : goal.invariant-loop-entry
invariant-loop-entry g l = record {
  all : l.yielded ++ into_iter_items l.entry-iterator ≡ into_iter_items l.initial.entry-iterator;
  whole : into_iter_len l.entry-iterator ≡ length (into_iter_items l.entry-iterator);
  few : length l.loader.entries ≤ l.most;
  fed : Feeds l.most l.initial.loader l.loader l.yielded (g.W.Write.contents l.initial.writer) (g.W.Write.contents l.writer);
}
