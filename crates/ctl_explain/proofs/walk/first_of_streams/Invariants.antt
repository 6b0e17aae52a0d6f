use Rattle.std.proofs.Common.{◌≡◌, drop}
use Rattle.serde_json.specs.View.{items_view}
use Rattle.ctl_explain.specs.Walks as walks
use Rattle.ctl_explain.proofs.walk.first_of_streams.Given as goal

-- none of the streams so far has a part with the fault
abbrev pub invariant-loop-at : goal.invariant-loop-at
invariant-loop-at l = walks.first_of_streams l.fault l.at (items_view (drop l.at l.list)) ≡ walks.first_of_streams l.fault 0 (items_view l.list)
