use Rattle.std.proofs.Common.{◌≡◌, drop}
use Rattle.serde_json.specs.View.{view}
use Rattle.ctl_explain.specs.Walks as walks
use Rattle.ctl_explain.proofs.walk.first_field.Given as goal

-- none of the fields so far has the fault
abbrev pub invariant-loop-field : goal.invariant-loop-field
invariant-loop-field l = walks.first_field l.fault (drop l.field-index l.fields) (view l.value) ≡ walks.first_field l.fault l.fields (view l.value)
