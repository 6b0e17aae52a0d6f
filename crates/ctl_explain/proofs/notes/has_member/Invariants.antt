use Rattle.std.proofs.Common.{◌≡◌, drop}
use Rattle.std.specs.List.{list_any}
use Rattle.ctl_explain.specs.Notes as specs
use Rattle.ctl_explain.proofs.notes.has_member.Given as goal

-- the name is that of one that is left where it is that of one
abbrev pub invariant-loop-field : goal.invariant-loop-field
invariant-loop-field l = list_any (λ f. specs.may_be f l.name) (drop l.field-index l.field-items) ≡ list_any (λ f. specs.may_be f l.name) l.field-items
