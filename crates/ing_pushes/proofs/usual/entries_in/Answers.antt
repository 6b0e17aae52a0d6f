use Rattle.std.proofs.Common.{IfSome, subst}
use Rattle.json.specs.Value.{value_view}
use Rattle.ing_pushes.specs.Usual.{IsEntry}
use Rattle.ing_pushes.proofs.Entries.{each_next}
use Rattle.ing_pushes.proofs.usual.entries_in.Goals as goal

pub loop-value-preserved : goal.loop-value-preserved
loop-value-preserved c = each_next IsEntry value_view c.args.values.now c.loop-value.value-index c.value-item.result c.loop-value.entries.items c.push.new.self.items c.in-Some.entry c.loop-value-test.true c.value-item.is c.in_ok-push.ensures.items c.loop-value.invariant (subst (λ o. IfSome o (IsEntry (value_view c.value-item.result))) c.in-Some.is c.in_ok-entry.ensures)
