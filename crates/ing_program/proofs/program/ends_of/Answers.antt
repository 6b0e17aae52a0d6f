use Rattle.std.proofs.Common.{◌≡◌, ◌∙◌, All, ap, arith, subst, sum_by, sym}
use Rattle.std.proofs.lemmas.List.Elements.{All-push}
use Rattle.std.proofs.lemmas.List.Sums.{sum_by_push}
use Rattle.ing_store.specs.declared.memory_end.Fuse.TheVariants as fuses
use Rattle.ing_program.proofs.program.ends_of.Goals as goal

-- one more never fails
pub loop-preserved : goal.loop-preserved
loop-preserved g c =
    let is = c.end.ensures in
    let items = c.in_ok-push.ensures.items in
    let end = c.end.result in
    record {
      sure = subst (λ l. All (λ e. e.fuse ≡ fuses.None) l) (sym items) (All-push (λ e. e.fuse ≡ fuses.None) c.loop.ends.items end c.loop.invariant.sure (ap (λ e. e.fuse) is));
      fresh = ap (sum_by (λ e. e.failures)) items ∙ sum_by_push (λ e. e.failures) c.loop.ends.items end ∙ omega (arith, c.loop.invariant.fresh, ap (λ e. e.failures) is);
    }
