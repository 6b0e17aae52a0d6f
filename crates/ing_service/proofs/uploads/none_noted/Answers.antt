use Rattle.std.proofs.Common.{◌∙◌, ◌+◌, ◌<◌, None, ap, arith, length, map, subst, sum_by, sym, take}
use Rattle.std.proofs.lemmas.List.{length-map, take_all}
use Rattle.std.proofs.lemmas.List.Sums.{sum_by_push}
use Rattle.ing_service.specs.Ends.{AreNotedOf, failed_if}
use Rattle.ing_service.proofs.UploadsLaws.{unnoted_more}
use Rattle.ing_service.proofs.uploads.none_noted.Goals as goal

-- one place more
pub loop-preserved : goal.loop-preserved
loop-preserved g c =
    let flown = map (λ b. b.now) c.args.chunks.now in
    let i = c.loop.counter in
    let inv = c.loop.invariant in
    let pushed = c.in_ok-push.ensures.items in
    let there : i < length flown = subst (λ n. i < n) (sym (length-map c.args.chunks.now (λ b. b.now))) c.loop-test.true in
    let none = ap (sum_by failed_if) pushed ∙ sum_by_push failed_if c.loop.noted.items None in
    record {
      of = subst (AreNotedOf g.R.Receipt.bytes g.R.Receipt.name (take (i + 1) flown)) (sym pushed) (unnoted_more g.R.Receipt.bytes g.R.Receipt.name flown i c.loop.noted.items there inv.of);
      failed = omega (arith, inv.failed, none);
      many = omega (arith, inv.many, c.in_ok-push.ensures.len);
    }

pub returns-clause-of : goal.returns-clause-of
returns-clause-of g c =
    let flown = map (λ b. b.now) c.args.chunks.now in
    subst (λ l. AreNotedOf g.R.Receipt.bytes g.R.Receipt.name l c.loop.noted.items) (take_all c.loop.counter flown (omega (arith, c.loop-test.false, length-map c.args.chunks.now (λ b. b.now)))) c.loop.invariant.of
