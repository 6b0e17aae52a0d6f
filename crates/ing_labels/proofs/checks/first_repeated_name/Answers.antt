use Rattle.std.proofs.Common.{◌≡◌, not, length, sym, ap, ◌∙◌, arith, below_more}
use Rattle.std.proofs.lemmas.List.{length-map}
use Rattle.ing_labels.specs.Labels.{texts}
use Rattle.ing_labels.proofs.Places.{first_repeat, no_repeat, seen_here, seen_more}
use Rattle.ing_labels.proofs.checks.first_repeated_name.Goals as goal

pub returns-then-not-branch : goal.returns-then-not-branch
returns-then-not-branch c =
    let pairs = texts c.args.pairs.now in
    let as_long : length pairs ≡ length c.args.pairs.now = length-map c.args.pairs.now _ in
    sym (first_repeat pairs c.loop-at.at (omega arith) (seen_here c.args.pairs.now c.loop-at.at _ c.loop-at.seen c.in_ok-insert.field-0 c.loop-at-test.true c.loop-at.invariant.0 c.in_ok-insert.ensures.added ∙ ap not c.if-not-branch.true) c.loop-at.invariant.1)

pub loop-at-preserved : goal.loop-at-preserved
loop-at-preserved c = (
  seen_more c.args.pairs.now c.loop-at.at _ c.loop-at.seen c.insert.new.self c.loop-at-test.true c.loop-at.invariant.0 c.in_ok-insert.ensures.updates.0,
  below_more _ _ c.loop-at.invariant.1 (seen_here c.args.pairs.now c.loop-at.at _ c.loop-at.seen c.in_ok-insert.field-0 c.loop-at-test.true c.loop-at.invariant.0 c.in_ok-insert.ensures.added ∙ ap not c.if-not-branch.false),
)

pub returns : goal.returns
returns c =
    let pairs = texts c.args.pairs.now in
    let as_long : length pairs ≡ length c.args.pairs.now = length-map c.args.pairs.now _ in
    sym (no_repeat pairs (λ k h. c.loop-at.invariant.1 k (omega arith)))
