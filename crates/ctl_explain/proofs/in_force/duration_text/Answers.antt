use Rattle.std.proofs.Common.{◌/◌, arith}
use Rattle.ing_limits.specs.DurationTexts.{hours, minutes, seconds, nanoseconds}
use Rattle.ctl_explain.proofs.RuleLaws.{duration_is}
use Rattle.ctl_explain.proofs.in_force.duration_text.Goals as goal
use Rattle.ctl_explain.proofs.in_force.duration_text.Goals.{then-nanoseconds-eq0+in_ok-text, else-nanoseconds-eq0+then-nanoseconds-eq0-2+in_ok-text-2, else-nanoseconds-eq0+else-nanoseconds-eq0-2+then-nanoseconds-eq0-3+in_ok-text-3, else-nanoseconds-eq0+else-nanoseconds-eq0-2+else-nanoseconds-eq0-3+in_ok-text-4}

pub returns : goal.returns
returns c =
    let n = c.args.nanoseconds in
    let exact = c.durations_are_sums_of_parts.ensures in
    elim c.if-nanoseconds-eq0.branch [
      | then-nanoseconds-eq0+in_ok-text w ↦
          let whole = w.if-nanoseconds-eq0.true in
          rw w.text-is (duration_is exact (n / 3600000000000) hours n _ w.in_ok-text.ensures (omega (arith, whole)) (omega (arith, whole)) c.requires)
      | else-nanoseconds-eq0+then-nanoseconds-eq0-2+in_ok-text-2 w ↦
          let whole = w.if-nanoseconds-eq0-2.true in
          rw w.text-is (duration_is exact (n / 60000000000) minutes n _ w.in_ok-text-2.ensures (omega (arith, whole)) (omega (arith, whole)) c.requires)
      | else-nanoseconds-eq0+else-nanoseconds-eq0-2+then-nanoseconds-eq0-3+in_ok-text-3 w ↦
          let whole = w.if-nanoseconds-eq0-3.true in
          rw w.text-is (duration_is exact (n / 1000000000) seconds n _ w.in_ok-text-3.ensures (omega (arith, whole)) (omega (arith, whole)) c.requires)
      | else-nanoseconds-eq0+else-nanoseconds-eq0-2+else-nanoseconds-eq0-3+in_ok-text-4 w ↦
          rw w.text-is (duration_is exact n nanoseconds n _ w.in_ok-text-4.ensures (omega arith) (omega arith) c.requires)
    ]
