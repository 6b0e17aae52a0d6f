use Rattle.ing_limits.proofs.Sums.{capped_below, capped_above}
use Rattle.ing_limits.proofs.duration.capped.Goals as goal

pub returns-then-nanoseconds-lt-DURATION_END : goal.returns-then-nanoseconds-lt-DURATION_END
returns-then-nanoseconds-lt-DURATION_END c = capped_below _ c.if-nanoseconds-lt-DURATION_END.true

pub returns-else-nanoseconds-lt-DURATION_END : goal.returns-else-nanoseconds-lt-DURATION_END
returns-else-nanoseconds-lt-DURATION_END c = capped_above _ c.if-nanoseconds-lt-DURATION_END.false
