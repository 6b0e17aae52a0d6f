use Rattle.std.proofs.Common.{◌≡◌, ◌+◌, ◌-◌, ◌*◌, length}
use Rattle.bench_codec.proofs.sample.put_block.Given as goal

-- the bytes so far
abbrev pub invariant-loop-number : goal.invariant-loop-number
invariant-loop-number l =
    length l.out.items ≡ length l.fn.out.items + (4 + (l.number - l.from) * (17 + length l.line))
