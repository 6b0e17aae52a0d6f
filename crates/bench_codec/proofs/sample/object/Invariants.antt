use Rattle.std.proofs.Common.{◌≡◌, ◌+◌, ◌*◌, length}
use Rattle.bench_codec.proofs.sample.object.Given as goal

-- the bytes so far
abbrev pub invariant-loop-block : goal.invariant-loop-block
invariant-loop-block l = length l.out.items ≡ 55 + l.block * (4 + l.count * (17 + length l.line))
