use Rattle.std.proofs.Common.{◌≡◌, vec_len}
use Rattle.ing_program.proofs.folders.logs_in.Given as goal

abbrev pub invariant-loop-number : goal.invariant-loop-number
invariant-loop-number g l = record { all : vec_len l.logs ≡ l.number-counter }
