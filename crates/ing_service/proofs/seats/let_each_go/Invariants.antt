use Rattle.std.proofs.Common.{vec_len}
use Rattle.ing_service.proofs.seats.let_each_go.Given as goal

abbrev pub decreases-loop-seat : goal.decreases-loop-seat
decreases-loop-seat g l = vec_len l.seats
