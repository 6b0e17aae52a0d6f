-- Reading a list of entries one after the other, as a loop does.
use Rattle.std.proofs.Common.{List, ◌++◌, Result, Ok}
use Rattle.ing_refusals.specs.Results.{◌>>=◌}
use Rattle.ctl_pages.specs.declared.fault.ReplyFault.{ReplyFault}

-- what was read before, and what is still read
abbrev pub with_front : {A : Type 0} → List A → Result (List A) ReplyFault → Result (List A) ReplyFault
with_front front read = read >>= λ rest. Ok (front ++ rest)
