use Rattle.std.proofs.Common.{◌≡◌, take}
use Rattle.ing_parts.proofs.listing.copies_of.Given as goal

-- those so far are copied
abbrev pub invariant-loop-numbered : goal.invariant-loop-numbered
invariant-loop-numbered l = l.copies.items ≡ take l.numbered-index l.entries
