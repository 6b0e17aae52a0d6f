use Rattle.std.proofs.Common.{◌≡◌, map, take}
use Rattle.std.specs.Prelude.{vec_len}
use Rattle.ing_service.specs.Ends.{AreNotedOf, failed_in}
use Rattle.ing_service.proofs.uploads.none_noted.Given as goal

-- a place for each chunk so far
abbrev pub invariant-loop : goal.invariant-loop
invariant-loop g l = record {
  of : AreNotedOf g.R.Receipt.bytes g.R.Receipt.name (take l.counter (map (λ b. b.now) l.chunks)) l.noted.items;
  failed : failed_in l.noted.items ≡ 0;
  many : vec_len l.noted ≡ l.counter;
}
