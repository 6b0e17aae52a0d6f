use Rattle.std.proofs.Common.{◌≡◌, ◌≤◌, take}
use Rattle.ing_service.specs.Ends.{lost_in}
use Rattle.ing_service.proofs.flights.told_of.Given as goal

abbrev pub invariant-loop-upload : goal.invariant-loop-upload
invariant-loop-upload g l = record {
  failed : l.failed ≡ lost_in (take l.upload-index l.uploads);
  few : l.failed ≤ l.upload-index;
}
