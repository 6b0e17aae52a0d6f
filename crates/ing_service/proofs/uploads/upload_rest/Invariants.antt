use Rattle.std.proofs.Common.{◌≡◌, ◌+◌, ◌≤◌, ℕ, length, map, take}
use Rattle.ing_session.specs.Causes.{GoesOn, HaveCause}
use Rattle.ing_service.specs.Ends.{AreNotedOf, AreUploadsOf, failed_in, lost_in}
use Rattle.ing_service.proofs.uploads.upload_rest.Given as goal

-- the first chunks have their uploads
abbrev pub invariant-loop-place : goal.invariant-loop-place
invariant-loop-place g l =
    let failures = g.S.StoreEnd.failure_count in
    record {
      of : AreUploadsOf g.R.Receipt.bytes g.R.Receipt.name (take l.place (map (λ b. b.now) l.chunks)) l.all.items;
      many : length l.noted ≡ length l.chunks;
      noted : AreNotedOf g.R.Receipt.bytes g.R.Receipt.name (map (λ b. b.now) l.chunks) l.noted;
      causes : (more : ℕ) × (lost_in l.all.items + failed_in l.noted ≤ failed_in l.fn.noted + more) × HaveCause (failures l.fn.own) (failures l.own) more;
      end : GoesOn g.S.StoreEnd.never_fails failures l.fn.own l.own;
    }
