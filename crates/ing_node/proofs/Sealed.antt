-- The operations of a shard.
use Rattle.std.proofs.Common.{◌≡◌, ℕ, List, [], ◌∷◌, ◌+◌, refl}
use Rattle.std.specs.Prelude.{All, replicate}
use Rattle.std.proofs.lemmas.List.Elements.{All-nil, All-append, All-replicate}
use Rattle.ing_rows.specs.Rows.{State, StreamKey}
use Rattle.ing_rows.specs.Claims.{claimable_count}
use Rattle.ing_begun.specs.Op.{Op}
use Rattle.ing_begun.specs.Sealing.{op, ops_from}

pub ops_have_number : (shard number : ℕ) (listed : List StreamKey) (state : State) → All (λ o. o.shard ≡ shard) (ops_from shard number listed state)
ops_have_number shard number [] state = All-nil (λ (o : Op). o.shard ≡ shard)
ops_have_number shard number (s ∷ ss) state =
    let P = λ (o : Op). o.shard ≡ shard in
    All-append P (replicate (claimable_count s state) (op shard number)) (ops_from shard (number + 1) ss state)
    (All-replicate P (claimable_count s state) (op shard number) refl)
    (ops_have_number shard (number + 1) ss state)
