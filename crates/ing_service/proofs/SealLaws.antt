-- What shards seal, and the operations that there are then.
use Rattle.std.proofs.Common.{◌≡◌, ◌∙◌, ℕ, ◌+◌, ◌-◌, ◌^◌, ◌<◌, ◌≤◌, min, List, [], ◌∷◌, ◌++◌, append-nil, append_assoc, get_or, length, set, take, ap, arith, refl, sym}
use Rattle.std.proofs.lemmas.List.{length-take, take_all, take_min, take_more_set}
use Rattle.std.specs.Prelude.{All, Bool, true, false, if◌then◌else◌, replicate}
use Rattle.std.proofs.lemmas.List.Elements.{All-nil, All-append, All-replicate}
use Rattle.std.proofs.lemmas.List.Sums.{sum_by_push}
use Rattle.ing_rows.specs.Rows.{StreamKey, State}
use Rattle.ing_rows.specs.Claims.{claimable_count}
use Rattle.ing_rows.specs.Events.{Event}
use Rattle.ing_limits.specs.Settings.{StoreSettings}
use Rattle.ing_durable.specs.Op.{Op}
use Rattle.ing_durable.specs.Sealing.{op, ops_from}
use Rattle.ing_service.specs.ByShards.{SealEach, Seals, ops_of, room_for, told_sum}
use Rattle.ing_service.specs.Held.{ShardHeld}
use Rattle.ing_service.proofs.EachLaws.{HaveGone, all_gone, none_gone, one_gone}

-- those of one shard more
pub ops_more : (first : ℕ) (shards : List ShardHeld) (shard : ShardHeld) → ops_of first (shards ++ shard ∷ []) ≡ ops_of first shards ++ ops_from (first + length shards) 0 shard.listed shard.state
ops_more first [] shard =
    let same : first ≡ first + 0 = omega arith in
    append-nil (ops_from first 0 shard.listed shard.state) ∙ ap (λ n. ops_from n 0 shard.listed shard.state) same
ops_more first (s ∷ ss) shard =
    let same : first + 1 + length ss ≡ first + length (s ∷ ss) = omega arith in
    ap (λ l. ops_from first 0 s.listed s.state ++ l) (ops_more (first + 1) ss shard ∙ ap (λ n. ops_of (first + 1) ss ++ ops_from n 0 shard.listed shard.state) same)
    ∙ sym (append_assoc (ops_from first 0 s.listed s.state) (ops_of (first + 1) ss) (ops_from (first + length (s ∷ ss)) 0 shard.listed shard.state))

-- they are of shards that there are
module _ (count : ℕ) where
  from_there : (shard number : ℕ) (listed : List StreamKey) (state : State) → shard < count → All (λ (o : Op). o.shard < count) (ops_from shard number listed state)
  from_there shard number [] state below = All-nil (λ (o : Op). o.shard < count)
  from_there shard number (s ∷ ss) state below =
      let P = λ (o : Op). o.shard < count in
      All-append P (replicate (claimable_count s state) (op shard number)) (ops_from shard (number + 1) ss state)
      (All-replicate P (claimable_count s state) (op shard number) below)
      (from_there shard (number + 1) ss state below)

  pub ops_there : (first : ℕ) (shards : List ShardHeld) → first + length shards ≡ count → All (λ (o : Op). o.shard < count) (ops_of first shards)
  ops_there first [] all = All-nil (λ (o : Op). o.shard < count)
  ops_there first (s ∷ ss) all =
      All-append (λ (o : Op). o.shard < count) (ops_from first 0 s.listed s.state) (ops_of (first + 1) ss)
      (from_there first 0 s.listed s.state (omega (arith, all)))
      (ops_there (first + 1) ss (omega (arith, all)))

-- and where some of them are put behind others, or no memory is had for that
pub still_there : (count : ℕ) (b : Bool) (ops more : List Op) → All (λ (o : Op). o.shard < count) ops → All (λ (o : Op). o.shard < count) more → All (λ (o : Op). o.shard < count) (if b then ops ++ more else ops)
still_there count true ops more there new = All-append (λ (o : Op). o.shard < count) ops more there new
still_there count false ops more there new = there

-- a sum that stays at the last value goes on
sum_more : (counts : List ℕ) (count sum next : ℕ) → sum ≡ told_sum counts → next ≡ min (sum + count) (2 ^ 64 - 1) → next ≡ told_sum (counts ++ count ∷ [])
sum_more counts count sum next is more =
    let all = sum_by_push (λ (n : ℕ). n) counts count in
    omega (arith, all, is, more)

-- ---- one shard after another

-- the first of them have sealed what is due by an event
pub record HaveSealed (settings : StoreSettings) (event : Event) (i : ℕ) (olds nows : List ShardHeld) (sealed : ℕ) (ops : List Op) : Type 0 where
  pub counts : List ℕ
  pub gone : HaveGone (Seals settings event) counts i olds nows
  pub all : sealed ≡ told_sum counts
  pub there : ops ≡ ops_of 0 (take i nows)

module _ (settings : StoreSettings) (event : Event) where
  pub none_sealed : (olds : List ShardHeld) → HaveSealed settings event 0 olds olds 0 []
  none_sealed olds = record { counts = []; gone = none_gone (Seals settings event) olds; all = refl; there = refl }

  pub one_sealed : (i : ℕ) (olds nows : List ShardHeld) (sealed next count number : ℕ) (ops more due : List Op) (old new : ShardHeld) → HaveSealed settings event i olds nows sealed ops → i < length nows → i < length olds → old ≡ get_or nows i old
      → Seals settings event count old new → next ≡ min (sealed + count) (2 ^ 64 - 1) → more ≡ ops ++ due → due ≡ ops_from number 0 new.listed new.state → number ≡ i
      → HaveSealed settings event (i + 1) olds (set nows i new) next more
  one_sealed i olds nows sealed next count number ops more due old new so_far here there is this sum joined of_shard at =
      let so_long = length-take i nows in
      let at_last : i ≡ 0 + length (take i nows) = omega (arith, here, so_long) in
      record {
        counts = so_far.counts ++ count ∷ [];
        gone = one_gone (Seals settings event) so_far.counts i olds nows count old new so_far.gone here there is this;
        all = sum_more so_far.counts count sealed next so_far.all sum;
        there = joined ∙ ap (λ l. l ++ due) so_far.there
            ∙ ap (λ l. ops_of 0 (take i nows) ++ l) (of_shard ∙ ap (λ n. ops_from n 0 new.listed new.state) (at ∙ at_last))
            ∙ sym (ops_more 0 (take i nows) new) ∙ ap (ops_of 0) (sym (take_more_set nows i new here));
      }

  pub all_sealed : (i : ℕ) (olds nows : List ShardHeld) (sealed : ℕ) (ops : List Op) → HaveSealed settings event i olds nows sealed ops → length olds ≤ i → length nows ≤ i → SealEach settings event sealed ops olds nows
  all_sealed i olds nows sealed ops so_far many many_now =
      record {
        counts = so_far.counts;
        each = all_gone (Seals settings event) so_far.counts i olds nows so_far.gone many many_now;
        all = so_far.all;
        there = so_far.there ∙ ap (ops_of 0) (take_all i nows many_now);
      }

-- what finds room in a queue, and how many these are
module _ (settings : StoreSettings) (queued due ops : List Op) (room : ℕ) (same : due ≡ ops) (is : room ≡ min (settings.flush_queue_length - length queued) (length due)) where
  pub room_taken : take room due ≡ room_for settings queued ops
  room_taken =
      ap (λ n. take n due) is ∙ take_min (settings.flush_queue_length - length queued) due ∙ ap (take (settings.flush_queue_length - length queued)) same

  pub room_counted : room ≡ length (room_for settings queued ops)
  room_counted =
      is ∙ ap (λ l. min (settings.flush_queue_length - length queued) (length l)) same ∙ sym (length-take (settings.flush_queue_length - length queued) ops)
