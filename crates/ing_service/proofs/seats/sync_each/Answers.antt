use Rattle.std.proofs.Common.{◌≡◌, ◌∙◌, ◌∷◌, [], ◌++◌, ◌+◌, ◌<◌, ap, arith, get_or, length, map, refl, set, subst, sym, take}
use Rattle.std.proofs.Math.Seq.{map-set_same}
use Rattle.std.proofs.lemmas.List.{drop-set-lt, get_or-map, length-map, map-set, take_more}
use Rattle.ing_durable.specs.Kept.{whose}
use Rattle.ing_service.specs.Drafts.{IsSynced, IsWaiting, drafted}
use Rattle.ing_service.specs.Held.{shard_held}
use Rattle.ing_service.proofs.DraftLaws.{same_there, tail_same}
use Rattle.ing_service.proofs.EachLaws.{HaveGone, held_at, held_here, one_gone}
use Rattle.ing_service.proofs.seats.sync_each.Goals as goal

-- a seat that was not reached is as it was
pub sync-requires : goal.sync-requires
sync-requires g c =
    let i = c.loop-seat.seat-index in
    let d = c.seat-item.result in
    record {
      waiting = subst (λ seat. IsWaiting g.D.LogDisk.is_honest g.D.LogDisk.seen seat.shard seat.unsynced) (sym (same_there c.loop-seat.seats c.args.seats.now i d c.loop-seat.invariant.left)) (c.requires.waiting i d c.loop-seat-test.true);
    }

-- one more is written
pub loop-seat-preserved : goal.loop-seat-preserved
loop-seat-preserved g c =
    let seats = c.loop-seat.seats in
    let first = c.args.seats.now in
    let i = c.loop-seat.seat-index in
    let d = c.seat-item.result in
    let seat = get_or seats i d in
    let new = c.sync.new.self in
    let here : i < length seats = omega arith in
    let there : i < length first = c.loop-seat-test.true in
    let was : seat ≡ get_or first i d = same_there seats first i d c.loop-seat.invariant.left in
    let drafts = map (λ seat. drafted seat.shard seat.unsynced) first in
    let more : take (i + 1) drafts ≡ take i drafts ++ drafted seat.shard seat.unsynced ∷ [] =
    take_more drafts i (drafted seat.shard seat.unsynced) (subst (λ n. i < n) (sym (length-map first (λ seat. drafted seat.shard seat.unsynced))) there)
    ∙ ap (λ x. take i drafts ++ x ∷ []) (get_or-map (λ seat. drafted seat.shard seat.unsynced) first i d (drafted seat.shard seat.unsynced) there ∙ ap (λ seat. drafted seat.shard seat.unsynced) (sym was)) in
    record {
      gone = subst (λ xs. HaveGone IsSynced xs (i + 1) (map (λ seat. shard_held seat.shard) first) (map (λ seat. shard_held seat.shard) (set seats i new))) (sym more)
          (subst (HaveGone IsSynced (take i drafts ++ drafted seat.shard seat.unsynced ∷ []) (i + 1) (map (λ seat. shard_held seat.shard) first)) (sym (map-set (λ seat. shard_held seat.shard) seats i new))
          (one_gone IsSynced (take i drafts) i (map (λ seat. shard_held seat.shard) first) (map (λ seat. shard_held seat.shard) seats) (drafted seat.shard seat.unsynced) (shard_held seat.shard) (shard_held new.shard)
          c.loop-seat.invariant.gone (held_here (λ seat. shard_held seat.shard) seats i seat d here refl) (held_here (λ seat. shard_held seat.shard) first i (get_or first i d) d there refl) (held_at (λ seat. shard_held seat.shard) seats i seat d here refl) c.sync.ensures.synced));
      left = drop-set-lt (i + 1) seats i new (omega arith) ∙ tail_same seats first i d here there c.loop-seat.invariant.left;
      same = map-set_same (λ seat. whose seat.shard.memory) seats i new d c.sync.ensures.same ∙ c.loop-seat.invariant.same;
    }
