use Rattle.std.proofs.Common.{rules, ◌≡◌, ◌≤◌, ◌<◌, ◌∙◌, ◌+◌, ◌++◌, ℕ, List, [], ◌∷◌, append-nil, ap, arith, length, refl, slice_set, subst, sym}
use Rattle.std.specs.Prelude.{map}
use Rattle.std.specs.List.{flat_map}
use Rattle.std.proofs.lemmas.List.{get_or_default, length-append, length-map, map-append}
use Rattle.std.proofs.lemmas.Option.{slice_get_read}
use Rattle.std.proofs.lemmas.List.Concat.{flat_map-append}
use Rattle.ing_begun.specs.Catalog.{AddsCatalog, asked_view}
use Rattle.ing_begun.proofs.CatalogLaws.{adds_both}
use Rattle.ing_rows.specs.Rows.{Row}
use Rattle.ing_tally.specs.Books.{ShareState}
use Rattle.ing_flush.specs.Tallies.{amount_at}
use Rattle.ing_node.specs.Names.{AreAcceptedIn}
use Rattle.ing_node.specs.Queries.{AreNoLess}
use Rattle.ing_node.proofs.PusherLaws.{amount_there, no_less_push, same_set}
use Rattle.ing_node.proofs.ingester.Ingester.texts_after.Goals as goal

-- a share is of its shard's book
pub add_catalog-requires : goal.add_catalog-requires
add_catalog-requires g c =
    let ss = c.loop-place.pusher-inside.told.items in
    let below : c.loop-place.place < length ss = search rules in
    let s = c.behind-pusher.inside.share in
    let d = c.index_mut.result.now in
    let there = slice_get_read ss (length ss) c.loop-place.place s refl below (c.behind-pusher.view_is ∙ c.index_mut.ensures.value ∙ get_or_default ss c.loop-place.place d s below) in
    c.loop-place.invariant.own c.loop-place.place s there

-- one shard more was looked at
pub loop-place-preserved : goal.loop-place-preserved
loop-place-preserved g c =
    let at = c.loop-place.invariant in
    let ss = c.loop-place.pusher-inside.told.items in
    let place = c.loop-place.place in
    let told = c.args.pusher.now.told in
    let s = c.behind-pusher.inside.share in
    let d = c.index_mut.result.now in
    let below : place < length ss = search rules in
    let value = c.behind-pusher.view_is ∙ c.index_mut.ensures.value in
    let kept : slice_set ss place c.add_catalog.new.share ≡ ss = ap (slice_set ss place) c.add_catalog.ensures.same ∙ same_set ss place s d below value in
    let one : amount_at place ss ≡ s.amount = amount_there ss place s d below value in
    let had = at.told in
    let looked = c.in_ok-add_catalog.ensures.looked in
    let rows = looked.0 in
    let less : amount_at place ss ≤ length rows = omega (arith, one, looked.1) in
    let count : place ≡ length (map (λ (l : List Row). length l) had.shards) = sym had.all ∙ sym (length-map had.shards (λ (l : List Row). length l)) in
    let here : amount_at (length (map (λ (l : List Row). length l) had.shards)) told ≤ length rows =
    subst (λ i. amount_at i told ≤ length rows) count (subst (λ (ts : List ShareState). amount_at place ts ≤ length rows) at.same less) in
    let asked = asked_view c.args.asked.now in
    let before = flat_map (λ (l : List Row). l) had.shards in
    let joined : before ++ rows ≡ flat_map (λ (l : List Row). l) (had.shards ++ rows ∷ []) =
    ap (λ l. before ++ l) (sym (append-nil rows)) ∙ sym (flat_map-append (λ (l : List Row). l) had.shards (rows ∷ [])) in
    record {
      same = kept ∙ at.same;
      diary = at.diary;
      all = at.all;
      own = subst (AreAcceptedIn g.N.NodeName.books) (sym kept) at.own;
      places = at.places;
      told = record {
        shards = had.shards ++ rows ∷ [];
        all = length-append had.shards (rows ∷ []) ∙ ap (λ n. n + 1) had.all;
        no_less = subst (λ (ns : List ℕ). AreNoLess told ns) (sym (map-append (λ (l : List Row). length l) had.shards (rows ∷ [])))
            (no_less_push (λ i. amount_at i told) (map (λ (l : List Row). length l) had.shards) (length rows) had.no_less here);
        adds = subst (λ l. AddsCatalog asked l [] c.add_catalog.new.texts) joined (adds_both asked before rows [] c.loop-place.texts c.add_catalog.new.texts had.adds looked.2);
      };
    }
