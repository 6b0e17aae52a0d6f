use Rattle.std.proofs.Common.{rules, ◌≡◌, ◌≤◌, ◌<◌, ◌∙◌, ◌+◌, ◌++◌, ℕ, List, [], ◌∷◌, ap, arith, length, slice_set, subst, sym}
use Rattle.std.specs.Prelude.{All, map}
use Rattle.std.proofs.lemmas.List.{map-append}
use Rattle.std.proofs.lemmas.List.Elements.{All-append, All-cons, All-nil}
use Rattle.ing_diary.specs.Snapshot.{Snapshot}
use Rattle.ing_tally.specs.Books.{ShareState}
use Rattle.ing_flush.specs.Tallies.{amount_at}
use Rattle.ing_node.specs.Names.{AreAcceptedIn}
use Rattle.ing_node.specs.Queries.{AreBelow, AreNoLess, IsAskedOf}
use Rattle.ing_diary.specs.PartAnswers.{StandApart}
use Rattle.ing_diary.specs.Parts.{standing}
use Rattle.ing_diary.specs.Questions.{question_view}
use Rattle.ing_diary.specs.Answers.{standing_in}
use Rattle.ing_node.proofs.Once.{once_more, standing_push}
use Rattle.ing_node.proofs.PusherLaws.{amount_there, no_less_push, same_set}
use Rattle.ing_node.proofs.ingester.Ingester.look_after.Goals as goal

pub loop-place-preserved : goal.loop-place-preserved
loop-place-preserved g c =
    let at = c.loop-place.invariant in
    let ss = c.loop-place.pusher-inside.told.items in
    let place = c.loop-place.place in
    let told = c.args.pusher.now.told in
    let s = c.behind-pusher.inside.share in
    let d = c.index_mut.result.now in
    let new = c.in_ok-snapshot.snapshot in
    let below : place < length ss = search rules in
    let value = c.behind-pusher.view_is ∙ c.index_mut.ensures.value in
    let kept : slice_set ss place c.snapshot.new.share ≡ ss = ap (slice_set ss place) c.snapshot.ensures.same ∙ same_set ss place s d below value in
    let one : amount_at place ss ≡ s.amount = amount_there ss place s d below value in
    let front : s.amount ≤ new.front = c.in_ok-snapshot.ensures.front in
    let less : amount_at place ss ≤ new.front = omega (arith, one, front) in
    let count : place ≡ length c.loop-place.fronts.items = sym at.made.1 ∙ c.loop-place.fronts.ok.0 in
    let here : amount_at (length c.loop-place.fronts.items) told ≤ new.front =
    subst (λ i. amount_at i told ≤ new.front) count (subst (λ (ts : List ShareState). amount_at place ts ≤ new.front) at.same less) in
    let P = λ (x : Snapshot g.row.R.Denot). IsAskedOf c.args.tenant.now c.args.selector.now (question_view c.args.question) x in
    let shards = g.N.NodeName.settings.shards in
    let tenant = c.args.tenant.now in
    let more : standing_in (c.loop-place.snapshots.items ++ new ∷ []) ≡ standing_in c.loop-place.snapshots.items ++ standing new = standing_push c.loop-place.snapshots.items new in
    let both = once_more shards tenant place (standing_in c.loop-place.snapshots.items) (standing new) at.once at.below c.in_ok-snapshot.ensures.once c.in_ok-snapshot.ensures.own in
    record {
      same = kept ∙ at.same;
      diary = at.diary;
      once = subst (λ (ss : List (Snapshot g.row.R.Denot)). StandApart (standing_in ss)) (sym c.push_reserved-in-loop-place.ensures.items) (subst StandApart (sym more) both.0);
      below = subst (λ (ss : List (Snapshot g.row.R.Denot)). AreBelow shards tenant (place + 1) (standing_in ss)) (sym c.push_reserved-in-loop-place.ensures.items) (subst (AreBelow shards tenant (place + 1)) (sym more) both.1);
      all = at.all;
      own = subst (AreAcceptedIn g.N.NodeName.books) (sym kept) at.own;
      places = at.places;
      snapshots = subst (All P) (sym c.push_reserved-in-loop-place.ensures.items)
          (All-append P c.loop-place.snapshots.items (new ∷ []) at.snapshots (All-cons P new [] c.in_ok-snapshot.ensures.asked (All-nil P)));
      fronts = subst (λ (ns : List ℕ). AreNoLess told ns) (sym c.push_reserved.ensures.items)
          (no_less_push (λ i. amount_at i told) c.loop-place.fronts.items new.front at.fronts here);
      told = c.push_reserved.ensures.items ∙ ap (λ ns. ns ++ new.front ∷ []) at.told
          ∙ sym (map-append (λ (s : Snapshot g.row.R.Denot). s.front) c.loop-place.snapshots.items (new ∷ []))
          ∙ ap (map (λ (s : Snapshot g.row.R.Denot). s.front)) (sym c.push_reserved-in-loop-place.ensures.items);
      made = (omega (arith, c.push_reserved-in-loop-place.ensures.len, at.made.0), omega (arith, c.push_reserved.ensures.len, at.made.1));
      room = (omega (arith, c.push_reserved-in-loop-place.ensures.capacity, at.room.0), omega (arith, c.push_reserved.ensures.capacity, at.room.1));
    }
