use Rattle.std.proofs.Common.{◌≡◌, ◌++◌, ◌∙◌, ◌∷◌, [], List, ap, append-nil, arith, length, map, reverse, subst, sym, vec_len}
use Rattle.std.proofs.lemmas.List.{append_assoc, length-map, length-reverse}
use Rattle.std.proofs.lemmas.Option.{IfSome_then}
use Rattle.ing_diary.specs.Fronts.{front_in}
use Rattle.ing_node.specs.Earlier.{fronts_in}
use Rattle.std.specs.List.{AllByRecursion}
use Rattle.ing_tally.specs.Books.{ShareState}
use Rattle.ing_flush.specs.Tallies.{AreStoredIn}
use Rattle.ing_begun.specs.Begun.{AreBegunFrom, HasTornLog}
use Rattle.ing_begun.proofs.Lists.{none_left, turned_last}
use Rattle.ing_node.proofs.ClosingLaws.{no_item}
use Rattle.ing_begun.proofs.PlaceLaws.{begun_first, begun_others}
use Rattle.ing_node.proofs.PlaceLaws.{AreNamedFrom, named_from}
use Rattle.ing_node.proofs.ingester.Ingester.open.Goals as goal

pub loop-begun-init : goal.loop-begun-init
loop-begun-init g c =
    let shards = c.args.shards in
    let ones = reverse shards.last_first.items in
    let named = g.N.NodeName.settings in
    let books = g.N.NodeName.books in
    let opening = c.in-Ok-new.opening in
    let none = c.in-Ok-new.ensures.locks.0 in
    let room = c.in-Ok-new.ensures.locks.1 in
    let told_room = c.in-Ok-new.ensures.told.1 in
    let stored_room = c.in-Ok-new.ensures.stored.1 in
    let all = shards.all ∙ ap (λ s. s.shards) c.requires.settings in
    record {
      made = omega (arith, none, all);
      locks = omega (arith, none, room, c.len.ensures);
      told_room = omega (arith, none, told_room, c.len.ensures);
      stored_room = omega (arith, none, stored_room, c.len.ensures);
      placed = subst (λ n. AreBegunFrom named n ones) (sym none) (subst (λ s. AreBegunFrom s 0 ones) c.requires.settings shards.placed);
      named = subst (λ n. AreNamedFrom books n ones) (sym none) (named_from books 0 ones (λ i b at. c.requires.named i b at ∙ ap books (omega arith)));
      torn = c.requires.torn;
      told = ap (λ (l : List ShareState). l ++ map (λ b. b.accepted) ones) c.in-Ok-new.ensures.told.0;
      stored = ap (λ (l : List ShareState). l ++ map (λ b. b.stored) ones) c.in-Ok-new.ensures.stored.0;
    }

pub add-requires-clause-begun : goal.add-requires-clause-begun
add-requires-clause-begun g c =
    let named = g.N.NodeName.settings in
    let rest = c.pop.new.self in
    let number = vec_len c.loop-begun.opening.locks in
    let turned : reverse c.loop-begun.last_first.items ≡ c.in-Some.begun ∷ reverse rest.items = ap reverse c.in-Some.ensures.items ∙ turned_last rest.items c.in-Some.begun in
    begun_first named number c.in-Some.begun (reverse rest.items) (subst (λ bs. AreBegunFrom named number bs) turned c.loop-begun.invariant.placed)

pub loop-begun-preserved : goal.loop-begun-preserved
loop-begun-preserved g c =
    let at = c.loop-begun.invariant in
    let named = g.N.NodeName.settings in
    let books = g.N.NodeName.books in
    let rest = c.pop.new.self in
    let begun = c.in-Some.begun in
    let old = c.loop-begun.opening in
    let number = vec_len old.locks in
    let turned : reverse c.loop-begun.last_first.items ≡ begun ∷ reverse rest.items = ap reverse c.in-Some.ensures.items ∙ turned_last rest.items begun in
    let longer = c.in-Some.ensures.len in
    let next = c.add.ensures.locks.0 in
    let made = at.made in
    let locks = at.locks in
    let told_room = at.told_room in
    let stored_room = at.stored_room in
    let same_locks = c.add.ensures.locks.1 in
    let same_told = c.add.ensures.told.1 in
    let same_stored = c.add.ensures.stored.1 in
    record {
      made = omega (arith, made, longer, next);
      locks = omega (arith, locks, longer, next, same_locks);
      told_room = omega (arith, told_room, longer, next, same_told);
      stored_room = omega (arith, stored_room, longer, next, same_stored);
      placed = subst (λ n. AreBegunFrom named n (reverse rest.items)) (sym next) (begun_others named number begun (reverse rest.items) (subst (λ bs. AreBegunFrom named number bs) turned at.placed));
      named = subst (λ n. AreNamedFrom books n (reverse rest.items)) (sym next) (subst (λ bs. AreNamedFrom books number bs) turned at.named).1;
      torn = λ none. (subst (λ bs. AllByRecursion HasTornLog bs) turned (at.torn none)).1;
      told = ap (λ (l : List ShareState). l ++ map (λ b. b.accepted) (reverse rest.items)) c.add.ensures.told.0
          ∙ append_assoc old.told.items (begun.accepted ∷ []) (map (λ b. b.accepted) (reverse rest.items))
          ∙ ap (λ bs. old.told.items ++ map (λ b. b.accepted) bs) (sym turned) ∙ at.told;
      stored = ap (λ (l : List ShareState). l ++ map (λ b. b.stored) (reverse rest.items)) c.add.ensures.stored.0
          ∙ append_assoc old.stored.items (begun.stored ∷ []) (map (λ b. b.stored) (reverse rest.items))
          ∙ ap (λ bs. old.stored.items ++ map (λ b. b.stored) bs) (sym turned) ∙ at.stored;
    }

pub invariant_of-earlier : goal.invariant_of-earlier
invariant_of-earlier g c =
    let at = c.loop-begun.invariant in
    let books = g.N.NodeName.books in
    let opening = c.loop-begun.opening in
    let none = none_left (vec_len c.loop-begun.last_first) c.in_default-pop.ensures.variant.1 in
    let made = at.made in
    let all_told = opening.all_told in
    let all_stored = opening.all_stored in
    let empty = no_item c.loop-begun.last_first.items (sym c.loop-begun.last_first.ok.0 ∙ none) in
    let told = sym (append-nil opening.told.items) ∙ ap (λ bs. opening.told.items ++ map (λ b. b.accepted) (reverse bs)) (sym empty) ∙ at.told ∙ ap (λ e. e.told) (sym c.requires.earlier) in
    let stored = sym (append-nil opening.stored.items) ∙ ap (λ bs. opening.stored.items ++ map (λ b. b.stored) (reverse bs)) (sym empty) ∙ at.stored ∙ ap (λ e. e.stored) (sym c.requires.earlier) in
    let shards = c.args.shards in
    let ones = reverse shards.last_first.items in
    let kept = c.of_shares.ensures in (
      omega (arith, all_told, made, none),
      opening.own_told,
      (ap length kept ∙ sym opening.stored.ok.0 ∙ omega (arith, all_stored, made, none), subst (λ (ss : List ShareState). AreStoredIn books ss) (sym kept) opening.own_stored),
      told,
      kept ∙ stored,
      c.in-Ok.ensures.kept ∙ ap (λ s. s.diaries) c.requires.settings,
      IfSome_then c.in-Ok.fronts c.in-Ok.ensures.all (λ all is. (
        omega (arith, ap length is, length-map all.items front_in, length-map ones fronts_in, length-reverse shards.last_first.items, all.ok.0, shards.last_first.ok.0, shards.all, ap (λ s. s.shards) c.requires.settings),
        is ∙ ap (λ e. e.fronts) (sym c.requires.earlier),
      )),
    )
