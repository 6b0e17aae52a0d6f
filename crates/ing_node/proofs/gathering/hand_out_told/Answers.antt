use Rattle.std.proofs.Common.{◌≡◌, ◌<◌, ◌++◌, ◌∷◌, [], List, ap, arith, length, subst, ◌∙◌}
use Rattle.ing_tally.specs.Books.{ShareState}
use Rattle.ing_node.specs.Closing.{one_at, shares_at}
use Rattle.ing_node.proofs.Handing.{RoomFor, handed_step, room_step, room_there}
use Rattle.ing_node.proofs.gathering.hand_out_told.Goals as goal

pub push_reserved-requires : goal.push_reserved-requires
push_reserved-requires c =
    let lists = c.loop-last.lists in
    let below : c.len-place.result < length lists.items = omega (arith, c.loop-last.invariant.all, c.in-Some.ensures.len, c.len-place.ensures, lists.ok.0) in
    let count : length c.pop.new.self.items ≡ c.len-place.result = omega (arith, c.len-place.ensures, c.pop.new.self.ok.0) in
    room_there c.in-Some.last c.index_mut.result.now lists.items c.len-place.result c.index_mut.result.now c.pop.new.self.items below c.index_mut.ensures.value count
    (subst (λ (ss : List ShareState). RoomFor 0 ss lists.items) c.in-Some.ensures.items (c.loop-last.invariant.room 0 c.requires.room))

pub loop-last-preserved : goal.loop-last-preserved
loop-last-preserved c =
    let lists = c.loop-last.lists in
    let below : c.len-place.result < length lists.items = omega (arith, c.loop-last.invariant.all, c.in-Some.ensures.len, c.len-place.ensures, lists.ok.0) in
    let count : length c.pop.new.self.items ≡ c.len-place.result = omega (arith, c.len-place.ensures, c.pop.new.self.ok.0) in
    let step = handed_step c.in-Some.last c.push_reserved.new.self lists.items c.len-place.result c.index_mut.result.now c.pop.new.self.items below c.index_mut.ensures.value count
    (c.push_reserved.ensures.items ∙ ap (λ (s : ShareState). c.index_mut.result.now.items ++ s ∷ []) c.last.view_is) in
    record {
      handed = λ i. step i ∙ subst (λ (ss : List ShareState). shares_at i lists.items ++ one_at i ss ≡ shares_at i c.args.lists.now.items ++ one_at i c.args.told.items) c.in-Some.ensures.items (c.loop-last.invariant.handed i);
      count = c.loop-last.invariant.count;
      all = omega (arith, c.loop-last.invariant.all, c.in-Some.ensures.len);
      room = λ n have. room_step c.in-Some.last c.push_reserved.new.self n lists.items c.len-place.result c.index_mut.result.now c.pop.new.self.items below c.index_mut.ensures.value count c.push_reserved.ensures.len c.push_reserved.ensures.capacity
          (subst (λ (ss : List ShareState). RoomFor n ss lists.items) c.in-Some.ensures.items (c.loop-last.invariant.room n have));
    }

pub returns-clause-room : goal.returns-clause-room
returns-clause-room c = λ n have i list at. omega (arith, c.loop-last.invariant.room n have i list at)
