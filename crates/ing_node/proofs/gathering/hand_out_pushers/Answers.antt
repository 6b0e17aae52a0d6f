use Rattle.std.proofs.Common.{◌≡◌, ◌+◌, ◌++◌, ℕ, List, arith, length, refl, subst, sym, ap, ◌∙◌, vec_len}
use Rattle.ing_tally.specs.Books.{ShareState}
use Rattle.ing_node.specs.Closing.{HaveRoom, one_at, shares_at}
use Rattle.ing_node.specs.Diaries.{PusherState}
use Rattle.ing_node.specs.Names.{AreAcceptedIn}
use Rattle.ing_begun.proofs.Lists.{none_left}
use Rattle.ing_node.proofs.Handing.{accepted_one, gathered_count, gathered_own, gathered_sum}
use Rattle.ing_node.proofs.gathering.hand_out_pushers.Goals as goal

pub loop-pusher-preserved : goal.loop-pusher-preserved
loop-pusher-preserved g c =
    let at = c.loop-pusher.invariant in
    let books = g.N.NodeName.books in
    let old = c.loop-pusher.lists.items in
    let new = c.hand_out_told.new.lists.items in
    let pusher = c.in-Some.pusher.told in
    let told_is : c.pusher.inside.told.items ≡ pusher = ap (λ (p : PusherState). p.told) c.pusher.view_is in
    let length_is : length pusher ≡ g.N.NodeName.settings.shards = ap length (sym told_is) ∙ sym c.pusher.inside.told.ok.0 ∙ c.pusher.invariant.0 in
    let own : AreAcceptedIn books pusher = subst (AreAcceptedIn books) told_is c.pusher.invariant.1 in
    let len : vec_len c.loop-pusher.pushers ≡ vec_len c.pop.new.self + 1 = omega (arith, c.in-Some.ensures.len) in
    let is : (i : ℕ) → shares_at i new ≡ shares_at i old ++ one_at i pusher = λ i. c.hand_out_told.ensures.handed i ∙ ap (λ (ss : List ShareState). shares_at i old ++ one_at i ss) told_is in
    record {
      all = c.hand_out_told.ensures.count ∙ at.all;
      room = c.hand_out_told.ensures.room (vec_len c.pop.new.self) (subst (λ n. HaveRoom n old) len at.room);
      more = λ n have. c.hand_out_told.ensures.room (vec_len c.pop.new.self + n) (subst (λ m. HaveRoom m old) (omega (arith, len)) (at.more n have));
      own = λ i. gathered_own i (shares_at i new) (shares_at i old) pusher (is i) (books i).accepted (at.own i) (accepted_one books pusher own i);
      count = λ i below.
          let one = gathered_count i (shares_at i new) (shares_at i old) pusher (is i) (omega (arith, below, length_is)) in
          omega (arith, one, at.count i below, len);
      sum = λ i. gathered_sum i (shares_at i new) (shares_at i old) pusher (is i) (λ (p : PusherState). p.told) c.in-Some.pusher refl c.pop.new.self.items c.loop-pusher.pushers.items c.in-Some.ensures.items _ (at.sum i);
    }

pub returns-clause-room : goal.returns-clause-room
returns-clause-room g c n have i list at =
    let none = none_left (vec_len c.loop-pusher.pushers) c.in_default.ensures.variant.1 in
    let more = c.loop-pusher.invariant.more n have i list at in
    omega (arith, more, none)
