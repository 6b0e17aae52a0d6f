use Rattle.std.proofs.Common.{◌≡◌, ◌+◌, ◌++◌, ℕ, List, Some, arith, refl, subst, ap, ◌∙◌, vec_len}
use Rattle.std.proofs.lemmas.List.Elements.{All-pop}
use Rattle.ing_tally.specs.Books.{ShareState}
use Rattle.ing_node.specs.Closing.{HaveRoom, one_at, shares_at}
use Rattle.ing_node.specs.Names.{IsTallyOf}
use Rattle.ing_begun.proofs.Lists.{none_left}
use Rattle.ing_node.proofs.Handing.{gathered_count, gathered_own, gathered_sum, stored_one}
use Rattle.ing_node.proofs.gathering.hand_out_tallies.Goals as goal

pub loop-tally-preserved : goal.loop-tally-preserved
loop-tally-preserved g c =
    let at = c.loop-tally.invariant in
    let books = g.N.NodeName.books in
    let tallied = IsTallyOf g.N.NodeName.settings.shards books in
    let old = c.loop-tally.lists.items in
    let new = c.hand_out.new.lists.items in
    let tally = c.in-Some.tally in
    let given = All-pop tallied c.loop-tally.tallies.items c.pop.new.self.items (Some tally) c.in-Some.ensures.items at.tallies in
    let len : vec_len c.loop-tally.tallies ≡ vec_len c.pop.new.self + 1 = omega (arith, c.in-Some.ensures.len) in
    let is : (i : ℕ) → shares_at i new ≡ shares_at i old ++ one_at i tally = λ i. c.hand_out.ensures.handed i ∙ ap (λ (ss : List ShareState). shares_at i old ++ one_at i ss) c.into_shares.ensures in
    record {
      all = c.hand_out.ensures.count ∙ at.all;
      room = c.hand_out.ensures.room (vec_len c.pop.new.self) (subst (λ n. HaveRoom n old) len at.room);
      more = λ n have. c.hand_out.ensures.room (vec_len c.pop.new.self + n) (subst (λ m. HaveRoom m old) (omega (arith, len)) (at.more n have));
      own = λ i. gathered_own i (shares_at i new) (shares_at i old) tally (is i) (books i).stored (at.own i) (stored_one books tally given.1.1 i);
      tallies = given.0;
      count = λ i below.
          let one = gathered_count i (shares_at i new) (shares_at i old) tally (is i) (omega (arith, below, given.1.0)) in
          omega (arith, one, at.count i below, len);
      sum = λ i. gathered_sum i (shares_at i new) (shares_at i old) tally (is i) (λ (ss : List ShareState). ss) tally refl c.pop.new.self.items c.loop-tally.tallies.items c.in-Some.ensures.items _ (at.sum i);
    }

pub returns-clause-room : goal.returns-clause-room
returns-clause-room g c n have i list at =
    let none = none_left (vec_len c.loop-tally.tallies) c.in_default.ensures.variant.1 in
    let more = c.loop-tally.invariant.more n have i list at in
    omega (arith, more, none)
