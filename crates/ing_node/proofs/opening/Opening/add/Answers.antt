use Rattle.std.proofs.Common.{◌≡◌, ◌∙◌, List, ap, arith, length, subst, sym}
use Rattle.ing_tally.specs.Books.{ShareState}
use Rattle.ing_flush.specs.Tallies.{AreStoredIn}
use Rattle.ing_node.specs.Names.{AreAcceptedIn}
use Rattle.ing_node.proofs.PlaceLaws.{accepted_push, stored_push}
use Rattle.ing_node.proofs.opening.Opening.add.Goals as goal

pub invariant_of-self : goal.invariant_of-self
invariant_of-self g c =
    let old = c.args.self.now in
    let books = g.N.NodeName.books in
    let many_told : length old.told.items ≡ length old.locks.items = sym old.told.ok.0 ∙ old.all_told ∙ old.locks.ok.0 in
    let many_stored : length old.stored.items ≡ length old.locks.items = sym old.stored.ok.0 ∙ old.all_stored ∙ old.locks.ok.0 in
    let named = c.requires.named in
    record {
      all_told = omega (arith, c.push_reserved-2.ensures.len, c.push_reserved.ensures.len, old.all_told);
      all_stored = omega (arith, c.push_reserved-3.ensures.len, c.push_reserved.ensures.len, old.all_stored);
      own_told = subst (λ (ss : List ShareState). AreAcceptedIn books ss) (sym c.push_reserved-2.ensures.items)
          (accepted_push books old.told.items c.begun.inside.accepted old.own_told
          (ap (λ b. b.accepted.book) c.begun.view_is ∙ c.requires.begun.2 ∙ ap (λ n. n.accepted) named ∙ ap (λ n. (books n).accepted) (old.locks.ok.0 ∙ sym many_told)));
      own_stored = subst (λ (ss : List ShareState). AreStoredIn books ss) (sym c.push_reserved-3.ensures.items)
          (stored_push books old.stored.items c.begun.inside.stored old.own_stored
          (ap (λ b. b.stored.book) c.begun.view_is ∙ c.requires.begun.3 ∙ ap (λ n. n.stored) named ∙ ap (λ n. (books n).stored) (old.locks.ok.0 ∙ sym many_stored)));
    }
