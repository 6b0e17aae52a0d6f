use Rattle.std.proofs.Common.{◌∙◌, ◌+◌, List, ap}
use Rattle.ing_tally.specs.Books.{ShareState, amount_of}
use Rattle.ing_flush.specs.Tallies.{amount_at}
use Rattle.ing_node.specs.Closing.{shares_at}
use Rattle.ing_node.proofs.Handing.{gathered_amount}
use Rattle.ing_node.proofs.gathering.hand_out_earlier.Goals as goal

pub returns-clause-pushing_sum : goal.returns-clause-pushing_sum
returns-clause-pushing_sum g c i =
    let old = shares_at i c.args.pushing.now.items in
    gathered_amount i (shares_at i c.hand_out_told.new.lists.items) old c.earlier.inside.told.items (c.hand_out_told.ensures.handed i)
    ∙ ap (λ (ss : List ShareState). amount_of old + amount_at i ss) c.earlier.invariant.3

pub returns-clause-stored_sum : goal.returns-clause-stored_sum
returns-clause-stored_sum g c i =
    let old = shares_at i c.args.stored.now.items in
    gathered_amount i (shares_at i c.hand_out.new.lists.items) old c.into_shares.result.items (c.hand_out.ensures.handed i)
    ∙ ap (λ (ss : List ShareState). amount_of old + amount_at i ss) (c.into_shares.ensures ∙ c.earlier.invariant.4)
