use Rattle.std.proofs.Common.{◌≡◌, ◌∙◌, List, length, subst, sym}
use Rattle.std.proofs.lemmas.List.Elements.{All-weaker}
use Rattle.ing_tally.specs.Books.{ShareState}
use Rattle.ing_node.specs.Names.{IsTallyOf}
use Rattle.ing_lanes.specs.Served.{HasReason}
use Rattle.ing_lanes.proofs.CountLaws.{stored_beside}
use Rattle.ing_lanes.proofs.closing.close_all.Goals as goal

-- what the flushers counted is what is stored
pub returns-in-Ok-clause-closed : goal.returns-in-Ok-clause-closed
returns-in-Ok-clause-closed g c =
    let shards = c.in-Ok.closed.report.shards in
    let closed = c.in-Ok.ensures.closed in
    let all : length shards.items ≡ g.N.NodeName.settings.shards = sym shards.ok.0 ∙ c.in-Ok.ensures.all.0 in
    record {
      all = all;
      accepted = λ i r at. (closed i r at).accepted;
      recovered = λ i r at. (closed i r at).recovered_are;
      whole = λ i r at. (closed i r at).all;
      stored =
          stored_beside g.N.NodeName.settings.shards g.N.NodeName.earlier.stored c.args.tallies.items shards.items all c.is_of_each.ensures.1
          (All-weaker (IsTallyOf g.N.NodeName.settings.shards g.N.NodeName.books) (λ (t : List ShareState). length t ≡ g.N.NodeName.settings.shards) (λ t own. own.0) c.args.tallies.items c.requires)
          (λ i r at. (closed i r at).stored);
    }

-- it is not closed for its reason
pub returns-in-Err-clause-refused : goal.returns-in-Err-clause-refused
returns-in-Err-clause-refused g c =
    subst (HasReason g.N.NodeName.settings) (sym c.not_closed.ensures) (c.in-Err.ensures.why, λ is. (c.in-Err.ensures.asked is).0)
