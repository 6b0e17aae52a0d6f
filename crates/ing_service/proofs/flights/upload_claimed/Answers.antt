use Rattle.std.proofs.Common.{◌∙◌, ap, arith, map}
use Rattle.std.specs.Prelude.{IfSome}
use Rattle.std.proofs.lemmas.List.{take_all}
use Rattle.ing_service.specs.Ends.{IsUploadOf}
use Rattle.ing_service.proofs.UploadsLaws.{ok_made}
use Rattle.ing_service.proofs.flights.upload_claimed.Goals as goal

pub returns-clause-of : goal.returns-clause-of
returns-clause-of g c =
    let same = ap (map (λ b. b.now)) c.deref.ensures.value ∙ c.loop-ticket.invariant.chunks ∙ ap (map (λ t. t.claimed)) (take_all c.loop-ticket.ticket-index c.args.tickets.now (omega (arith, c.loop-ticket-test.false))) in
    ok_made (λ f upload. IfSome upload (IsUploadOf g.R.Receipt.bytes g.R.Receipt.name f)) (λ t. t.claimed) c.args.tickets.now (map (λ b. b.now) c.deref.result.now) (λ all. all.items) same c.upload_all.result c.upload_all.ensures.of
