use Rattle.std.proofs.Common.{◌∙◌, ◌-◌, ap, arith, drop, length, subst, sym, take}
use Rattle.std.specs.Prelude.{IfSome, vec_len}
use Rattle.std.specs.List.{AllZip}
use Rattle.ing_session.specs.Causes.{HaveCause}
use Rattle.ing_service.specs.Ends.{IsUploadOf, failures_in, lost_in}
use Rattle.ing_service.proofs.UploadsLaws.{last_of}
use Rattle.ing_service.proofs.flights.settle_round.Goals as goal

pub settle_each-requires-clause-few : goal.settle_each-requires-clause-few
settle_each-requires-clause-few g c = (last_of (λ ticket upload. IfSome upload (IsUploadOf g.R.Receipt.bytes g.R.Receipt.name ticket.claimed)) c.args.tickets.now.items c.in_ok-uploads.uploads.items c.saturating_sub-first.result (vec_len c.args.tickets.now) (vec_len c.in_ok-uploads.uploads)
    (omega (arith, c.saturating_sub-first.ensures, c.len.ensures)) c.args.tickets.now.ok.0 c.in_ok-uploads.uploads.ok.0
    (subst (λ n. AllZip (λ ticket upload. IfSome upload (IsUploadOf g.R.Receipt.bytes g.R.Receipt.name ticket.claimed)) (take n (drop c.saturating_sub-first.result c.args.tickets.now.items)) c.in_ok-uploads.uploads.items) (ap (λ l. length l - c.saturating_sub-first.result) c.deref.ensures.value ∙ ap (λ n. n - c.saturating_sub-first.result) (sym c.args.tickets.now.ok.0))
    (subst (λ l. AllZip (λ ticket upload. IfSome upload (IsUploadOf g.R.Receipt.bytes g.R.Receipt.name ticket.claimed)) (take (length c.deref.result.now - c.saturating_sub-first.result) (drop c.saturating_sub-first.result l)) c.in_ok-uploads.uploads.items) c.deref.ensures.value c.in_ok-uploads.ensures.of))).0

pub settle_each-requires-clause-of : goal.settle_each-requires-clause-of
settle_each-requires-clause-of g c = (last_of (λ ticket upload. IfSome upload (IsUploadOf g.R.Receipt.bytes g.R.Receipt.name ticket.claimed)) c.args.tickets.now.items c.in_ok-uploads.uploads.items c.saturating_sub-first.result (vec_len c.args.tickets.now) (vec_len c.in_ok-uploads.uploads)
    (omega (arith, c.saturating_sub-first.ensures, c.len.ensures)) c.args.tickets.now.ok.0 c.in_ok-uploads.uploads.ok.0
    (subst (λ n. AllZip (λ ticket upload. IfSome upload (IsUploadOf g.R.Receipt.bytes g.R.Receipt.name ticket.claimed)) (take n (drop c.saturating_sub-first.result c.args.tickets.now.items)) c.in_ok-uploads.uploads.items) (ap (λ l. length l - c.saturating_sub-first.result) c.deref.ensures.value ∙ ap (λ n. n - c.saturating_sub-first.result) (sym c.args.tickets.now.ok.0))
    (subst (λ l. AllZip (λ ticket upload. IfSome upload (IsUploadOf g.R.Receipt.bytes g.R.Receipt.name ticket.claimed)) (take (length c.deref.result.now - c.saturating_sub-first.result) (drop c.saturating_sub-first.result l)) c.in_ok-uploads.uploads.items) c.deref.ensures.value c.in_ok-uploads.ensures.of))).2

pub returns-clause-settles : goal.returns-clause-settles
returns-clause-settles g c = λ settings are.
    let done = c.in_ok-settle_each.ensures.settles settings are in
    let lost = ap lost_in c.deref-2.ensures.value in
    let all = ap length c.deref-2.ensures.value in
    let told = c.told_of-told.ensures in (
      done.0,
      done.1,
      done.2,
      omega (arith, told.failed, lost, done.3),
      omega (arith, told.failed, told.all, lost, all, done.3, done.4, c.in_ok-uploads.uploads.ok.0),
      subst (HaveCause (failures_in g.S.StoreEnd.failure_count c.args.ends.now) (failures_in g.S.StoreEnd.failure_count c.upload_claimed.new.ends)) (sym done.3) c.in_ok-uploads.ensures.causes,
    )

pub returns-clause-some : goal.returns-clause-some
returns-clause-some g c =
    let last = last_of (λ ticket upload. IfSome upload (IsUploadOf g.R.Receipt.bytes g.R.Receipt.name ticket.claimed)) c.args.tickets.now.items c.in_ok-uploads.uploads.items c.saturating_sub-first.result (vec_len c.args.tickets.now) (vec_len c.in_ok-uploads.uploads)
    (omega (arith, c.saturating_sub-first.ensures, c.len.ensures)) c.args.tickets.now.ok.0 c.in_ok-uploads.uploads.ok.0
    (subst (λ n. AllZip (λ ticket upload. IfSome upload (IsUploadOf g.R.Receipt.bytes g.R.Receipt.name ticket.claimed)) (take n (drop c.saturating_sub-first.result c.args.tickets.now.items)) c.in_ok-uploads.uploads.items) (ap (λ l. length l - c.saturating_sub-first.result) c.deref.ensures.value ∙ ap (λ n. n - c.saturating_sub-first.result) (sym c.args.tickets.now.ok.0))
    (subst (λ l. AllZip (λ ticket upload. IfSome upload (IsUploadOf g.R.Receipt.bytes g.R.Receipt.name ticket.claimed)) (take (length c.deref.result.now - c.saturating_sub-first.result) (drop c.saturating_sub-first.result l)) c.in_ok-uploads.uploads.items) c.deref.ensures.value c.in_ok-uploads.ensures.of)) in
    omega (arith, last.1, c.told_of-told.ensures.all, ap length c.deref-2.ensures.value, c.in_ok-uploads.uploads.ok.0, c.requires.some, c.saturating_sub-first.ensures, c.len.ensures)
