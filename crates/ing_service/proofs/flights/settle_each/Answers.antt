use Rattle.std.proofs.Common.{◌≡◌, ◌∙◌, ◌++◌, ◌∷◌, [], All, AllPairs, Some, ap, arith, get_or, map, subst, sym}
use Rattle.std.specs.Prelude.{IfSome, vec_len}
use Rattle.std.proofs.lemmas.List.{nil_from_length}
use Rattle.std.proofs.lemmas.List.Elements.{All-pop}
use Rattle.ing_limits.specs.Ranges.{rules_for}
use Rattle.ing_service.specs.Ends.{IsUploadOf, lost_in}
use Rattle.ing_service.specs.Flushes.{settled_as}
use Rattle.ing_service.specs.Flying.{AreApart, FliesIn, IsLentBy}
use Rattle.ing_service.specs.Held.{shard_held}
use Rattle.std.proofs.lemmas.List.Sums.{sum_by_push}
use Rattle.ing_service.specs.Ends.{lost_by}
use Rattle.ing_service.proofs.FlightsLaws.{both_more, chunks_more, failed_more, pairs_split}
use Rattle.ing_service.proofs.FlushLaws.{settle_more}
use Rattle.ing_service.proofs.SeatLaws.{lent_here}
use Rattle.ing_service.proofs.UploadsLaws.{zip_last}
use Rattle.ing_service.proofs.flights.settle_each.Goals as goal

pub settle_one-requires-clause-there : goal.settle_one-requires-clause-there
settle_one-requires-clause-there g c =
    let lent = All-pop (λ t. IsLentBy (map (λ seat. seat.shard.memory.books.flight.name) c.loop-upload.seats) t.claimed t.share.book) c.loop-upload.tickets.items c.pop-in-Some.new.self.items (Some c.in-Some-pop.ticket) c.in-Some-pop.ensures.items c.loop-upload.invariant.lent in
    lent_here (λ seat. seat.shard.memory) c.loop-upload.seats c.in-Some-pop.ticket.claimed c.in-Some-pop.ticket.share.book lent.1

pub settle_one-requires-clause-lent : goal.settle_one-requires-clause-lent
settle_one-requires-clause-lent g c = (All-pop (λ t. IsLentBy (map (λ seat. seat.shard.memory.books.flight.name) c.loop-upload.seats) t.claimed t.share.book) c.loop-upload.tickets.items c.pop-in-Some.new.self.items (Some c.in-Some-pop.ticket) c.in-Some-pop.ensures.items c.loop-upload.invariant.lent).1

pub settle_one-requires-clause-flies : goal.settle_one-requires-clause-flies
settle_one-requires-clause-flies g c = (All-pop (λ t. FliesIn (map (λ seat. seat.shard.memory) c.loop-upload.seats) t.claimed) c.loop-upload.tickets.items c.pop-in-Some.new.self.items (Some c.in-Some-pop.ticket) c.in-Some-pop.ensures.items c.loop-upload.invariant.fly).1

pub settle_one-requires-clause-of : goal.settle_one-requires-clause-of
settle_one-requires-clause-of g c =
    (zip_last (λ ticket upload. IfSome upload (IsUploadOf g.R.Receipt.bytes g.R.Receipt.name ticket.claimed)) c.loop-upload.tickets.items c.pop-in-Some.new.self.items c.in-Some-pop.ticket c.loop-upload.uploads.items c.pop.new.self.items c.in-Some.upload
    (vec_len c.loop-upload.tickets) (vec_len c.loop-upload.uploads) (vec_len c.pop-in-Some.new.self) (vec_len c.pop.new.self) c.in-Some-pop.ensures.items c.in-Some.ensures.items c.in-Some-pop.ensures.cases c.in-Some.ensures.cases c.pop-in-Some.new.self.ok.0 c.loop-upload.invariant.of).1

-- one chunk more is settled
pub loop-upload-preserved : goal.loop-upload-preserved
loop-upload-preserved g c =
    let inv = c.loop-upload.invariant in
    let x = c.in-Some-pop.ticket in
    let u = c.in-Some.upload in
    let left = c.pop-in-Some.new.self.items in
    let s = settled_as x.claimed u in
    let lent = All-pop (λ t. IsLentBy (map (λ seat. seat.shard.memory.books.flight.name) c.loop-upload.seats) t.claimed t.share.book) c.loop-upload.tickets.items c.pop-in-Some.new.self.items (Some c.in-Some-pop.ticket) c.in-Some-pop.ensures.items inv.lent in
    let fly = All-pop (λ t. FliesIn (map (λ seat. seat.shard.memory) c.loop-upload.seats) t.claimed) c.loop-upload.tickets.items c.pop-in-Some.new.self.items (Some c.in-Some-pop.ticket) c.in-Some-pop.ensures.items inv.fly in
    let split = pairs_split (λ one other. AreApart one.claimed other.claimed) left x (subst (AllPairs (λ one other. AreApart one.claimed other.claimed)) c.in-Some-pop.ensures.items inv.apart) in
    let next = zip_last (λ ticket upload. IfSome upload (IsUploadOf g.R.Receipt.bytes g.R.Receipt.name ticket.claimed)) c.loop-upload.tickets.items c.pop-in-Some.new.self.items c.in-Some-pop.ticket c.loop-upload.uploads.items c.pop.new.self.items c.in-Some.upload
    (vec_len c.loop-upload.tickets) (vec_len c.loop-upload.uploads) (vec_len c.pop-in-Some.new.self) (vec_len c.pop.new.self) c.in-Some-pop.ensures.items c.in-Some.ensures.items c.in-Some-pop.ensures.cases c.in-Some.ensures.cases c.pop-in-Some.new.self.ok.0 c.loop-upload.invariant.of in
    let less = ap lost_in c.in-Some.ensures.items ∙ sum_by_push lost_by c.pop.new.self.items u in
    record {
      settles = λ settings are.
          let so_far = inv.settles settings are in
          let one = c.in_ok-settle_one.ensures.settles settings (inv.same ∙ are) in (
            so_far.0 ++ s ∷ [],
            settle_more (rules_for settings) so_far.0 s (map (λ seat. shard_held seat.shard) c.args.seats.now) (map (λ seat. shard_held seat.shard) c.loop-upload.seats) (map (λ seat. shard_held seat.shard) c.settle_one.new.seats) so_far.1 one,
            chunks_more (λ t. t.claimed) so_far.0 c.loop-upload.tickets.items left x c.in-Some-pop.ensures.items u _ so_far.2,
            omega (arith, so_far.3, less, failed_more so_far.0 x.claimed u),
            omega (arith, so_far.4, c.in-Some.ensures.cases, both_more so_far.0 x.claimed u),
          );
      few = omega (arith, inv.few, c.in-Some.ensures.cases, c.in-Some-pop.ensures.cases);
      fewer = omega (arith, inv.fewer, c.in-Some.ensures.cases, c.in-Some-pop.ensures.cases);
      of = next.0;
      lent = subst (λ l. All (λ t. IsLentBy l t.claimed t.share.book) left) (sym c.in_ok-settle_one.ensures.books) lent.0;
      fly = λ k d lt. c.in_ok-settle_one.ensures.others (get_or left k d).claimed (split.1 k d lt) (fly.0 k d lt);
      apart = split.0;
      same = c.in_ok-settle_one.ensures.same ∙ inv.same;
    }

pub returns-in_err-settle_one-clause-lent : goal.returns-in_err-settle_one-clause-lent
returns-in_err-settle_one-clause-lent g c =
    let lent = All-pop (λ t. IsLentBy (map (λ seat. seat.shard.memory.books.flight.name) c.loop-upload.seats) t.claimed t.share.book) c.loop-upload.tickets.items c.pop-in-Some.new.self.items (Some c.in-Some-pop.ticket) c.in-Some-pop.ensures.items c.loop-upload.invariant.lent in
    subst (λ l. All (λ t. IsLentBy l t.claimed t.share.book) c.pop-in-Some.new.self.items) (sym c.in_err-settle_one.ensures.books) lent.0

pub returns-in_err-settle_one-clause-apart : goal.returns-in_err-settle_one-clause-apart
returns-in_err-settle_one-clause-apart g c =
    (pairs_split (λ one other. AreApart one.claimed other.claimed) c.pop-in-Some.new.self.items c.in-Some-pop.ticket (subst (AllPairs (λ one other. AreApart one.claimed other.claimed)) c.in-Some-pop.ensures.items c.loop-upload.invariant.apart)).0

pub returns-clause-settles : goal.returns-clause-settles
returns-clause-settles g c = λ settings are.
    let so_far = c.loop-upload.invariant.settles settings are in
    let empty : c.loop-upload.uploads.items ≡ [] = nil_from_length c.loop-upload.uploads.items (omega (arith, c.in_default.ensures.cases.0, c.loop-upload.uploads.ok.0)) in
    let none = ap lost_in empty in
    let lost : lost_in c.loop-upload.uploads.items ≡ 0 = none in
    (so_far.0, so_far.1, so_far.2, omega (arith, so_far.3, lost), omega (arith, so_far.4, c.in_default.ensures.cases.0))
