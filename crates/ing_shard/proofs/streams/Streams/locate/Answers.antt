use Rattle.std.proofs.Common.{◌≡◌, ◌<◌, ℕ, List, length, refl, map, ap, subst, sym, ◌∙◌, Some, None, Option, IfNone, slice_get}
use Rattle.std.proofs.lemmas.Option.{slice_get_read}
use Rattle.ing_rows.specs.Rows.{StreamKey}
use Rattle.ing_shard.specs.Contents.{stream_of}
use Rattle.ing_shard.specs.Flights.{IsAt, key_in}
use Rattle.ing_shard.specs.OneStream.{Stream}
use Rattle.ing_shard.specs.Streams.{AreDistinct, key_of, position_of, slots_of}
use Rattle.ing_shard.proofs.ChangeLaws.{listed_at}
use Rattle.ing_shard.proofs.LocateLaws.{flies_nowhere, flies_there, is_at, stands_in}
use Rattle.ing_shard.proofs.PositionLaws.{position_splits, splits_within}
use Rattle.ing_shard.proofs.streams.Streams.locate.Goals as goal

always_on_none : {X : Type 0} {P : Type 0} (o : Option X) → P → IfNone o P
always_on_none None p = p
always_on_none (Some x) p = tt

-- a stream that is listed under this number is there
below : (sts : List Stream) (s : StreamKey) (n : ℕ) → AreDistinct sts → position_of s sts ≡ Some n → n < length sts
below sts s n distinct listed = splits_within s sts n (length sts) refl (position_splits s sts n distinct listed)

pub returns-in_err-number-clause-none : goal.returns-in_err-number-clause-none
returns-in_err-number-clause-none g c =
    always_on_none c.from_residual.result
    (flies_nowhere c.args.claimed.now c.args.self.now.list.items (ap (λ f. position_of (key_in f) c.args.self.now.list.items) (sym c.claimed.view_is) ∙ sym c.find.ensures ∙ c.in_err-number.was))

pub index-requires : goal.index-requires
index-requires g c =
    let list = c.args.self.now.list in
    let s = stream_of c.claimed.inside.tenant c.claimed.inside.labels in
    subst (λ n. c.in_ok-number.number < n) (sym list.ok.0) (below list.items s c.in_ok-number.number c.requires.distinct (sym c.find.ensures ∙ c.in_ok-number.was))

pub returns-in_err-index-clause-none : goal.returns-in_err-index-clause-none
returns-in_err-index-clause-none g c =
    always_on_none c.from_residual-in_err-index.result
    (λ (n, i, at).
    let f = c.args.claimed.now in
    let list = c.args.self.now.list in
    let sts = list.items in
    let number = c.in_ok-number.number in
    let st = c.index.result.now in
    let listed : position_of (key_in f) sts ≡ Some number = ap (λ f. position_of (key_in f) sts) (sym c.claimed.view_is) ∙ sym c.find.ensures ∙ c.in_ok-number.was in
    let read : slice_get sts number ≡ Some st = slice_get_read sts _ number st list.ok.0 (subst (λ n. number < n) (sym list.ok.0) (below sts (key_in f) number c.requires.distinct listed)) c.index.ensures in
    c.in_err-index.ensures.none i (stands_in f sts number st read i (subst (λ k. IsAt f k i (map key_of sts) (map slots_of sts)) (flies_there f sts number c.requires.distinct listed (n, i, at)) at)))

pub returns-clause-some : goal.returns-clause-some
returns-clause-some g c =
    let f = c.args.claimed.now in
    let list = c.args.self.now.list in
    let sts = list.items in
    let number = c.in_ok-number.number in
    let st = c.index.result.now in
    let listed : position_of (key_in f) sts ≡ Some number = ap (λ f. position_of (key_in f) sts) (sym c.claimed.view_is) ∙ sym c.find.ensures ∙ c.in_ok-number.was in
    let read : slice_get sts number ≡ Some st = slice_get_read sts _ number st list.ok.0 (subst (λ n. number < n) (sym list.ok.0) (below sts (key_in f) number c.requires.distinct listed)) c.index.ensures in
    is_at f sts number st read c.in_ok-index.index (listed_at (key_in f) sts number st c.requires.distinct listed c.index.ensures).key c.in_ok-index.ensures.some
