use Rattle.std.proofs.Common.{◌≡◌, ◌==◌, not, true, length, filter, sym, ap, subst, ◌∙◌}
use Rattle.std.specs.List.Sorted.{IsStrictlyIncreasing}
use Rattle.std.proofs.lemmas.Result.{IfOk-weaker}
use Rattle.ing_labels.specs.Selectors.{agrees}
use Rattle.ing_postings.specs.Streams.{is_in, places_of}
use Rattle.ing_postings.proofs.Places.{places_rise}
use Rattle.ing_postings.proofs.Walked.{non_decreasing, listed_picks}
use Rattle.ing_postings.proofs.postings.kept_by.Goals as goal

pub walked-requires-clause-places : goal.walked-requires-clause-places
walked-requires-clause-places c = non_decreasing c.args.places.now c.requires.rising

pub walked-requires-clause-list : goal.walked-requires-clause-list
walked-requires-clause-list c =
    let m = c.args.matcher.now in
    let is : c.list_at-list.result.now ≡ places_of m.name m.value c.args.streams.now = cc (c.requires.indexed m.name m.value) in
    non_decreasing _ (subst IsStrictlyIncreasing (sym is) (places_rise m.name m.value c.args.streams.now))

pub returns : goal.returns
returns c =
    let m = c.args.matcher.now in
    let is : c.list_at-list.result.now ≡ places_of m.name m.value c.args.streams.now = cc (c.requires.indexed m.name m.value) in
    let some : not (length m.value == 0) ≡ true = ap (λ v. not (length v == 0)) (sym c.value.ensures) ∙ ap not (sym c.is_empty.ensures ∙ c.if-is_empty.false) in
    IfOk-weaker c.walked.result _ _ (λ kept h.
    h
    ∙ ap (λ op. filter (λ p. agrees op (is_in p c.list_at-list.result.now)) c.args.places.now) c.op.ensures
    ∙ ap (λ list. filter (λ p. agrees m.op (is_in p list)) c.args.places.now) is
    ∙ listed_picks c.args.streams.now m c.args.places.now some c.requires.within) c.walked.ensures
