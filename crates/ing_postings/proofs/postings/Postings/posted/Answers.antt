use Rattle.std.proofs.Common.{◌≡◌, ◌<◌, IfOk, All, filter, length, sym, ap, subst, ◌∙◌}
use Rattle.std.specs.List.{slice_get, filter_map}
use Rattle.std.specs.List.Sorted.{IsStrictlyIncreasing}
use Rattle.std.proofs.lemmas.Result.{IfOk-weaker}
use Rattle.ing_postings.specs.Streams.{numbers_of, has_label, posted, postings_of}
use Rattle.ing_postings.proofs.Numbers.{rising-filter}
use Rattle.ing_postings.proofs.Places.{places_within, places_read}
use Rattle.ing_postings.proofs.PostingSets.{labelled_is_posted}
use Rattle.ing_postings.proofs.postings.Postings.posted.Goals as goal

pub numbers_at-requires : goal.numbers_at-requires
numbers_at-requires c =
    let xs = c.self.inside.streams.items in
    let is = c.list_at.ensures ∙ c.self.invariant.index c.args.name.now c.args.value.now in
    subst (λ ys. All (λ p. p < length ys) c.list_at.result.now) (sym c.deref.ensures.value) (subst (All (λ p. p < length xs)) (sym is) (places_within c.args.name.now c.args.value.now xs))

found : (c : goal.After-numbers_at) → IfOk c.numbers_at.result (λ found. found.items ≡ numbers_of (filter (λ s. has_label c.args.name.now c.args.value.now s.labels) c.self.inside.streams.items))
found c =
    let xs = c.self.inside.streams.items in
    IfOk-weaker c.numbers_at.result _ _ (λ found h.
    h
    ∙ ap (λ ys. numbers_of (filter_map (slice_get ys) c.list_at.result.now)) c.deref.ensures.value
    ∙ ap (λ ps. numbers_of (filter_map (slice_get xs) ps)) (c.list_at.ensures ∙ c.self.invariant.index c.args.name.now c.args.value.now)
    ∙ ap numbers_of (places_read c.args.name.now c.args.value.now xs)) c.numbers_at.ensures

pub returns-clause-posted : goal.returns-clause-posted
returns-clause-posted c = IfOk-weaker c.numbers_at.result _ _ (λ found h. h ∙ labelled_is_posted c.args.name.now c.args.value.now c.self.inside.streams.items ∙ ap (λ ys. posted c.args.name.now c.args.value.now (postings_of ys)) c.self.view_is) (found c)

pub returns-clause-rising : goal.returns-clause-rising
returns-clause-rising c = IfOk-weaker c.numbers_at.result _ _ (λ found h. subst IsStrictlyIncreasing (sym h) (rising-filter (λ s. has_label c.args.name.now c.args.value.now s.labels) c.self.inside.streams.items c.self.invariant.rising)) (found c)
