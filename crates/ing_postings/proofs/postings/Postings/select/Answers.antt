use Rattle.std.proofs.Common.{◌<◌, All, length, filter, sym, ap, subst, ◌∙◌}
use Rattle.std.specs.List.{slice_get, filter_map, list_all}
use Rattle.std.specs.List.Sorted.{IsStrictlyIncreasing}
use Rattle.ing_labels.specs.Selectors.{IsSelector, selects}
use Rattle.ing_postings.specs.Streams.{numbers_of, selected, picks_at}
use Rattle.ing_postings.proofs.Numbers.{rising-filter}
use Rattle.ing_postings.proofs.Narrowed.{one_finds, walk_finds, walk_within, walk_rises}
use Rattle.std.proofs.lemmas.List.Elements.{All-filter}
use Rattle.std.proofs.lemmas.Result.{IfOk-weaker}
use Rattle.ing_postings.proofs.Walked.{read_kept, none_asks}
use Rattle.ing_postings.proofs.postings.Postings.select.Goals as goal

pub unreachable-requires : goal.unreachable-requires
unreachable-requires c =
    none_asks c.matchers-matchers.result.now (subst IsSelector (sym c.matchers-matchers.ensures.matchers) c.matchers-matchers.ensures.narrow).narrow c.in_default.ensures.none

pub numbers_at-requires : goal.numbers_at-requires
numbers_at-requires c =
    subst (λ ys. All (λ p. p < length ys) c.in-Some.places.now) (sym c.deref.ensures.value) (walk_within c.self.inside.index c.matchers-matchers.result.now c.self.inside.streams.items c.in-Some.places.now c.self.invariant.index c.in-Some.ensures.named)

pub returns-then-matchers-eq1-clause-found : goal.returns-then-matchers-eq1-clause-found
returns-then-matchers-eq1-clause-found c =
    let xs = c.self.inside.streams.items in
    let ms = c.matchers-matchers.result.now in
    let places = c.in-Some.places.now in
    IfOk-weaker c.numbers_at.result _ _ (λ found h.
    h
    ∙ ap (λ ys. numbers_of (filter_map (slice_get ys) places)) c.deref.ensures.value
    ∙ ap numbers_of (one_finds c.self.inside.index ms xs places c.self.invariant.index c.if-matchers-eq1.true c.in-Some.ensures.named)
    ∙ ap (λ sel. numbers_of (selected sel xs)) c.matchers-matchers.ensures.matchers
    ∙ ap (λ ys. numbers_of (selected c.args.selector.now ys)) c.self.view_is) c.numbers_at.ensures

pub returns-then-matchers-eq1-clause-rising : goal.returns-then-matchers-eq1-clause-rising
returns-then-matchers-eq1-clause-rising c =
    let rising = subst (λ ys. IsStrictlyIncreasing (numbers_of ys)) c.self.view_is c.self.invariant.rising in
    IfOk-weaker c.numbers_at.result _ _ (λ found h. subst IsStrictlyIncreasing (sym h) (rising-filter (λ s. selects c.args.selector.now s.labels) c.args.self.now rising)) (returns-then-matchers-eq1-clause-found c)

pub kept_places-requires-clause-within : goal.kept_places-requires-clause-within
kept_places-requires-clause-within c =
    subst (λ ys. All (λ p. p < length ys) c.in-Some.places.now) (sym c.deref-2.ensures.value) (walk_within c.self.inside.index c.matchers-matchers.result.now c.self.inside.streams.items c.in-Some.places.now c.self.invariant.index c.in-Some.ensures.named)

pub kept_places-requires-clause-rising : goal.kept_places-requires-clause-rising
kept_places-requires-clause-rising c = walk_rises c.self.inside.index c.matchers-matchers.result.now c.self.inside.streams.items c.in-Some.places.now c.self.invariant.index c.in-Some.ensures.named

pub numbers_at-requires-2 : goal.numbers_at-requires-2
numbers_at-requires-2 c =
    let ms = c.matchers-matchers.result.now in
    let places = c.in-Some.places.now in
    let within = walk_within c.self.inside.index ms c.self.inside.streams.items places c.self.invariant.index c.in-Some.ensures.named in
    subst (λ ys. All (λ p. p < length ys) c.deref-4.result.now) (sym c.deref-3.ensures.value) (subst (All (λ p. p < length c.self.inside.streams.items)) (sym (c.deref-4.ensures.value ∙ c.in_ok-kept.ensures)) (All-filter (λ p. list_all (λ m. picks_at c.deref-2.result.now m p) ms) (λ p. p < length c.self.inside.streams.items) places within))

pub returns-clause-found : goal.returns-clause-found
returns-clause-found c =
    let xs = c.self.inside.streams.items in
    let ms = c.matchers-matchers.result.now in
    let places = c.in-Some.places.now in
    let all = walk_finds c.self.inside.index ms xs places c.self.invariant.index c.in-Some.ensures.named in
    IfOk-weaker c.numbers_at-2.result _ _ (λ found h.
    h
    ∙ ap (λ ys. numbers_of (filter_map (slice_get ys) c.deref-4.result.now)) c.deref-3.ensures.value
    ∙ ap (λ ps. numbers_of (filter_map (slice_get xs) ps)) (c.deref-4.ensures.value ∙ c.in_ok-kept.ensures)
    ∙ ap (λ ys. numbers_of (filter_map (slice_get xs) (filter (λ p. list_all (λ m. picks_at ys m p) ms) places))) c.deref-2.ensures.value
    ∙ ap numbers_of (read_kept xs ms places ∙ all)
    ∙ ap (λ sel. numbers_of (selected sel xs)) c.matchers-matchers.ensures.matchers
    ∙ ap (λ ys. numbers_of (selected c.args.selector.now ys)) c.self.view_is) c.numbers_at-2.ensures

pub returns-clause-rising : goal.returns-clause-rising
returns-clause-rising c =
    let rising = subst (λ ys. IsStrictlyIncreasing (numbers_of ys)) c.self.view_is c.self.invariant.rising in
    IfOk-weaker c.numbers_at-2.result _ _ (λ found h. subst IsStrictlyIncreasing (sym h) (rising-filter (λ s. selects c.args.selector.now s.labels) c.args.self.now rising)) (returns-clause-found c)
