use Rattle.std.proofs.Common.{◌<◌, length, filter, take, All, rules, sym, ap, subst, ◌∙◌}
use Rattle.std.specs.List.{list_all}
use Rattle.std.specs.List.Sorted.{IsStrictlyIncreasing}
use Rattle.std.proofs.lemmas.List.{take_all}
use Rattle.std.proofs.lemmas.List.Kept.{IsStrictlyIncreasing-filter}
use Rattle.ing_postings.specs.Streams.{picks_at}
use Rattle.std.proofs.lemmas.List.Elements.{All-filter}
use Rattle.ing_postings.proofs.Walked.{matched_more, no_matcher}
use Rattle.ing_postings.proofs.postings.kept_places.Goals as goal

pub loop-matcher-init : goal.loop-matcher-init
loop-matcher-init c = c.in_ok-kept.ensures.items_if_clones_equal (λ x y h. search rules) ∙ no_matcher c.args.streams.now c.args.places.now

pub kept_by-requires-clause-within : goal.kept_by-requires-clause-within
kept_by-requires-clause-within c =
    subst (All (λ p. p < length c.args.streams.now)) (sym (c.deref.ensures.value ∙ c.loop-matcher.invariant)) (All-filter (λ p. list_all (λ m. picks_at c.args.streams.now m p) (take c.loop-matcher.matcher-index c.args.matchers.now)) (λ p. p < length c.args.streams.now) c.args.places.now c.requires.within)

pub kept_by-requires-clause-rising : goal.kept_by-requires-clause-rising
kept_by-requires-clause-rising c =
    subst IsStrictlyIncreasing (sym (c.deref.ensures.value ∙ c.loop-matcher.invariant)) (IsStrictlyIncreasing-filter (λ p. list_all (λ m. picks_at c.args.streams.now m p) (take c.loop-matcher.matcher-index c.args.matchers.now)) c.args.places.now c.requires.rising)

pub loop-matcher-preserved : goal.loop-matcher-preserved
loop-matcher-preserved c =
    c.in_ok-kept-2.ensures
    ∙ matched_more c.args.streams.now c.args.matchers.now c.loop-matcher.matcher-index c.matcher-item.result c.args.places.now c.deref.result.now c.loop-matcher-test.true c.matcher-item.is (c.deref.ensures.value ∙ c.loop-matcher.invariant)

pub returns : goal.returns
returns c =
    c.loop-matcher.invariant ∙ ap (λ ms. filter (λ p. list_all (λ m. picks_at c.args.streams.now m p) ms) c.args.places.now) (take_all c.loop-matcher.matcher-index c.args.matchers.now c.loop-matcher-test.false)
