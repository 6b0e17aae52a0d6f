use Rattle.std.proofs.Common.{◌≡◌, ◌++◌, length, arith, rules, refl, sym, ap, subst, ◌∙◌, [], ◌∷◌, List, append_assoc}
use Rattle.std.specs.Vec.Iter.{into_iter_items}
use Rattle.std.proofs.lemmas.List.{nil_from_length}
use Rattle.ing_rows.specs.declared.entry.Entry.{Entry}
use Rattle.ctl_feed.specs.Feeds.{FeedsAll}
use Rattle.ctl_feed.proofs.FeedLaws.{feeds_all, feeds_both, feeds_none}
use Rattle.ctl_feed.proofs.entries.feed_entries.Goals as goal

pub loop-entry-init : goal.loop-entry-init
loop-entry-init g c = record {
  all = refl;
  whole = search rules;
  few = rw c.requires.none_waits (omega arith);
  fed = feeds_none c.args.most c.args.loader.now (g.W.Write.contents c.args.writer.now);
}

pub loop-entry-preserved : goal.loop-entry-preserved
loop-entry-preserved g c = record {
  all = append_assoc c.loop-entry.yielded (c.in-Some.entry ∷ []) (into_iter_items c.next.new.self) ∙ ap (λ (l : List Entry). c.loop-entry.yielded ++ l) (sym c.in-Some.ensures.steps.0) ∙ c.loop-entry.invariant.all;
  whole = omega (arith, c.in-Some.ensures.steps.1, c.loop-entry.invariant.whole, ap length c.in-Some.ensures.steps.0);
  few = c.in_ok-feed_entry.ensures.few;
  fed = feeds_both c.args.most c.args.loader.now c.loop-entry.loader c.feed_entry.new.loader c.loop-entry.yielded (c.in-Some.entry ∷ [])
      (g.W.Write.contents c.args.writer.now) (g.W.Write.contents c.loop-entry.writer) (g.W.Write.contents c.feed_entry.new.writer)
      c.loop-entry.invariant.fed c.in_ok-feed_entry.ensures.fed;
}

pub returns-clause-fed : goal.returns-clause-fed
returns-clause-fed g c =
    let most = c.args.most in
    let old = c.args.loader.now in
    let way = c.loop-entry.loader in
    let new = c.load_rest.new.loader in
    let yielded = c.loop-entry.yielded in
    let first = g.W.Write.contents c.args.writer.now in
    let then = g.W.Write.contents c.loop-entry.writer in
    let last = g.W.Write.contents c.load_rest.new.writer in
    let none : into_iter_items c.loop-entry.entry-iterator ≡ [] = nil_from_length (into_iter_items c.loop-entry.entry-iterator) (sym c.loop-entry.invariant.whole ∙ c.in-None.ensures.steps.0) in
    let all : yielded ++ [] ≡ c.args.entries.items =
    ap (λ (l : List Entry). yielded ++ l) (sym none) ∙ c.loop-entry.invariant.all ∙ c.into_iter-entry-iterator.ensures.into_iter_gives.0 in
    subst (λ (l : List Entry). FeedsAll most old.tenant old.now old.labels l first last) all
    (feeds_all most old new (yielded ++ []) first last c.requires.none_waits c.in_ok-load_rest.ensures.none_waits
    (feeds_both most old way new yielded [] first then last c.loop-entry.invariant.fed (c.in_ok-load_rest.ensures.fed most c.loop-entry.invariant.few)))
