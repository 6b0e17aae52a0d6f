use Rattle.std.proofs.Common.{sym, subst, ◌∙◌}
use Rattle.ing_postings.proofs.Posted.{Posts, posts_start, posts_more}
use Rattle.std.specs.FinMap.{entries}
use Rattle.ing_postings.proofs.postings.post.Goals as goal

pub loop-name-init : goal.loop-name-init
loop-name-init c = (tt, tt, subst (λ left. Posts (entries c.args.labels.now) left c.args.place c.args.index.now c.args.index.now) (sym c.pairs-name-items.ensures.pairs ∙ sym c.into_iter-name-iterator.ensures.into_iter_gives) (posts_start c.args.labels.now c.args.place c.args.index.now c.requires))

pub loop-name-preserved : goal.loop-name-preserved
loop-name-preserved c = (tt, tt, posts_more _ _ _ _ _ _ _ _ (subst (λ left. Posts (entries c.args.labels.now) left c.args.place c.args.index.now c.loop-name.index) c.in-Some.ensures.steps c.loop-name.invariant.2) c.post_one.ensures.posted c.post_one.ensures.kept)
