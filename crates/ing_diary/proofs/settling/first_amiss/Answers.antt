use Rattle.std.proofs.Common.{◌≡◌, ◌+◌, ◌<◌, suc, ap, sym, subst, ◌∙◌, arith, length, take, take_all}
use Rattle.std.specs.Ordering.{is_lt}
use Rattle.ing_diary.proofs.NoteLaws.{at_behind, at_behind_other, at_greater, at_less, at_other, at_same, got, there, turned_less}
use Rattle.ing_diary.specs.Notes.{IsAmiss}
use Rattle.ing_diary.proofs.settling.first_amiss.Goals as goal

pub returns-then-place-theirs-clause-amiss : goal.returns-then-place-theirs-clause-amiss
returns-then-place-theirs-clause-amiss c =
    let place = c.loop-place.place in
    let mine = there c.args.ours.now place c.loop-place-test.true in
    subst (IsAmiss c.args.ours.now c.args.theirs.now) (sym mine.1)
    (at_behind c.args.ours.now c.args.theirs.now place c.loop-place.invariant.1 mine.0 mine.1
    (take_all place c.args.theirs.now (omega (arith, c.if-place-theirs.true))))

pub returns-in-Less-clause-amiss : goal.returns-in-Less-clause-amiss
returns-in-Less-clause-amiss c =
    let place = c.loop-place.place in
    let x = c.index-ours-place.result in
    let y = c.index-theirs-place.result in
    let below : place < length c.args.theirs.now = omega (arith, c.loop-place.invariant.0, c.if-place-theirs.false) in
    subst (IsAmiss c.args.ours.now c.args.theirs.now) (sym (got c.args.ours.now place x x c.loop-place-test.true c.index-ours-place.is))
    (at_less c.args.ours.now c.args.theirs.now place c.loop-place.invariant.1 x y
    (got c.args.ours.now place x x c.loop-place-test.true c.index-ours-place.is)
    (got c.args.theirs.now place y y below c.index-theirs-place.is)
    c.requires.theirs (ap is_lt (sym c.compare.ensures ∙ c.in-Less.is)))

pub returns-in-Greater-clause-amiss : goal.returns-in-Greater-clause-amiss
returns-in-Greater-clause-amiss c =
    let place = c.loop-place.place in
    let x = c.index-ours-place.result in
    let y = c.index-theirs-place.result in
    let below : place < length c.args.theirs.now = omega (arith, c.loop-place.invariant.0, c.if-place-theirs.false) in
    subst (IsAmiss c.args.ours.now c.args.theirs.now) (sym (got c.args.theirs.now place y y below c.index-theirs-place.is))
    (at_greater c.args.ours.now c.args.theirs.now place c.loop-place.invariant.1 x y
    (got c.args.ours.now place x x c.loop-place-test.true c.index-ours-place.is)
    (got c.args.theirs.now place y y below c.index-theirs-place.is)
    c.requires.ours (turned_less x y (sym c.compare.ensures ∙ c.in-Greater.is)))

pub returns-then-not-is_same_entry-clause-amiss : goal.returns-then-not-is_same_entry-clause-amiss
returns-then-not-is_same_entry-clause-amiss c =
    let place = c.loop-place.place in
    let x = c.index-ours-place.result in
    let y = c.index-theirs-place.result in
    let below : place < length c.args.theirs.now = omega (arith, c.loop-place.invariant.0, c.if-place-theirs.false) in
    subst (IsAmiss c.args.ours.now c.args.theirs.now) (sym (got c.args.ours.now place x x c.loop-place-test.true c.index-ours-place.is))
    (at_other c.args.ours.now c.args.theirs.now place c.loop-place.invariant.1 x y
    (got c.args.ours.now place x x c.loop-place-test.true c.index-ours-place.is)
    (got c.args.theirs.now place y y below c.index-theirs-place.is)
    (sym c.compare.ensures ∙ c.in-Equal.is)
    (c.is_same_entry.ensures.no c.if-not-is_same_entry.true))

pub loop-place-preserved : goal.loop-place-preserved
loop-place-preserved c =
    let ours = c.args.ours.now in
    let theirs = c.args.theirs.now in
    let place = c.loop-place.place in
    let x = c.index-ours-place.result in
    let y = c.index-theirs-place.result in
    let below : place < length theirs = omega (arith, c.loop-place.invariant.0, c.if-place-theirs.false) in
    let next : suc place ≡ place + 1 = omega arith in
    let same = at_same ours theirs place c.loop-place.invariant.1 x y
    (got ours place x x c.loop-place-test.true c.index-ours-place.is)
    (got theirs place y y below c.index-theirs-place.is)
    (sym c.compare.ensures ∙ c.in-Equal.is)
    (c.is_same_entry.ensures.yes c.if-not-is_same_entry.false) in
    (omega (arith, below), subst (λ n. take n ours ≡ take n theirs) next same)

pub returns-then-ours-theirs-clause-amiss : goal.returns-then-ours-theirs-clause-amiss
returns-then-ours-theirs-clause-amiss c =
    let ours = c.args.ours.now in
    let theirs = c.args.theirs.now in
    let place = c.loop-place.place in
    let other = there theirs (length ours) c.if-ours-theirs.true in
    let end : place ≡ length ours = omega (arith, c.loop-place-test.false, c.loop-place.auto.place-end) in
    let same : take (length ours) ours ≡ take (length ours) theirs = subst (λ n. take n ours ≡ take n theirs) end c.loop-place.invariant.1 in
    subst (IsAmiss ours theirs) (sym other.1)
    (at_behind_other ours theirs (length ours) same other.0 other.1 (take_all (length ours) ours (omega arith)))
