use Rattle.std.proofs.Common.{◌≡◌, ◌∙◌, ◌++◌, [], All, ap, arith, drop, length, subst, sum_by, sym, take}
use Rattle.ing_session.specs.Causes.{HaveCause}
use Rattle.ing_service.specs.Ends.{failed_in}
use Rattle.ing_service.proofs.EachLaws.{written_back}
use Rattle.ing_service.proofs.EndsLaws.{some_left}
use Rattle.ing_service.proofs.uploads.upload_aside.Goals as goal

pub upload_by-requires-clause-some : goal.upload_by-requires-clause-some
upload_by-requires-clause-some g c = λ κs lives. omega (arith, ap length c.deref_mut.ensures.value, c.lend.new.workers.ok.0, c.lend.ensures.all, some_left c.args.ends.now.len (c.is_empty.ensures) c.if-is_empty.false)

pub upload_by-requires-clause-unnoted : goal.upload_by-requires-clause-unnoted
upload_by-requires-clause-unnoted g c = λ κs lives. subst (All (λ w. w.noted.items ≡ [])) (sym c.deref_mut.ensures.value) c.lend.ensures.unnoted

pub returns-clause-causes : goal.returns-clause-causes
returns-clause-causes g c =
    let count = g.S.StoreEnd.failure_count in
    let own = c.lend.new.workers in
    let value = c.deref_mut.ensures.value in
    let new = c.upload_by.new.workers in
    let back : take own.len (new ++ drop (length new) own.items) ≡ new = written_back own.len own.items new own.ok.0 (c.upload_by.ensures.len ∙ ap length value) in
    let first = ap (sum_by (λ w. count w.end)) value ∙ c.lend.ensures.failures in
    let last = c.take_back.ensures.failures ∙ ap (sum_by (λ w. count w.end)) back in
    subst (λ n. HaveCause n (sum_by count c.take_back.new.ends.items) (failed_in c.upload_by.new.noted)) first
    (subst (λ n. HaveCause (sum_by (λ w. count w.end) c.deref_mut.result.now) n (failed_in c.upload_by.new.noted)) (sym last) c.upload_by.ensures.causes)

pub returns-clause-end : goal.returns-clause-end
returns-clause-end g c =
    let count = g.S.StoreEnd.failure_count in
    let never = g.S.StoreEnd.never_fails in
    let own = c.lend.new.workers in
    let value = c.deref_mut.ensures.value in
    let new = c.upload_by.new.workers in
    let back : take own.len (new ++ drop (length new) own.items) ≡ new = written_back own.len own.items new own.ok.0 (c.upload_by.ensures.len ∙ ap length value) in
    let first = ap (sum_by (λ w. count w.end)) value ∙ c.lend.ensures.failures in
    let last = c.take_back.ensures.failures ∙ ap (sum_by (λ w. count w.end)) back in
    let goes = c.upload_by.ensures.end in (
      omega (arith, goes.0, first, last),
      λ sure. (
          let done = goes.1 (subst (All (λ w. never w.end)) (sym value) (c.lend.ensures.sure sure)) in (
            c.take_back.ensures.sure (subst (All (λ w. never w.end)) (sym back) done.0),
            last ∙ done.1 ∙ first,
          )
          ),
    )
