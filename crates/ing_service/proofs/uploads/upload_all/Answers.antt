use Rattle.std.proofs.Common.{◌≡◌, ◌∙◌, ◌+◌, ◌++◌, ap, arith, drop, length, subst, sum_by, sym, take}
use Rattle.ing_session.specs.Causes.{HaveCause}
use Rattle.ing_service.proofs.EachLaws.{written_back}
use Rattle.ing_service.specs.Ends.{failed_in, lost_in, up_to_last}
use Rattle.ing_service.proofs.EndsLaws.{all_told}
use Rattle.ing_service.proofs.uploads.upload_all.Goals as goal

pub returns-clause-causes : goal.returns-clause-causes
returns-clause-causes g c =
    let count = g.S.StoreEnd.failure_count in
    let noted = c.in_ok-noted.noted in
    let new = c.upload_aside.new.noted in
    let back : take noted.len (new ++ drop (length new) noted.items) ≡ new = written_back noted.len noted.items new noted.ok.0 (c.in_ok-upload_aside.ensures.many ∙ ap length c.deref_mut.ensures.value) in
    let aside = subst (λ l. HaveCause (sum_by count c.args.ends.now.others.items) (sum_by count c.upload_aside.new.ends.items) (failed_in l))
    (sym (c.deref_mut-2.ensures.value ∙ back)) c.in_ok-upload_aside.ensures.causes in
    all_told (λ all. lost_in all.items) (count c.args.ends.now.own) (count c.upload_rest.new.own) (sum_by count c.args.ends.now.others.items) (sum_by count c.upload_aside.new.ends.items)
    (failed_in c.deref_mut-2.result.now) c.upload_rest.result aside c.upload_rest.ensures.causes

pub returns-clause-end : goal.returns-clause-end
returns-clause-end g c =
    let own = c.upload_rest.ensures.end in
    let others = c.upload_aside.ensures.end in (
      omega (arith, own.0, others.0),
      λ sure. (
          let here = own.1 sure.0 in
          let there = others.1 sure.1 in (
            (here.0, there.0),
            ap up_to_last ((λ i. here.1 i + there.1 i)),
          )
          ),
    )
