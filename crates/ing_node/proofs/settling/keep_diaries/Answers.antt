use Rattle.std.proofs.Common.{◌≡◌, ◌+◌, suc, arith, List, sym, subst, ◌∙◌, take, take_all}
use Rattle.std.specs.Prelude.{All}
use Rattle.ing_node.specs.Diaries.{KeepsDiary, PusherState}
use Rattle.ing_begun.proofs.Lists.{all_next}
use Rattle.ing_node.proofs.settling.keep_diaries.Goals as goal

pub loop-pusher-preserved : goal.loop-pusher-preserved
loop-pusher-preserved g c =
    let all = c.args.pushers.now in
    let place = c.loop-pusher.pusher-index in
    let pusher = c.pusher-item.result in
    let next : suc place ≡ place + 1 = omega arith in
    subst (λ n. All KeepsDiary (take n all)) next
    (all_next KeepsDiary all place pusher pusher c.loop-pusher-test.true c.pusher-item.is (sym c.keeps_diary.ensures ∙ c.if-not-keeps_diary.false) c.loop-pusher.invariant)

pub returns-clause-yes : goal.returns-clause-yes
returns-clause-yes g c kept =
    let all = c.args.pushers.now in
    subst (λ (ps : List PusherState). All KeepsDiary ps) (take_all c.loop-pusher.pusher-index all (omega (arith, c.loop-pusher-test.false))) c.loop-pusher.invariant
