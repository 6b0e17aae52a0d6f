use Rattle.std.proofs.Common.{◌≡◌, ◌+◌, ◌<◌, suc, arith, length, map, sym, subst, take, ap, ◌∙◌}
use Rattle.std.specs.Prelude.{All}
use Rattle.std.proofs.lemmas.List.Elements.{All-push}
use Rattle.ing_diary.specs.Fronts.{stream_of}
use Rattle.ing_diary.proofs.FrontLaws.{Count, are_fronts, fronts_of, next_front, whole_taken}
use Rattle.ing_diary.proofs.fronts.Fronts.of_shard.Goals as goal

pub loop-number-preserved : goal.loop-number-preserved
loop-number-preserved g c =
    let rows = c.args.shard.now.state.rows in
    let listed = c.args.shard.now.listed in
    let place = c.loop-number.number in
    let fs = c.loop-number.streams.items in
    let front = c.in_ok-front_of.field-0 in
    let next : suc place ≡ place + 1 = omega arith in
    let below : place < length listed = omega (arith, c.loop-number-test.true, c.stream_count-number-end.ensures) in
    record {
      keys =
          subst (λ n. map stream_of c.push.new.self.items ≡ take n listed) next
          (ap (map stream_of) c.in_ok-push.ensures.items
          ∙ next_front rows listed place fs front below c.in_ok-front_of.ensures.key c.loop-number.invariant.keys);
      counts = subst (All (Count rows)) (sym c.in_ok-push.ensures.items) (All-push (Count rows) fs front c.loop-number.invariant.counts c.in_ok-front_of.ensures.front);
    }

pub invariant_of-result : goal.invariant_of-result
invariant_of-result g c =
    let rows = c.args.shard.now.state.rows in
    let listed = c.args.shard.now.listed in
    let fs = c.loop-number.streams.items in
    let gs = c.sort.new.streams.items in
    let whole = whole_taken listed c.loop-number.number _ c.stream_count-number-end.ensures (λ below. omega (arith, below, c.loop-number-test.false)) in
    are_fronts rows fs gs c.loop-number.invariant.counts c.sort.ensures.same c.sort.ensures.sorted
    (fronts_of rows listed fs gs c.rows_are_listed.ensures (c.loop-number.invariant.keys ∙ whole) c.loop-number.invariant.counts c.sort.ensures.same)

pub returns : goal.returns
returns g c =
    let rows = c.args.shard.now.state.rows in
    let listed = c.args.shard.now.listed in
    let fs = c.loop-number.streams.items in
    let gs = c.sort.new.streams.items in
    let whole = whole_taken listed c.loop-number.number _ c.stream_count-number-end.ensures (λ below. omega (arith, below, c.loop-number-test.false)) in
    fronts_of rows listed fs gs c.rows_are_listed.ensures (c.loop-number.invariant.keys ∙ whole) c.loop-number.invariant.counts c.sort.ensures.same
