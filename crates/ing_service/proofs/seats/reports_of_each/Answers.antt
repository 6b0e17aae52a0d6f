use Rattle.std.proofs.Common.{◌≡◌, ◌∙◌, ◌-◌, ◌+◌, ◌<◌, ◌++◌, ◌∷◌, [], ap, arith, get_or, length, map, refl, subst, sym, take}
use Rattle.std.proofs.lemmas.List.{length-map, length-take, take_more}
use Rattle.ing_durable.specs.Contents.{Contents}
use Rattle.ing_rows.specs.Rows.{IsSame}
use Rattle.ing_tally.specs.declared.report.ShardReport.{ShardReport}
use Rattle.ing_service.specs.ByShards.{reports_of, shard_report}
use Rattle.ing_service.specs.Held.{shard_held}
use Rattle.ing_service.proofs.EachLaws.{first_more}
use Rattle.ing_service.proofs.FlushLaws.{same_refl}
use Rattle.ing_service.proofs.ObeyLaws.{reports_more}
use Rattle.ing_service.proofs.seats.reports_of_each.Goals as goal

-- a report more
pub loop-place-preserved : goal.loop-place-preserved
loop-place-preserved g c =
    let i = c.loop-place.place in
    let d = c.index-seats-place.result in
    let seat = get_or c.args.seats.now i d in
    let state = seat.shard.memory.state in
    let had = get_or c.args.recovered.now i 0 in
    let held = map (λ seat. shard_held seat.shard) c.args.seats.now in
    let counts = c.totals-total.ensures.totals state (subst (λ (m : Contents). IsSame m.state state) (sym c.memory.ensures) (same_refl state)) in
    let same : length c.args.recovered.now ≡ length c.args.seats.now = c.requires in
    let there : i < length c.args.recovered.now = omega (arith, same, c.loop-place-test.true) in
    let long : length (take i c.args.recovered.now) ≡ length (take i held) = omega (arith, same, length-take i c.args.recovered.now, length-take i held, length-map c.args.seats.now (λ seat. shard_held seat.shard)) in
    let since : c.saturating_sub.result ≡ length state.rows - had = c.saturating_sub.ensures ∙ (λ k. (counts k).0 - had) in
    let told : ShardReport = record { accepted = c.saturating_sub.result; kept = c.totals-total.result.0 - c.totals-total.result.1; recovered = had; stored = c.totals-total.result.1 } in
    let is : told ≡ shard_report had state = λ k. record { accepted = since k; kept = (counts k).0 - (counts k).1; recovered = had; stored = (counts k).1 } in
    c.in_ok-push.ensures.items ∙ ap (λ l. l ++ told ∷ []) c.loop-place.invariant ∙ ap (λ r. reports_of (take i c.args.recovered.now) (take i held) ++ r ∷ []) is
    ∙ sym (reports_more (take i c.args.recovered.now) (take i held) had (shard_held seat.shard) long)
    ∙ ap (λ l. reports_of l (take i held ++ shard_held seat.shard ∷ [])) (sym (take_more c.args.recovered.now i 0 there))
    ∙ ap (reports_of (take (i + 1) c.args.recovered.now)) (sym (first_more (λ seat. shard_held seat.shard) c.args.seats.now i seat d c.loop-place-test.true refl))
