use Rattle.std.proofs.Common.{◌≡◌, ◌∙◌, ap, length, map, subst, sym}
use Rattle.ing_durable.specs.Kept.{whose}
use Rattle.ing_session.specs.Replies.{report_data}
use Rattle.ing_service.specs.ByShards.{fronts_of, reports_of}
use Rattle.ing_service.specs.Held.{Held, shard_held}
use Rattle.ing_service.proofs.WhoseLaws.{how_many}
use Rattle.ing_service.proofs.owned.OwnShardsReporter.report.Goals as goal

pub returns : goal.returns
returns g c = λ held is.
    let had = fronts_of g.N.Beginning.begun.shards in
    subst (λ (h : Held). report_data c.in_ok-reports.reports.items ≡ report_data (reports_of had h.shards)) (sym is)
    (ap report_data (c.in_ok-reports.ensures ∙ ap (λ l. reports_of l (map (λ seat. shard_held seat.shard) c.deref.result.now)) (c.deref-2.ensures.value ∙ c.args.self.now.had)
    ∙ ap (λ l. reports_of had (map (λ seat. shard_held seat.shard) l)) c.deref.ensures.value))

-- each shard has begun with a number of entries
pub reports_of_each-requires : goal.reports_of_each-requires
reports_of_each-requires g c =
    let own = c.args.self.now in
    ap length c.deref-2.ensures.value ∙ sym own.recovered.ok.0 ∙ own.all_had ∙ sym (how_many (λ seat. whose seat.shard.memory) own.settings own.seats.items own.shards) ∙ ap length (sym c.deref.ensures.value)
