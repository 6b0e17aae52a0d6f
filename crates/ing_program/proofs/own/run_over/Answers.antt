use Rattle.std.proofs.Common.{◌∙◌, ap, subst, sym, inl, inr, reverse}
use Rattle.std.specs.Prelude.{◌⊎◌, IsTrue, map}
use Rattle.std.proofs.lemmas.Result.{IfErr-weaker}
use Rattle.ing_lanes.specs.Recovering.{IsLowestRefused}
use Rattle.ing_lanes.specs.Runs.{HasWritten, Seen}
use Rattle.ing_lanes.specs.Endings.{IsNotRecovered, is_of_run}
use Rattle.ing_lanes.specs.Ending.TheVariants.{NotRecovered}
use Rattle.ing_lanes.proofs.EndingsLaws.{not_of_run, not_recovered, recover_ending, recover_unbegun, same_ending}
use Rattle.ing_lanes.proofs.RunsLaws.{ends_of_run}
use Rattle.ing_service.specs.ByShards.{by_shards}
use Rattle.ing_limits.specs.Settings.{StoreSettings}
use Rattle.ing_service.specs.Clocks.{heard_by}
use Rattle.ing_service.specs.Ends.{failures_in}
use Rattle.ing_service.specs.Held.{BeginsOver}
use Rattle.ing_program.proofs.OwnLaws.{begins_over, begun_with}
use Rattle.ing_program.proofs.own.run_over.Goals as goal

pub returns-in-Ok-clause-written : goal.returns-in-Ok-clause-written
returns-in-Ok-clause-written g c =
    let failures = failures_in g.S.StoreEnd.failure_count in
    let contents = g.W.Write.contents in
    let remaining = g.I.Read.remaining in
    let ended = c.run_begun.new in
    let shards = c.in-Ok.shards in
    let begun = begun_with (reverse shards.last_first.items) in
    let texts = map (λ log. (g.D.LogDisk.seen log).now.bytes) c.args.logs.items in
    let begins = subst (λ s. BeginsOver g.D.LogDisk.is_honest s texts begun) c.in-Ok.ensures.settings
    (begins_over g.D.LogDisk.is_honest shards.settings (λ log. (g.D.LogDisk.seen log).now.bytes) c.args.logs.items shards.last_first.items
    (sym shards.last_first.ok.0 ∙ shards.all ∙ ap (λ s. s.shards) c.in-Ok.ensures.settings ∙ sym c.requires.logs ∙ c.args.logs.ok.0) shards.placed c.in-Ok.ensures.replays) in
    let seen : StoreSettings → Seen = λ s. record {
      input = remaining c.args.reader.now;
      rest = remaining ended.reader;
      ticks = heard_by s (g.P.Ticker.said ended.ticker);
      before = failures c.args.ends.now;
      after = failures ended.ends;
      old = contents c.args.writer.now;
      new = contents ended.writer;
    } in
    inr (begun, begins, subst (λ s. HasWritten (by_shards g.S.StoreEnd.is_honest begun) s (seen s) c.run_begun.result) c.in-Ok.ensures.settings c.run_begun.ensures.written)

pub returns-in-Ok-clause-ending : goal.returns-in-Ok-clause-ending
returns-in-Ok-clause-ending g c =
    IfErr-weaker c.run_begun.result (λ e. IsTrue (is_of_run e)) (λ e. IsTrue (is_of_run e) ⊎ IsNotRecovered e) (λ e of_run. inl of_run) (ends_of_run _ _ _ c.run_begun.result c.run_begun.ensures.written)

-- a shard is not made again
pub returns-in-Err-clause-written : goal.returns-in-Err-clause-written
returns-in-Err-clause-written g c = inl (recover_unbegun (Unit {0}) c.args.writer.now c.from.result c.in-Err.fault c.from.ensures)

pub returns-in-Err-clause-ending : goal.returns-in-Err-clause-ending
returns-in-Err-clause-ending g c =
    subst (λ e. IsTrue (is_of_run e) ⊎ IsNotRecovered e) (sym c.from.ensures) (recover_ending c.in-Err.fault)

pub returns-in-Err-clause-refused : goal.returns-in-Err-clause-refused
returns-in-Err-clause-refused g c = λ fault is.
    let D = g.D.LogDisk in
    let backs = c.in-Err._logs.items in
    let ending = same_ending c.from.result (NotRecovered fault) is in
    let told = not_recovered c.in-Err.fault fault (sym c.from.ensures ∙ ending) in
    (backs, subst (λ f. IsLowestRefused D.is_honest D.seen D.failure_count c.args.settings c.args.logs.items f backs) told.0 (c.in-Err.ensures.refused told.1))

pub returns-in-Ok-clause-refused : goal.returns-in-Ok-clause-refused
returns-in-Ok-clause-refused g c = λ fault is. absurd (not_of_run c.run_begun.result fault (ends_of_run _ _ _ c.run_begun.result c.run_begun.ensures.written) is)
