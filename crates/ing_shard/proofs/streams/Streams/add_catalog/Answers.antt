use Rattle.std.proofs.Common.{◌≡◌, ◌+◌, ◌∙◌, arith, map, subst, sym, take}
use Rattle.std.proofs.lemmas.List.{length-map, take_all}
use Rattle.ing_shard.specs.Catalog.{asked_view}
use Rattle.ing_shard.specs.Streams.{key_of, whole}
use Rattle.ing_shard.proofs.RowLaws.{all_listed}
use Rattle.ing_shard.proofs.TellLaws.{AddsFirst, adds_all, asked_next, unasked_next}
use Rattle.ing_shard.proofs.streams.Streams.add_catalog.Goals.{then-is_asked+in_ok-add, else-is_asked}
use Rattle.ing_shard.proofs.streams.Streams.add_catalog.Goals as goal

-- one stream more is looked at
pub loop-number-preserved : goal.loop-number-preserved
loop-number-preserved g c =
    let asked = asked_view c.args.asked.now in
    let rows = (whole c.args.self.now.list.items).rows in
    let keys = map key_of c.args.self.now.list.items in
    let n = c.loop-number.number in
    let old = c.args.texts.now in
    let seen = c.seen-seen.result in
    let said = c.seen-seen.ensures in
    elim c.if-is_asked.branch [
      | then-is_asked+in_ok-add w ↦
          subst (λ texts. AddsFirst asked rows (take (n + 1) keys) old texts) (sym w.texts-is)
          (asked_next asked rows keys n seen.tenant.now seen.labels.now seen.front old c.loop-number.texts w.add.new.self
          said.key said.labels said.front (sym c.is_asked.ensures ∙ w.if-is_asked.true) c.loop-number.invariant w.in_ok-add.ensures)
      | else-is_asked w ↦
          subst (λ texts. AddsFirst asked rows (take (n + 1) keys) old texts) (sym w.texts-is)
          (unasked_next asked rows keys n seen.tenant.now seen.labels.now seen.front old c.loop-number.texts
          said.key said.labels said.front (sym c.is_asked.ensures ∙ w.if-is_asked.false) c.loop-number.invariant)
    ]

pub returns : goal.returns
returns g c =
    let asked = asked_view c.args.asked.now in
    let sts = c.args.self.now.list.items in
    let rows = (whole sts).rows in
    let keys = map key_of sts in
    let n = c.loop-number.number in
    let all : take n keys ≡ keys = take_all n keys (omega (arith, length-map sts key_of, c.loop-number-test.false, c.len-number-end.ensures, c.args.self.now.list.ok.0)) in
    adds_all asked rows keys c.args.texts.now c.loop-number.texts (all_listed sts c.requires.distinct)
    (subst (λ l. AddsFirst asked rows l c.args.texts.now c.loop-number.texts) all c.loop-number.invariant)
