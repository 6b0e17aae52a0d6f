use Rattle.std.proofs.Common.{◌≡◌, [], ◌∷◌, ◌++◌, ◌+◌, ◌≤◌, ◌<◌, map, length, drop, append-nil, arith, ap, subst, sym, ◌∙◌, Some, take_all}
use Rattle.std.proofs.lemmas.List.{drop_all}
use Rattle.ing_labels.specs.Canonical.{canonical_of}
use Rattle.ing_limits.specs.Ranges.{rules_for}
use Rattle.ing_shard.specs.Sealing.{IsNamed, name_in, reason_of, seal_as, seals_among}
use Rattle.ing_shard.specs.Streams.{key_of}
use Rattle.ing_shard.proofs.NamedLaws.{AreNamed, named_step, seals_few, seals_step, whole_named}
use Rattle.ing_shard.proofs.streams.Streams.to_seal.Goals.{in-Some+in_ok-push, in_default}
use Rattle.ing_shard.proofs.streams.Streams.to_seal.Goals as goal

pub loop-number-preserved : goal.loop-number-preserved
loop-number-preserved g c =
    let at = c.loop-number in
    let which = c.args.which in
    let rules = rules_for c.args.settings.now in
    let items = c.args.self.now.list.items in
    let st = c.index-stream.result.now in
    let here = c.index-stream.ensures in
    let below = c.loop-number-test.true in
    let long = c.len-number-end.ensures in
    let ok = c.args.self.now.list.ok.0 in
    let own = c.for_tenant-rules.ensures.rules ∙ ap rules c.tenant.ensures in
    let there : at.number < length items = omega (arith, below, long, ok) in
    let told : c.match-reason_to_seal.seals.items ≡ at.seals.items ++ seal_as (key_of st) c.reason_to_seal.result = elim c.match-reason_to_seal.branch [
      | in-Some+in_ok-push w ↦ ap (λ v. v.items) w.seals-is ∙ w.in_ok-push.ensures.items ∙ (λ j. at.seals.items ++ w.of.ensures j ∷ [])
          ∙ (λ j. at.seals.items ++ seal_as (record { tenant = w.tenant-in-Some.ensures j; name = canonical_of (w.labels.ensures j) }) (Some w.in-Some.reason))
          ∙ ap (λ o. at.seals.items ++ seal_as (key_of st) o) (sym w.in-Some.is)
      | in_default w ↦ ap (λ v. v.items) w.seals-is ∙ sym (append-nil at.seals.items) ∙ ap (λ o. at.seals.items ++ seal_as (key_of st) o) (sym w.in_default.is)
    ] in
    record {
      seals = seals_step which rules items at.number st there here at.seals.items c.reason_to_seal.result (c.reason_to_seal.ensures.value ∙ ap (λ r. reason_of which r st.chunks) own) at.invariant.seals
          ∙ ap (λ l. l ++ seals_among which rules (drop (at.number + 1) items)) (sym told);
      named = named_step which rules items at.number st there here at.invariant.named (subst (λ r. IsNamed which r st) own c.reason_to_seal.ensures.named);
    }

all_of : (g : _) (c : goal.After-loop-number g) → c.loop-number.seals.items ≡ seals_among c.args.which (rules_for c.args.settings.now) c.args.self.now.list.items
all_of g c =
    let at = c.loop-number in
    let which = c.args.which in
    let rules = rules_for c.args.settings.now in
    let items = c.args.self.now.list.items in
    let over = c.loop-number-test.false in
    let long = c.len-number-end.ensures in
    let ok = c.args.self.now.list.ok.0 in
    let end : length items ≤ at.number = omega (arith, over, long, ok) in
    sym (at.invariant.seals ∙ ap (λ l. at.seals.items ++ seals_among which rules l) (drop_all at.number items end) ∙ append-nil at.seals.items)

named_of : (g : _) (c : goal.After-loop-number g) → AreNamed c.args.which (rules_for c.args.settings.now) c.args.self.now.list.items
named_of g c =
    let at = c.loop-number in
    let items = c.args.self.now.list.items in
    let over = c.loop-number-test.false in
    let long = c.len-number-end.ensures in
    let ok = c.args.self.now.list.ok.0 in
    let end : length items ≤ at.number = omega (arith, over, long, ok) in
    subst (AreNamed c.args.which (rules_for c.args.settings.now)) (take_all at.number items end) at.invariant.named

pub returns-clause-names : goal.returns-clause-names
returns-clause-names g c =
    ap (map name_in) (all_of g c)
    ∙ whole_named c.seals_are_apart.ensures.due c.args.which (rules_for c.args.settings.now) c.args.self.now.list.items c.requires.held.distinct (named_of g c)

pub returns-clause-few : goal.returns-clause-few
returns-clause-few g c =
    let held = c.requires.held in
    let few = seals_few c.args.which (rules_for c.args.settings.now) c.args.self.now.list.items (named_of g c) in
    let long = ap length (all_of g c) in
    let active = held.active in
    let most = held.most in
    let ok = c.loop-number.seals.ok.0 in
    omega (arith, few, long, active, most, ok)
