use Rattle.std.proofs.Common.{true≢false, ◌≡◌, ◌≢◌, ◌≤◌, Err, map, refl, sym, ap, subst, ◌∙◌, inl, inr}
use Rattle.ing_labels.specs.declared.fault.LabelFault.TheVariants.{NoMemory}
use Rattle.ing_labels.specs.Labels.{labels_of, texts}
use Rattle.ing_limits.specs.Ranges.{rules_for}
use Rattle.ing_commands.specs.Views.{label_view, stream_view}
use Rattle.ing_session.specs.Faults.{limits_of}
use Rattle.ing_node.specs.Diaries.{PusherState}
use Rattle.ing_node.specs.Pushes.{IsPushRefusal}
use Rattle.ing_lanes.specs.ByLane.{place_of}
use Rattle.ing_session.specs.Views.{stream_data}
use Rattle.ing_node.specs.NodeFault.TheVariants as node
use Rattle.ing_lanes.specs.ByLane.{PushesAs, told_as, told_by}
use Rattle.ing_lanes.proofs.HeldLaws.{rises_none, rises_same}
use Rattle.ing_lanes.specs.Drafts.{lasts_at}
use Rattle.ing_lanes.proofs.LedgerLaws.{amount_same, none_weighs, notes_weigh, told_rises}
use Rattle.ing_lanes.proofs.lane.Lane.draft_stream.Goals as goal

-- the entries are judged
pub returns-in-Ok-push_unsynced-clause-pushed : goal.returns-in-Ok-push_unsynced-clause-pushed
returns-in-Ok-push_unsynced-clause-pushed g c = λ lasting may.
    let settings = g.N.NodeName.settings in
    let rules = rules_for settings c.args.tenant.now in
    let limits : c.label_limits-limits.result ≡ limits_of rules = c.label_limits-limits.ensures ∙ ap limits_of (c.for_tenant.ensures.rules ∙ ap (λ s. rules_for s c.args.tenant.now) c.args.self.now.shared.now.judges) in
    let read = ap (λ l. labels_of l (map label_view c.args.stream.labels.items)) (sym limits) ∙ ap (λ ps. labels_of c.label_limits-limits.result (texts ps)) (sym c.deref.ensures.value) ∙ c.in-Ok.ensures.labels in
    let old = told_by c.args.self.now.pusher in
    let new = told_by c.push_unsynced.new.self in
    let pushed = c.in-Ok-push_unsynced.ensures in
    subst (PushesAs g.N.NodeName.has_logs settings c.args.tenant.now c.args.now c.args.stream.entries.items old new _) (sym read) (inl (record {
      verdicts = c.in-Ok-push_unsynced.waiting.verdicts.items;
      judged = pushed.judged;
      few = subst (λ n. n ≤ rules.max_entries_per_push) c.args.stream.entries.ok.0 pushed.few;
      durable = lasts_at lasting c.in-Ok-push_unsynced.waiting.shard;
      lasts = λ none. may none c.in-Ok-push_unsynced.waiting.shard;
      told = refl;
      raised = record {
        here = pushed.told;
        others = λ i other. amount_same c.args.self.now.pusher.told c.push_unsynced.new.self.told i (pushed.others i other);
        which = λ wants weight. notes_weigh c.args.self.now.pusher.diary c.push_unsynced.new.self.diary _ weight (c.args.self.now.diary ∙ wants) pushed.noted;
        unsaid = λ none weight. none_weighs c.args.self.now.pusher.diary c.push_unsynced.new.self.diary _ weight (c.args.self.now.diary ∙ none) pushed.noted;
      };
    }))

-- the labels are refused
pub returns-in-Err-clause-pushed : goal.returns-in-Err-clause-pushed
returns-in-Err-clause-pushed g c = λ lasting may.
    let settings = g.N.NodeName.settings in
    let rules = rules_for settings c.args.tenant.now in
    let said = stream_view c.args.stream in
    let limits : c.label_limits-limits.result ≡ limits_of rules = c.label_limits-limits.ensures ∙ ap limits_of (c.for_tenant.ensures.rules ∙ ap (λ s. rules_for s c.args.tenant.now) c.args.self.now.shared.now.judges) in
    let read : c.in-Err.fault ≢ NoMemory → labels_of (limits_of rules) said.labels ≡ Err c.in-Err.fault = λ other. ap (λ l. labels_of l said.labels) (sym limits) ∙ ap (λ ps. labels_of c.label_limits-limits.result (texts ps)) (sym c.deref.ensures.value) ∙ c.in-Err.ensures.fault other in
    let old = told_by c.args.self.now.pusher in
    let other : c.in-Err.fault ≢ NoMemory = λ none. true≢false (sym (c.in_ok-label_fault-in-Err.ensures.memory none)) in
    subst (PushesAs g.N.NodeName.has_logs settings c.args.tenant.now c.args.now c.args.stream.entries.items old old (stream_data c.in_ok-label_fault-in-Err.field-0)) (sym (read other)) (c.in_ok-label_fault-in-Err.ensures.reply, λ i. refl)

-- the stream is refused
pub returns-clause-pushed : goal.returns-clause-pushed
returns-clause-pushed g c = λ lasting may.
    let settings = g.N.NodeName.settings in
    let rules = rules_for settings c.args.tenant.now in
    let limits : c.label_limits-limits.result ≡ limits_of rules = c.label_limits-limits.ensures ∙ ap limits_of (c.for_tenant.ensures.rules ∙ ap (λ s. rules_for s c.args.tenant.now) c.args.self.now.shared.now.judges) in
    let read = ap (λ l. labels_of l (map label_view c.args.stream.labels.items)) (sym limits) ∙ ap (λ ps. labels_of c.label_limits-limits.result (texts ps)) (sym c.deref.ensures.value) ∙ c.in-Ok.ensures.labels in
    let old = told_by c.args.self.now.pusher in
    let new = told_by c.push_unsynced.new.self in
    let fault = c.in-Err-push_unsynced.fault in
    let refused = c.in-Err-push_unsynced.ensures in
    let other : fault ≢ node.NoMemory = λ none. true≢false (sym (c.in_ok-stream_fault-in-Err-push_unsynced.ensures.memory none)) in
    subst (PushesAs g.N.NodeName.has_logs settings c.args.tenant.now c.args.now c.args.stream.entries.items old new (stream_data c.in_ok-stream_fault-in-Err-push_unsynced.field-0)) (sym read) (inr (record {
      why = fault;
      may_be = subst (λ n. IsPushRefusal rules n (place_of settings c.args.tenant.now c.in-Ok.labels) fault) c.args.stream.entries.ok.0 refused.refused;
      no_memory = other;
      told = c.in_ok-stream_fault-in-Err-push_unsynced.ensures.reply;
      left = λ measure. ap (λ (p : PusherState). told_as p measure) refused.err;
    }))

-- ---- what was told

pub returns-in-Ok-push_unsynced-clause-rises : goal.returns-in-Ok-push_unsynced-clause-rises
returns-in-Ok-push_unsynced-clause-rises g c =
    told_rises c.args.self.now.pusher c.push_unsynced.new.self _ _ _ c.in-Ok-push_unsynced.ensures.told c.in-Ok-push_unsynced.ensures.others c.in-Ok-push_unsynced.ensures.noted

pub returns-in-Err-clause-rises : goal.returns-in-Err-clause-rises
returns-in-Err-clause-rises g c = rises_none (told_by c.args.self.now.pusher)

pub returns-clause-rises : goal.returns-clause-rises
returns-clause-rises g c = rises_same c.args.self.now.pusher c.push_unsynced.new.self c.in-Err-push_unsynced.ensures.err
