use Rattle.std.proofs.Common.{rules, ◌∙◌, ap, arith, sym, vec_len}
use Rattle.std.proofs.lemmas.List.Elements.{All-push}
use Rattle.std.proofs.lemmas.List.Sums.{sum_by_push}
use Rattle.std.specs.Prelude.{sum_by}
use Rattle.ing_tally.specs.Books.{amount_of}
use Rattle.ing_node.specs.Diaries.{KeepsDiary}
use Rattle.ing_lanes.specs.ByLane.{told_as}
use Rattle.ing_node.specs.Names.{IsTallyOf}
use Rattle.ing_lanes.specs.Counted.{counted_by}
use Rattle.ing_node.proofs.Lists.{none_left}
use Rattle.ing_node.proofs.ClosingLaws.{handed_on, no_item}
use Rattle.ing_lanes.proofs.closing.part_all.Goals as goal

-- one channel more is apart
pub loop-channel-preserved : goal.loop-channel-preserved
loop-channel-preserved g c =
    let IsOwn = IsTallyOf g.N.NodeName.settings.shards g.N.NodeName.books in
    let channel = c.in-Some.channel in
    let rest = c.pop.new.self.items in
    let popped = c.in-Some.ensures.items in
    let before = c.loop-channel in
    let parts = c.into_parts-pusher.ensures in
    let pusher = c.into_parts-pusher.result.0 in
    let tally = c.into_parts-pusher.result.1 in
    record {
      room_of_lines = search rules;
      room_of_pushers = search rules;
      room_of_tallies = search rules;
      same =
          sym (handed_on (λ ch. ch.line) before.channels.items rest channel before.lines.items c.push_reserved.new.self.items _ popped c.push_reserved.ensures.items (sym before.invariant.same));
      told = λ m.
          omega (
            arith,
            ap (sum_by (λ p. told_as p m)) c.push_reserved-in-Some.ensures.items,
            sum_by_push (λ p. told_as p m) before.pushers.items pusher,
            ap (λ p. told_as p m) parts.pusher,
            ap (sum_by (λ ch. told_as ch.lane.pusher m)) popped,
            sum_by_push (λ ch. told_as ch.lane.pusher m) rest channel,
            before.invariant.told m,
          );
      diaries = λ wants. rw c.push_reserved-in-Some.ensures.items (All-push KeepsDiary before.pushers.items pusher (before.invariant.diaries wants) (parts.diary ∙ wants));
      own = rw c.push_reserved-in-Some-2.ensures.items (All-push IsOwn before.tallies.items tally before.invariant.own parts.own);
      counted =
          omega (
            arith,
            ap (sum_by amount_of) c.push_reserved-in-Some-2.ensures.items,
            sum_by_push amount_of before.tallies.items tally,
            parts.counted,
            ap (sum_by (λ ch. counted_by ch.lane.workers.items)) popped,
            sum_by_push (λ ch. counted_by ch.lane.workers.items) rest channel,
            before.invariant.counted,
          );
    }

-- none is left
pub returns-clause-told : goal.returns-clause-told
returns-clause-told g c = λ m.
    let none = none_left (vec_len c.loop-channel.channels) c.in_default.ensures.variant.1 in
    let empty = no_item c.loop-channel.channels.items (sym c.loop-channel.channels.ok.0 ∙ none) in
    let told = c.loop-channel.invariant.told m in
    omega (arith, told, ap (sum_by (λ ch. told_as ch.lane.pusher m)) empty)
