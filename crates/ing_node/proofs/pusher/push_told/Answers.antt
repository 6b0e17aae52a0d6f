use Rattle.std.proofs.Common.{rules, ◌≡◌, ◌<◌, ◌≤◌, ◌+◌, ◌∙◌, ap, sym, arith, length}
use Rattle.ing_limits.specs.Ranges.{rules_for}
use Rattle.ing_rows.specs.Turns.{accepted_among}
use Rattle.ing_begun.specs.Contents.{stream_of}
use Rattle.ing_node.specs.Pushes.{accepted_in}
use Rattle.ing_node.proofs.PusherLaws.{accepted_at, accepted_set, others_set}
use Rattle.ing_node.proofs.pusher.push_told.Goals as goal

pub push-pushed-requires-clause-share : goal.push-pushed-requires-clause-share
push-pushed-requires-clause-share g c =
    let below : c.args.shard < length c.args.told.now.items = search rules in
    accepted_at g.N.NodeName.books c.args.told.now.items c.args.shard c.told.inside.share c.index_mut-told.result.now c.requires.own below
    (c.told.view_is ∙ c.index_mut-told.ensures.value)

pub overflow_add-told : goal.overflow_add-told
overflow_add-told g c =
    let judges = rules_for g.N.NodeName.settings c.args.tenant.now in
    let es = c.args.entries.items in
    let vs = c.in-Ok.verdicts.items in
    let told = c.verdicts_tell.ensures.each judges (stream_of c.args.tenant.now c.args.labels.now) c.args.now es vs c.in-Ok.ensures.judged in
    let count : c.accepted_in.result ≡ length (accepted_among es vs) =
    c.accepted_in.ensures ∙ ap accepted_in c.deref.ensures.value ∙ sym (c.verdicts_tell.ensures.count judges es vs told) in
    let more : c.push-pushed.new.share.amount ≡ c.told.inside.share.amount + length (accepted_among es vs) = ap (λ s. s.amount) c.in-Ok.ensures.told in
    let fits : c.push-pushed.new.share.amount ≤ 4611686018427387904 = c.in-Ok.ensures.fits in
    omega (arith, count, more, fits, c.told.invariant)

pub invariant_of-told : goal.invariant_of-told
invariant_of-told g c =
    let judges = rules_for g.N.NodeName.settings c.args.tenant.now in
    let es = c.args.entries.items in
    let vs = c.in-Ok.verdicts.items in
    let told = c.verdicts_tell.ensures.each judges (stream_of c.args.tenant.now c.args.labels.now) c.args.now es vs c.in-Ok.ensures.judged in
    let count : c.accepted_in.result ≡ length (accepted_among es vs) =
    c.accepted_in.ensures ∙ ap accepted_in c.deref.ensures.value ∙ sym (c.verdicts_tell.ensures.count judges es vs told) in
    let more : c.push-pushed.new.share.amount ≡ c.told.inside.share.amount + length (accepted_among es vs) = ap (λ s. s.amount) c.in-Ok.ensures.told in
    omega (arith, count, more, c.told.invariant)

pub returns-in-Ok-clause-verdicts : goal.returns-in-Ok-clause-verdicts
returns-in-Ok-clause-verdicts g c =
    c.verdicts_tell.ensures.each (rules_for g.N.NodeName.settings c.args.tenant.now) (stream_of c.args.tenant.now c.args.labels.now) c.args.now c.args.entries.items c.in-Ok.verdicts.items c.in-Ok.ensures.judged

pub returns-in-Ok-clause-others : goal.returns-in-Ok-clause-others
returns-in-Ok-clause-others g c i other = others_set c.args.shard i c.args.told.now.items c.push-pushed.new.share other

pub returns-in-Err-clause-own : goal.returns-in-Err-clause-own
returns-in-Err-clause-own g c =
    let books = g.N.NodeName.books in
    let ss = c.args.told.now.items in
    let place = c.args.shard in
    let t = c.push-pushed.new.share in
    let below : place < length ss = search rules in
    let was : c.told.inside.share.book ≡ (books place).accepted =
    accepted_at books ss place c.told.inside.share c.index_mut-told.result.now c.requires.own below (c.told.view_is ∙ c.index_mut-told.ensures.value) in
    let same : t.book ≡ c.told.inside.share.book = ap (λ s. s.book) c.in-Err.ensures.err in
    accepted_set books ss place t c.requires.own (same ∙ was)

pub returns-in-Ok-clause-own : goal.returns-in-Ok-clause-own
returns-in-Ok-clause-own g c =
    let books = g.N.NodeName.books in
    let ss = c.args.told.now.items in
    let place = c.args.shard in
    let t = c.push-pushed.new.share in
    let below : place < length ss = search rules in
    let was : c.told.inside.share.book ≡ (books place).accepted =
    accepted_at books ss place c.told.inside.share c.index_mut-told.result.now c.requires.own below (c.told.view_is ∙ c.index_mut-told.ensures.value) in
    let same : t.book ≡ c.told.inside.share.book = ap (λ s. s.book) c.in-Ok.ensures.told in
    accepted_set books ss place t c.requires.own (same ∙ was)
