use Rattle.std.proofs.Common.{◌≡◌, IfSome, get_or, length, ap, subst, sym, ◌∙◌}
use Rattle.ing_checkpoint.specs.Views.{chunk_count}
use Rattle.ing_rows.specs.Rows.{chunk_starts}
use Rattle.ing_shard.specs.OneStream.{Stream}
use Rattle.ing_shard.specs.Streams.{key_of, part_of}
use Rattle.ing_shard.proofs.PositionLaws.{position_splits, splits_within, splits_read, none_others}
use Rattle.ing_shard.proofs.ReadLaws.{facts_listed, facts_unlisted, starts_listed, starts_unlisted}
use Rattle.ing_shard.proofs.streams.Streams.counts.Goals as goal

pub index-stream-requires : goal.index-stream-requires
index-stream-requires g c =
    let s = c.requires.found.0 in
    let items = c.args.self.now.list.items in
    splits_within s items c.in-Some.number _ c.args.self.now.list.ok.0 (position_splits s items c.in-Some.number c.requires.held.distinct (sym c.requires.found.1 ∙ c.in-Some.is))

pub returns-in-Some-clause-rows : goal.returns-in-Some-clause-rows
returns-in-Some-clause-rows g c s found =
    let streams = c.args.self.now in
    let split = position_splits s streams.list.items c.in-Some.number c.requires.held.distinct (sym found ∙ c.in-Some.is) in
    let read : c.index-stream.result.now ≡ split.st = c.index-stream.ensures ∙ splits_read s streams.list.items c.in-Some.number split c.index-stream.result.now in
    let go = c.order_does_not_count.ensures.facts in
    let laws = c.parts_are_apart.ensures in
    let fresh = c.pushes_keep_states_sound.ensures.fresh in (
      c.next.ensures.value ∙ ap (λ (st : Stream). st.chunks.memory.next) read
          ∙ sym (ap (λ f. f.count) (facts_listed go laws.facts laws.sound fresh laws.streams streams c.requires.held s c.in-Some.number split)),
      c.begun.ensures.starts ∙ ap (λ (st : Stream). length (chunk_starts (key_of st) (part_of st).rows)) read
          ∙ ap (λ k. length (chunk_starts k (part_of split.st).rows)) split.key
          ∙ sym (starts_listed go laws.facts laws.sound fresh laws.streams streams c.requires.held s c.in-Some.number split),
    )

pub returns-in-None-clause-rows : goal.returns-in-None-clause-rows
returns-in-None-clause-rows g c s found =
    let streams = c.args.self.now in
    let others = none_others s streams.list.items (sym found ∙ c.in-None.is) in
    let go = c.order_does_not_count.ensures.facts in
    let laws = c.parts_are_apart.ensures in
    let fresh = c.pushes_keep_states_sound.ensures.fresh in (
      sym (ap (λ f. f.count) (facts_unlisted go laws.facts laws.sound fresh laws.streams streams c.requires.held s others)),
      sym (starts_unlisted go laws.facts laws.sound fresh laws.streams streams c.requires.held s others),
    )

pub returns-in-Some-clause-chunks : goal.returns-in-Some-clause-chunks
returns-in-Some-clause-chunks g c =
    let items = c.args.self.now.list.items in
    let s = c.requires.found.0 in
    let split = position_splits s items c.in-Some.number c.requires.held.distinct (sym c.requires.found.1 ∙ c.in-Some.is) in
    let read : c.index-stream.result.now ≡ split.st = c.index-stream.ensures ∙ splits_read s items c.in-Some.number split c.index-stream.result.now in
    subst (λ o. IfSome o (λ number. (st : Stream) → st ≡ get_or items number st → c.begun.result ≡ chunk_count st.chunks)) (sym c.in-Some.is)
    (λ st at. c.begun.ensures.value ∙ ap (λ (o : Stream). chunk_count o.chunks) (read ∙ sym (at ∙ splits_read s items c.in-Some.number split st)))
