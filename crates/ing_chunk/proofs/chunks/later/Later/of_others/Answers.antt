use Rattle.std.proofs.Common.{refl, ap, subst, arith}
use Rattle.ing_rows.specs.declared.place.SealReason.TheVariants.{Full}
use Rattle.ing_chunk.specs.Chunks.{ChunkContents, SealsChunk, count_in, empty_chunk, size_of_chunk}
use Rattle.ing_chunk.specs.KeptChunks.{chunks_of}
use Rattle.ing_chunk.proofs.Behind.{continues_full, sealed_nothing}
use Rattle.ing_chunk.proofs.chunks.later.Later.of_others.Goals as goal

pub returns : goal.returns
returns c =
    let d = chunks_of c.others.inside in
    let begun : SealsChunk Full (empty_chunk c.args.next) c.seal.new.self = subst (λ (x : ChunkContents). SealsChunk Full x c.seal.new.self) c.begin-tail.ensures c.seal.ensures in
    let tail = sealed_nothing c.args.next c.seal.new.self begun in
    let kept = c.others.invariant in
    record {
      continues = λ size reached. continues_full c.args.rules.now c.args.now size c.args.entries.items c.args.next d c.add_all.new.self c.from_number-others.result c.others.view_is c.from_number-others.ensures _ refl reached tail refl refl c.in_ok-add_all.ensures;
      counted = record {
        count = λ _. omega (arith, kept.count, ap count_in tail);
        size = λ _. omega (arith, kept.size, ap size_of_chunk tail);
        small = kept.small;
      };
    }
