use Rattle.std.proofs.Common.{◌≡◌, Ok, arith}
use Rattle.std.proofs.lemmas.Grind.{common_steps}
use Rattle.ing_labels.specs.Canonical.{canonical_of}
use Rattle.ing_codec.specs.ChunkReading.{chunk_object, read_chunk}
use Rattle.ing_codec.proofs.ChunkLaws.{chunk_takes}
use Rattle.ing_codec.proofs.lent_chunk.read_object.Goals as goal

pub invariant_of-result : goal.invariant_of-result
unfolding read_chunk
invariant_of-result c =
    let made = chunk_object c.in_ok-version.field-0.tenant (canonical_of c.in_ok-version.field-0.labels) c.in_ok-first.first c.in_ok-blocks.blocks.items in
    let read : read_chunk c.args.bytes.now ≡ Ok made = grind (arith, common_steps) in
    (chunk_takes c.args.bytes.now made (λ i. omega (arith, c.type_inv.bytes i)) read).0
