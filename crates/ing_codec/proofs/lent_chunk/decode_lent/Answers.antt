use Rattle.std.proofs.Common.{arith}
use Rattle.ing_codec.proofs.DecodeLaws.{chunk_spelt, chunk_each}
use Rattle.ing_codec.proofs.lent_chunk.decode_lent.Goals as goal

pub returns-clause-spelt : goal.returns-clause-spelt
returns-clause-spelt c = chunk_spelt (λ x. x) c.read_object.result c.args.bytes.now (λ i. omega (arith, c.type_inv.bytes i)) c.read_object.ensures

pub returns-clause-each : goal.returns-clause-each
returns-clause-each c = chunk_each (λ x. x) c.read_object.result c.args.bytes.now c.read_object.ensures
