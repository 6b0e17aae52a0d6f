use Rattle.std.proofs.Common.{◌≡◌, true, rules}
use Rattle.ing_codec.specs.ChunkReading.{is_count}
use Rattle.ing_codec.proofs.Built.{block_in_order, few_after}
use Rattle.ing_codec.proofs.chunk_reading.block.Goals as goal

pub in_order-requires : goal.in_order-requires
in_order-requires c = block_in_order c.args.version c.args.first c.args.start c.in_ok-count.count c.in_ok-count.rest c.in_ok-found.found.items c.in_ok-found.after c.in_ok-found.ensures

pub returns-clause-few : goal.returns-clause-few
returns-clause-few c =
    let counted : is_count c.args.first c.args.start c.in_ok-count.count ≡ true = search rules in
    rw c.in_order.ensures (few_after c.args.version c.args.first c.args.start c.in_ok-count.count c.in_ok-count.rest c.in_ok-found.found.items c.in_ok-found.after counted c.in_ok-found.ensures)
