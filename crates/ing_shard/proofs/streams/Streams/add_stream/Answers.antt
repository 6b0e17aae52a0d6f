use Rattle.std.proofs.Common.{◌≡◌, Option, None, length, ap, sym, subst, arith, slice_get}
use Rattle.ing_parts.specs.Parts.{AddsRows}
use Rattle.ing_shard.specs.OneStream.{Stream}
use Rattle.ing_shard.specs.Snapshots.{rows_of}
use Rattle.std.proofs.lemmas.Option.{slice_get_past}
use Rattle.ing_shard.proofs.streams.Streams.add_stream.Goals as goal

pub returns-in-None : goal.returns-in-None
returns-in-None g c =
    let list = c.args.self.now.list.items in
    let same = ap (λ l. length l) c.deref.ensures.value in
    let none : slice_get list c.args.number ≡ None = slice_get_past list c.args.number (omega (arith, same, c.in-None.ensures.lookup)) in
    subst (λ (o : Option Stream). AddsRows (rows_of o) c.args.snapshot.now c.args.snapshot.now) (sym none) (c.rows_join.ensures.none c.args.snapshot.now)
