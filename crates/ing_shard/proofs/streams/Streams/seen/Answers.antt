use Rattle.std.proofs.Common.{◌≡◌, Some, ap, slice_get}
use Rattle.std.proofs.lemmas.Option.{slice_get_read}
use Rattle.ing_labels.specs.Canonical.{canonical_of}
use Rattle.ing_shard.specs.OneStream.{Stream}
use Rattle.ing_shard.proofs.RowLaws.{front_rows}
use Rattle.ing_shard.proofs.streams.Streams.seen.Goals as goal

pub returns-clause-front : goal.returns-clause-front
returns-clause-front g c =
    let sts = c.args.self.now.list.items in
    let st : Stream = c.index.result.now in
    let at : slice_get sts c.args.number ≡ Some st = slice_get_read sts _ c.args.number st c.args.self.now.list.ok.0 c.requires.listed c.index.ensures in
    let said = c.seen.ensures in
    front_rows sts c.args.number st c.seen.result.tenant.now (canonical_of c.seen.result.labels.now) c.seen.result.front c.requires.held.distinct c.requires.held.kept at said.tenant (ap canonical_of said.labels) said.front
