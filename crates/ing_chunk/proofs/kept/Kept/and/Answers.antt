use Rattle.std.proofs.Common.{refl}
use Rattle.ing_chunk.proofs.Sums.{kept_both}
use Rattle.ing_chunk.proofs.kept.Kept.and.Goals as goal

pub returns : goal.returns
returns c = λ xs ys h k. kept_both c.args.self c.args.other _ xs ys refl refl c.min.ensures c.max.ensures h k
