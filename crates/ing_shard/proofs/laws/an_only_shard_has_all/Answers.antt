use Rattle.std.proofs.Common.{◌≡◌, ℕ, ◌%◌, sym, ◌∙◌, ap, arith}
use Rattle.ing_rows.specs.Placement.{shard_of}
use Rattle.ing_shard.proofs.laws.an_only_shard_has_all.Goals as goal

modulo_one : (n : ℕ) → n % 1 ≡ 0
modulo_one n = omega arith

pub returns : goal.returns
returns c = λ shard s only short. record {
  placed = ap (shard_of s.tenant s.name) only.one ∙ modulo_one _ ∙ sym only.first;
  short = short;
}
