use Rattle.std.proofs.Common.{◌≡◌, ℕ, ◌<◌, ◌-◌, zero, suc, List, ◌∷◌, get_or, ap, arith}
use Rattle.ing_labels.proofs.canonical.start_of.Goals as goal

before : (ends : List ℕ) (at : ℕ) → 0 < at → get_or ends (at - 1) 0 ≡ get_or (0 ∷ ends) at 0
before ends zero some = absurd (omega (arith, some))
before ends (suc at) some = let e : suc at - 1 ≡ at = omega arith in ap (λ k. get_or ends k 0) e

pub returns-else-at-eq0 : goal.returns-else-at-eq0
returns-else-at-eq0 c = before c.args.ends.now c.args.at (omega arith)
