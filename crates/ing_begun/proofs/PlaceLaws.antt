-- Shards that stand at their places.
use Rattle.std.proofs.Common.{◌≡◌, ℕ, zero, suc, ◌+◌, List, ◌∷◌, refl, subst, arith}
use Rattle.ing_limits.specs.Settings.{StoreSettings}
use Rattle.ing_begun.specs.Begun.{AreBegunFrom, BegunState, IsBegunAs}

-- one more in front
pub begun_cons : {D : Type 0} (settings : StoreSettings) (number : ℕ) (b : BegunState D) (bs : List (BegunState D))
    → IsBegunAs settings number b → AreBegunFrom settings (number + 1) bs → AreBegunFrom settings number (b ∷ bs)
begun_cons settings number b bs is are zero c at =
    let same : b ≡ c = cc in
    subst (λ x. IsBegunAs settings (number + 0) x) same (subst (λ n. IsBegunAs settings n b) (omega arith) is)
begun_cons settings number b bs is are (suc i) c at = subst (λ n. IsBegunAs settings n c) (omega arith) (are i c at)

-- the first, and the others
pub begun_first : {D : Type 0} (settings : StoreSettings) (number : ℕ) (b : BegunState D) (bs : List (BegunState D)) → AreBegunFrom settings number (b ∷ bs) → IsBegunAs settings number b
begun_first settings number b bs are = subst (λ n. IsBegunAs settings n b) (omega arith) (are 0 b refl)

pub begun_others : {D : Type 0} (settings : StoreSettings) (number : ℕ) (b : BegunState D) (bs : List (BegunState D)) → AreBegunFrom settings number (b ∷ bs) → AreBegunFrom settings (number + 1) bs
begun_others settings number b bs are i c at = subst (λ n. IsBegunAs settings n c) (omega arith) (are (suc i) c at)
