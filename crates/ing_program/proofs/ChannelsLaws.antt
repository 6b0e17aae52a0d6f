-- How a run of several channels ends, and what is reported of it.
use Rattle.std.proofs.Common.{◌≡◌, ◌≢◌, ◌+◌, ◌-◌, ◌*◌, ◌≤◌, ◌∙◌, ℕ, Bool, not, List, [], ◌∷◌, None, Err, ap, arith, drop, inl, inr, length, length-drop, length-take-le, refl, subst, sym, take}
use Rattle.std.specs.Prelude.{IfErr, IfSome, IsTrue, Result, filter}
use Rattle.std.proofs.lemmas.List.Filters.{length-filter_both}
use Rattle.ing_limits.specs.Settings.{Refusal}
use Rattle.ing_lanes.specs.RecoverFault.{RecoverFault}
use Rattle.ing_lanes.specs.Endings.{ending_of_recover, is_of_run, refusal_of}
use Rattle.ing_lanes.specs.Ending.{Ending}
use Rattle.ing_lanes.specs.Ending.TheVariants.{NoMemory, NotToml, UnknownSetting, BadSetting, InputFault, OutputFault, BadArguments, NoSettings, NoFolder, NoObjects, FolderInUse, MissingLog, NotRecovered, NotServed, Differs}
use Rattle.ing_lanes.proofs.EndingsLaws.{recover_ending}
use Rattle.ing_lanes.specs.Served.{Account, AreServed}

-- what a recovery is refused for is not the words
pub not_of_words : (fault : RecoverFault) → ending_of_recover fault ≢ BadArguments
not_of_words fault bad = elim (recover_ending fault) [
  | inl run ↦ absurd (cc (subst (λ e. IsTrue (is_of_run e)) bad run))
  | inr other ↦ absurd (cc (other.1, bad))
]

-- and it is nothing that a settings file is refused for
none_of_run : (e : Ending) → IsTrue (is_of_run e) → refusal_of e ≡ None
none_of_run NoMemory run = refl
none_of_run InputFault run = refl
none_of_run OutputFault run = refl
none_of_run NotToml run = absurd cc
none_of_run (UnknownSetting name) run = absurd cc
none_of_run (BadSetting name) run = absurd cc
none_of_run BadArguments run = absurd cc
none_of_run NoSettings run = refl
none_of_run NoFolder run = refl
none_of_run NoObjects run = refl
none_of_run FolderInUse run = refl
none_of_run MissingLog run = refl
none_of_run (NotRecovered fault) run = refl
none_of_run (NotServed refusal) run = refl
none_of_run (Differs place) run = refl

pub none_refused : (fault : RecoverFault) → refusal_of (ending_of_recover fault) ≡ None
none_refused fault = elim (recover_ending fault) [ inl run ↦ none_of_run (ending_of_recover fault) run | inr other ↦ ap refusal_of other.1 ]

-- what is refused for nothing of the settings is not refused for something else
pub refused_by_none : (P : Refusal → Type 0) (e : Ending) → refusal_of e ≡ None → IfSome (refusal_of e) P
refused_by_none P e none = subst (λ o. IfSome o P) (sym none) tt

pub none_passed : {T : Type 0} (P : Refusal → Type 0) (ended : Result T Ending) (e told : Ending) → ended ≡ Err e → e ≡ told → refusal_of told ≡ None → IfErr ended (λ x. IfSome (refusal_of x) P)
none_passed P ended e told is passed none = subst (λ r. IfErr r (λ x. IfSome (refusal_of x) P)) (sym is) (refused_by_none P e (ap refusal_of passed ∙ none))

-- two words stand before the paths
pub behind_two : {X : Type 0} (xs : List X) → 2 ≤ length xs → length xs ≡ 2 + length (take (length xs - 2) (drop 2 xs))
behind_two xs few =
    let left : length (drop 2 xs) ≡ length xs - 2 = length-drop 2 xs in
    let all : length (take (length xs - 2) (drop 2 xs)) ≡ length xs - 2 = length-take-le (length xs - 2) (drop 2 xs) (omega (arith, left)) in
    omega (arith, few, all)

-- those of the paths are the channels but that of the clock
pub beside_the_clock : (n k l : ℕ) → 2 * n ≡ 2 * k + l → (2 * (n - k) ≡ l) × (k + (n - k) ≡ n)
beside_the_clock n k l is = (omega (arith, is), omega (arith, is))

-- each channel has an account, and is one of those at the beginning
pub each_is_served : {L : Type 0} (served : L → L → Account → Type 0) (old new : List L) (accounts : List Account) → AreServed served old new accounts → (length accounts ≡ length old) × (length new ≡ length old)
each_is_served served [] [] [] all = (refl, refl)
each_is_served served (o ∷ os) (n ∷ ns) (a ∷ rest) all =
    let more = each_is_served served os ns rest all.1 in
    (omega (arith, more.0), omega (arith, more.1))
each_is_served served [] [] (a ∷ rest) all = absurd all
each_is_served served [] (n ∷ ns) accounts all = absurd all
each_is_served served (o ∷ os) [] accounts all = absurd all
each_is_served served (o ∷ os) (n ∷ ns) [] all = absurd all

-- those that pass are no more
pub no_more_pass : {X : Type 0} (p : X → Bool) (xs : List X) → length (filter p xs) ≤ length xs
no_more_pass p xs = omega (arith, length-filter_both p (λ x. not (p x)) (λ x. refl) xs)
