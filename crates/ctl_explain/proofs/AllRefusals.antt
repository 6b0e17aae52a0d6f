-- The list of all refusals, in order of number, and looking for one of them.
use Rattle.std.proofs.Common.{◌≡◌, ℕ, zero, suc, ◌+◌, ◌^◌, ◌<◌, ◌&&◌, ◌||◌, Bool, true, false, cond, nat_lt, List, [], ◌∷◌, map, Contains, Option, Some, None, refl, sym, ap, ◌∙◌, arith}
use Rattle.std.specs.List.{list_any, find}
use Rattle.std.proofs.lemmas.List.Folds.{list_any_at}
use Rattle.std.proofs.lemmas.Bool.Decides.{nat_tests}
use Rattle.std.specs.List.Sorted.{IsStrictlyIncreasing}
use Rattle.ing_refusals.specs.declared.refusal.Refusal.{Refusal}
use Rattle.ing_refusals.specs.declared.refusal.Refusal.TheVariants.{NoMemory, BadName, TwiceNamed, NoLabels, TooMany, NameTooLong, ValueTooLong, NotCanonical, BadSelector, TooWide, NotToml, UnknownSetting, BadSetting, Truncated, BadMagic, BadVersion, BadField, OutOfOrder, Trailing, CounterFull, Failed, Damaged, DamagedLog, OtherSettings, Stranger, QueueFull, StoreFault, BadObject, StillOut, Mismatch, BadTenant, BadStamp, TooManyEntries, BadCommand, Metadata, LogFault, InputFault, OutputFault, BadArguments, NoSettings, Misplaced, FolderInUse, MissingLog}
use Rattle.ing_refusals.specs.Refusals.{refusal_number}

abbrev pub all_refusals : List Refusal
all_refusals =
    NoMemory ∷ BadName ∷ TwiceNamed ∷ NoLabels ∷ TooMany ∷ NameTooLong ∷ ValueTooLong ∷ NotCanonical ∷ BadSelector ∷ TooWide ∷ NotToml ∷ UnknownSetting ∷ BadSetting ∷ Truncated ∷ BadMagic ∷ BadVersion ∷ BadField ∷ OutOfOrder ∷ Trailing ∷ CounterFull ∷ Failed ∷ Damaged ∷ DamagedLog ∷ OtherSettings ∷ Stranger ∷ QueueFull ∷ StoreFault ∷ BadObject ∷ StillOut ∷ Mismatch ∷ BadTenant ∷ BadStamp ∷ TooManyEntries ∷ BadCommand ∷ Metadata ∷ LogFault ∷ InputFault ∷ OutputFault ∷ BadArguments ∷ NoSettings ∷ Misplaced ∷ FolderInUse ∷ MissingLog ∷ []

pub all_are_there : (refusal : Refusal) → Contains all_refusals refusal
all_are_there NoMemory = (0, omega arith, refl)
all_are_there BadName = (1, omega arith, refl)
all_are_there TwiceNamed = (2, omega arith, refl)
all_are_there NoLabels = (3, omega arith, refl)
all_are_there TooMany = (4, omega arith, refl)
all_are_there NameTooLong = (5, omega arith, refl)
all_are_there ValueTooLong = (6, omega arith, refl)
all_are_there NotCanonical = (7, omega arith, refl)
all_are_there BadSelector = (8, omega arith, refl)
all_are_there TooWide = (9, omega arith, refl)
all_are_there NotToml = (10, omega arith, refl)
all_are_there UnknownSetting = (11, omega arith, refl)
all_are_there BadSetting = (12, omega arith, refl)
all_are_there Truncated = (13, omega arith, refl)
all_are_there BadMagic = (14, omega arith, refl)
all_are_there BadVersion = (15, omega arith, refl)
all_are_there BadField = (16, omega arith, refl)
all_are_there OutOfOrder = (17, omega arith, refl)
all_are_there Trailing = (18, omega arith, refl)
all_are_there CounterFull = (19, omega arith, refl)
all_are_there Failed = (20, omega arith, refl)
all_are_there Damaged = (21, omega arith, refl)
all_are_there DamagedLog = (22, omega arith, refl)
all_are_there OtherSettings = (23, omega arith, refl)
all_are_there Stranger = (24, omega arith, refl)
all_are_there QueueFull = (25, omega arith, refl)
all_are_there StoreFault = (26, omega arith, refl)
all_are_there BadObject = (27, omega arith, refl)
all_are_there StillOut = (28, omega arith, refl)
all_are_there Mismatch = (29, omega arith, refl)
all_are_there BadTenant = (30, omega arith, refl)
all_are_there BadStamp = (31, omega arith, refl)
all_are_there TooManyEntries = (32, omega arith, refl)
all_are_there BadCommand = (33, omega arith, refl)
all_are_there Metadata = (34, omega arith, refl)
all_are_there LogFault = (35, omega arith, refl)
all_are_there InputFault = (36, omega arith, refl)
all_are_there OutputFault = (37, omega arith, refl)
all_are_there BadArguments = (38, omega arith, refl)
all_are_there NoSettings = (39, omega arith, refl)
all_are_there Misplaced = (40, omega arith, refl)
all_are_there FolderInUse = (41, omega arith, refl)
all_are_there MissingLog = (42, omega arith, refl)

pub number_is_small : (refusal : Refusal) → refusal_number refusal < 2 ^ 32
number_is_small NoMemory = omega arith
number_is_small BadName = omega arith
number_is_small TwiceNamed = omega arith
number_is_small NoLabels = omega arith
number_is_small TooMany = omega arith
number_is_small NameTooLong = omega arith
number_is_small ValueTooLong = omega arith
number_is_small NotCanonical = omega arith
number_is_small BadSelector = omega arith
number_is_small TooWide = omega arith
number_is_small NotToml = omega arith
number_is_small UnknownSetting = omega arith
number_is_small BadSetting = omega arith
number_is_small Truncated = omega arith
number_is_small BadMagic = omega arith
number_is_small BadVersion = omega arith
number_is_small BadField = omega arith
number_is_small OutOfOrder = omega arith
number_is_small Trailing = omega arith
number_is_small CounterFull = omega arith
number_is_small Failed = omega arith
number_is_small Damaged = omega arith
number_is_small DamagedLog = omega arith
number_is_small OtherSettings = omega arith
number_is_small Stranger = omega arith
number_is_small QueueFull = omega arith
number_is_small StoreFault = omega arith
number_is_small BadObject = omega arith
number_is_small StillOut = omega arith
number_is_small Mismatch = omega arith
number_is_small BadTenant = omega arith
number_is_small BadStamp = omega arith
number_is_small TooManyEntries = omega arith
number_is_small BadCommand = omega arith
number_is_small Metadata = omega arith
number_is_small LogFault = omega arith
number_is_small InputFault = omega arith
number_is_small OutputFault = omega arith
number_is_small BadArguments = omega arith
number_is_small NoSettings = omega arith
number_is_small Misplaced = omega arith
number_is_small FolderInUse = omega arith
number_is_small MissingLog = omega arith

-- ---- order

-- each number is above the one before it
abbrev rises : ℕ → List ℕ → Bool
rises n [] = true
rises n (m ∷ ms) = nat_lt n m && rises m ms

two : (a b : Bool) → (a && b) ≡ true → (a ≡ true) × (b ≡ true)
two true b e = (refl, e)
two false b e = absurd cc

rises_is : (n : ℕ) (ms : List ℕ) → rises n ms ≡ true → IsStrictlyIncreasing (n ∷ ms)
rises_is n [] e k lt = absurd (omega arith)
rises_is n (m ∷ ms) e zero lt = let both = two (nat_lt n m) (rises m ms) e in grind (arith, nat_tests, both.0)
rises_is n (m ∷ ms) e (suc k) lt =
    let both = two (nat_lt n m) (rises m ms) e in
    let next : suc k + 1 ≡ suc (k + 1) = omega arith in
    rw next (rises_is m ms both.1 k (omega arith))

abbrev all_rise : List ℕ → Bool
all_rise [] = true
all_rise (n ∷ ns) = rises n ns

all_rise_is : (ns : List ℕ) → all_rise ns ≡ true → IsStrictlyIncreasing ns
all_rise_is [] e k lt = absurd (omega arith)
all_rise_is (n ∷ ns) e k lt = rises_is n ns e k lt

pub numbers_rise : IsStrictlyIncreasing (map refusal_number all_refusals)
numbers_rise = all_rise_is (map refusal_number all_refusals) refl

-- ---- looking for one

at_first : {X : Type 0} (b : Bool) (x : X) (rest : Option X) (tail : Bool) → cond b (Some x) rest ≡ None → (rest ≡ None → tail ≡ false) → (b || tail) ≡ false
at_first true x rest tail h later = absurd cc
at_first false x rest tail h later = later h

none_passes : {X : Type 0} (p : X → Bool) → (xs : List X) → find p xs ≡ None → list_any p xs ≡ false
none_passes p [] e = refl
none_passes p (x ∷ xs) e = at_first (p x) x (find p xs) (list_any p xs) e (λ rest. none_passes p xs rest)

first_is : {X : Type 0} (p : X → Bool) (b : Bool) (y x : X) (rest : Option X) → p y ≡ b → cond b (Some y) rest ≡ Some x → (rest ≡ Some x → p x ≡ true) → p x ≡ true
first_is p true y x rest is h later = let same : y ≡ x = cc in rw (sym same) is
first_is p false y x rest is h later = later h

pub found_passes : {X : Type 0} (p : X → Bool) → (xs : List X) (x : X) → find p xs ≡ Some x → p x ≡ true
found_passes p [] x e = absurd cc
found_passes p (y ∷ ys) x e = first_is p (p y) y x (find p ys) refl e (λ rest. found_passes p ys x rest)

any_of_map : {X Y : Type 0} (p : Y → Bool) (f : X → Y) → (xs : List X) → list_any p (map f xs) ≡ list_any (λ x. p (f x)) xs
any_of_map p f [] = refl
any_of_map p f (x ∷ xs) = ap (λ b. p (f x) || b) (any_of_map p f xs)

-- what passes nowhere passes at nothing that the list has
pub passes_nowhere : {X Y : Type 0} (p : Y → Bool) (f : X → Y) (xs : List X) (y : Y) → find (λ x. p (f x)) xs ≡ None → Contains (map f xs) y → p y ≡ true → ⊥
passes_nowhere p f xs y e there pass =
    let none = any_of_map p f xs ∙ none_passes (λ x. p (f x)) xs e in
    let some = list_any_at p (map f xs) there.0 y there.1 (ap p there.2 ∙ pass) in
    absurd (cc (none, some))
