-- Faults as the endings that they become.
use Rattle.std.proofs.Common.{◌≡◌, ◌≢◌, ◌⊎◌, inl, inr, false, true, refl, subst, sym, Result, Ok, Err}
use Rattle.std.specs.Prelude.{IfErr, IsErrOf, IsTrue}
use Rattle.ing_refusals.specs.declared.recover_fault.RecoverFault.{RecoverFault}
use Rattle.ing_refusals.specs.declared.recover_fault.RecoverFault.TheVariants as recover
use Rattle.ing_refusals.specs.declared.relist_fault.RelistFault.TheVariants as relist
use Rattle.ing_session.specs.declared.lines.LineError.{LineError}
use Rattle.ing_session.specs.declared.lines.LineError.TheVariants as lines
use Rattle.ing_session.specs.declared.ending.Ending.{Ending}
use Rattle.ing_session.specs.declared.ending.Ending.TheVariants.{NoMemory, InputFault, OutputFault, NotRecovered}
use Rattle.ing_session.specs.Endings.{IsNotRecovered, ending_of_line, ending_of_recover, is_of_run}
use Rattle.ing_session.specs.Runs.{IsUnbegun}

-- want of memory is no fault of the input
pub of_no_memory : {T : Type 0} (r : Result T Ending) (fault : LineError) (ending : Ending) → r ≡ Err ending → ending ≡ ending_of_line fault → r ≡ Err InputFault → fault ≢ lines.NoMemory
of_no_memory r fault ending is passed other same = absurd (cc (is, passed, other, same))

-- and no fault of the output
pub no_output : {T : Type 0} (r : Result T Ending) (fault ending : Ending) → r ≡ Err ending → ending ≡ fault → r ≡ Err NoMemory → fault ≢ OutputFault
no_output r fault ending is passed other same = absurd (cc (is, passed, other, same))

-- a fault that is passed on is the same
pub same_fault : {T : Type 0} (r : Result T Ending) (fault ending other : Ending) → r ≡ Err ending → ending ≡ fault → r ≡ Err other → fault ≡ other
same_fault r fault ending other is passed same = cc

-- and a fault that is passed on is none of it
pub no_output_on : {T : Type 0} (r : Result T Ending) (fault ending other : Ending) → r ≡ Err ending → ending ≡ fault → r ≡ Err other → other ≢ OutputFault → fault ≢ OutputFault
no_output_on r fault ending other is passed same none = subst (λ x. x ≢ OutputFault) (sym (same_fault r fault ending other is passed same)) none

-- what ends the reading of a line is no fault of the output
pub no_line_output : (fault : LineError) → ending_of_line fault ≢ OutputFault
no_line_output lines.ReadFailed is = absurd cc
no_line_output lines.TooManyReads is = absurd cc
no_line_output lines.NoMemory is = absurd cc

-- a fault of the input is none of the output
pub no_output_read : (fault : Ending) → fault ≡ InputFault → fault ≢ OutputFault
no_output_read fault is other = absurd (cc (is, other))

-- how a recovery that is refused ends
pub recover_ending : (fault : RecoverFault) → IsTrue (is_of_run (ending_of_recover fault)) ⊎ IsNotRecovered (ending_of_recover fault)
recover_ending recover.NoMemory = inl refl
recover_ending recover.LogFault = inr (recover.LogFault, refl)
recover_ending (recover.Damaged at) = inr (recover.Damaged at, refl)
recover_ending recover.OtherSettings = inr (recover.OtherSettings, refl)
recover_ending (recover.Relist relist.NoMemory) = inl refl
recover_ending (recover.Relist (relist.Failed key)) = inr (recover.Relist (relist.Failed key), refl)
recover_ending (recover.Relist (relist.Damaged key)) = inr (recover.Relist (relist.Damaged key), refl)
recover_ending (recover.Relist (relist.Missing key)) = inr (recover.Relist (relist.Missing key), refl)
recover_ending (recover.Relist (relist.BadObject key)) = inr (recover.Relist (relist.BadObject key), refl)

-- and of which fault a shard is not made again
pub not_recovered : (told fault : RecoverFault) → ending_of_recover told ≡ NotRecovered fault → (told ≡ fault) × (told ≢ recover.NoMemory)
not_recovered recover.NoMemory fault is = absurd (cc)
not_recovered recover.LogFault fault is = (cc, λ none. cc)
not_recovered (recover.Damaged at) fault is = (cc, λ none. cc)
not_recovered recover.OtherSettings fault is = (cc, λ none. cc)
not_recovered (recover.Relist relist.NoMemory) fault is = absurd (cc)
not_recovered (recover.Relist (relist.Failed key)) fault is = (cc, λ none. cc)
not_recovered (recover.Relist (relist.Damaged key)) fault is = (cc, λ none. cc)
not_recovered (recover.Relist (relist.Missing key)) fault is = (cc, λ none. cc)
not_recovered (recover.Relist (relist.BadObject key)) fault is = (cc, λ none. cc)

-- the ending is what it is told to be
pub same_ending : {X : Type 0} (e told : Ending) → IsErrOf {T = X} (Err e) told → e ≡ told
same_ending {X} e told is = let both : ◌≡◌ {A = Result X Ending} (Err e) (Err told) = is in search (both)

-- a run that began has no such ending
pub not_of_run : {X : Type 0} (r : Result X Ending) (fault : RecoverFault) → IfErr r (λ e. IsTrue (is_of_run e)) → IsErrOf r (NotRecovered fault) → ⊥
not_of_run {X} (Ok x) fault of is = let both : ◌≡◌ {A = Result X Ending} (Ok x) (Err (NotRecovered fault)) = is in cc
not_of_run {X} (Err e) fault run is =
    let here : e ≡ NotRecovered fault = same_ending {X = X} e (NotRecovered fault) is in
    let wrong : false ≡ true = subst (λ x. is_of_run x ≡ true) here run in
    cc

-- a shard that is not made again ends a run before it begins
pub recover_unbegun : (T : Type 0) {W : Type 0} (writer : W) (ending : Ending) (fault : RecoverFault) → ending ≡ ending_of_recover fault → IsUnbegun {T = T} writer writer (Err ending)
recover_unbegun T writer ending fault is = subst (λ e. IsUnbegun {T = T} writer writer (Err e)) (sym is) (by_fault fault) where
  by_fault : (fault : RecoverFault) → IsUnbegun {T = T} writer writer (Err (ending_of_recover fault))
  by_fault recover.NoMemory = refl
  by_fault recover.LogFault = refl
  by_fault (recover.Damaged at) = refl
  by_fault recover.OtherSettings = refl
  by_fault (recover.Relist relist.NoMemory) = refl
  by_fault (recover.Relist (relist.Failed key)) = refl
  by_fault (recover.Relist (relist.Damaged key)) = refl
  by_fault (recover.Relist (relist.Missing key)) = refl
  by_fault (recover.Relist (relist.BadObject key)) = refl
