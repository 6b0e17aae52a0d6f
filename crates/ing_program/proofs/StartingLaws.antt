-- What the bytes of a settings file come to.
use Rattle.std.proofs.Common.{◌≡◌, ◌≢◌, ◌⊎◌, ◌+◌, ◌<◌, ◌≤◌, ℕ, List, [], ◌∷◌, None, Ok, Err, ap, arith, inl, inr, length, refl, sym, subst, ◌∙◌}
use Rattle.std.specs.Prelude.{if◌then◌else◌, Result, IfSome, IfErr, string_bytes}
use Rattle.std.specs.Result.{IsErrAnd}
use Rattle.std.specs.Str.{is_utf8, IsUtf8}
use Rattle.std.proofs.lemmas.Bool.{false_from_ne_true}
use Rattle.std.proofs.lemmas.Str.{is_utf8-from_IsUtf8, IsUtf8-from_is_utf8}
use Rattle.ing_limits.specs.Settings.{StoreSettings, Refusal, not_toml, unknown_setting, bad_setting, settings_of}
use Rattle.ing_limits.specs.Faults as limits
use Rattle.ing_limits.specs.declared.fault.SettingsFault.{SettingsFault}
use Rattle.ing_limits.specs.declared.fault.SettingsFault.TheVariants.{NoMemory, NotToml, UnknownSetting, BadSetting}
use Rattle.ing_service.specs.Ends.{up_to_last}
use Rattle.ing_lanes.specs.Manners.{Manner}
use Rattle.ing_lanes.specs.Ending.{Ending}
use Rattle.ing_lanes.specs.Endings.{ending_of_settings, refusal_of}
use Rattle.ing_lanes.specs.Ending.TheVariants as endings
use Rattle.ing_lanes.specs.Runs.{IsUnbegun}
use Rattle.ing_lanes.proofs.RunsLaws.{unbegun}
use Rattle.ing_program.specs.Starting.{GiveSettings, InManner, IsOfFolder, IsOverFolder, NamesFile, manner_of, started_by}

-- bytes that are no UTF-8 are no TOML
pub started_unread : (file : List ℕ) → (IsUtf8 file → ⊥) → started_by file ≡ Err not_toml
started_unread file not_text = ap (λ b. if b then settings_of file else Err not_toml) (false_from_ne_true (is_utf8 file) (λ is. not_text (IsUtf8-from_is_utf8 file is)))

-- other bytes give what their text gives
pub started_text : (file : List ℕ) (read : Result StoreSettings Refusal) → IsUtf8 file → settings_of file ≡ read → started_by file ≡ read
started_text file read text is = ap (λ b. if b then settings_of file else Err not_toml) (is_utf8-from_IsUtf8 file text) ∙ is

-- ---- a refused text, passed on as the ending of the program

refused_alike : (fault : SettingsFault) (P Q : Refusal → Type 0) → ((refusal : Refusal) → P refusal → Q refusal) → IfSome (limits.refusal_of fault) P → IfSome (refusal_of (ending_of_settings fault)) Q
refused_alike NoMemory P Q f refused = tt
refused_alike NotToml P Q f refused = f not_toml refused
refused_alike (UnknownSetting name) P Q f refused = f (unknown_setting (string_bytes name)) refused
refused_alike (BadSetting name) P Q f refused = f (bad_setting (string_bytes name)) refused

pub refused_text : {T : Type 0} (file : List ℕ) (fault : SettingsFault) (r : Result T Ending) → IsUtf8 file
    → IfSome (limits.refusal_of fault) (λ refusal. settings_of file ≡ Err refusal)
    → IsErrAnd r (λ e. e ≡ ending_of_settings fault)
    → IfErr r (λ e. IfSome (refusal_of e) (λ refusal. started_by file ≡ Err refusal))
refused_text file fault (Ok x) text refused passed = tt
refused_text file fault (Err e) text refused passed =
    subst (λ ending. IfSome (refusal_of ending) (λ refusal. started_by file ≡ Err refusal)) (sym passed)
    (refused_alike fault (λ refusal. settings_of file ≡ Err refusal) (λ refusal. started_by file ≡ Err refusal) (λ refusal is. started_text file (Err refusal) text is) refused)

-- ---- an end of the store that never failed

pub at_zero : (P : ℕ → ℕ → Type 0) (a b : ℕ) → a ≡ 0 → b ≡ 0 → P a b → P 0 0
at_zero P a b first last p = subst (λ x. P x 0) first (subst (λ x. P a x) last p)

-- ends of which none has failed, together
pub none_failed : (own others all : ℕ) → all ≡ up_to_last (own + others) → own ≡ 0 → others ≡ 0 → all ≡ 0
none_failed own others all is none no_other = omega (arith, is, none, no_other)

-- ---- what is said by the bytes of a file

module _ (honest : Type 0) (words : List (List ℕ)) (file bytes : List ℕ) (named : NamesFile words file) (same : bytes ≡ file) where
  in_manner : (settings : StoreSettings) (P : Manner → ℕ → Type 0) → length words ≤ 1 → P (manner_of settings) 0 → InManner honest words settings P
  in_manner settings P few p = by_words words few where
    by_words : (ws : List (List ℕ)) → length ws ≤ 1 → InManner honest ws settings P
    by_words [] few = p
    by_words (path ∷ []) few = p
    by_words (path ∷ folder ∷ more) few = absurd (omega (arith, few))

  over_manner : (settings : StoreSettings) (P : Manner → ℕ → Type 0) → 1 < length words → IsOverFolder honest P → InManner honest words settings P
  over_manner settings P some p = by_words words some where
    by_words : (ws : List (List ℕ)) → 1 < length ws → InManner honest ws settings P
    by_words [] some = absurd (omega (arith, some))
    by_words (path ∷ []) some = absurd (omega (arith, some))
    by_words (path ∷ folder ∷ more) some = p

  -- it is said by the words that name the file
  pub give_memory : (P : Manner → StoreSettings → ℕ → Type 0) → length words ≤ 1
      → ((x : StoreSettings) × (started_by bytes ≡ Ok x) × P (manner_of x) x 0) → GiveSettings honest words P
  give_memory P few (x, is, p) = (file, named, x, subst (λ b. started_by b ≡ Ok x) same is, in_manner x (λ m failed. P m x failed) few p)

  pub give_over : (P : Manner → StoreSettings → ℕ → Type 0) → 1 < length words
      → ((x : StoreSettings) × (started_by bytes ≡ Ok x) × IsOverFolder honest (λ m failed. P m x failed)) → GiveSettings honest words P
  give_over P some (x, is, p) = (file, named, x, subst (λ b. started_by b ≡ Ok x) same is, over_manner x (λ m failed. P m x failed) some p)

-- ---- what ends a run before it begins

-- memory ran out, or the settings are refused
pub of_file : {T W : Type 0} (writer : W) (ended : Result T Ending) (e told : Ending) → ended ≡ Err e → e ≡ told → (refusal_of told ≡ None → told ≡ endings.NoMemory) → IsUnbegun writer writer ended
of_file writer ended e told is passed memory = unbegun writer writer ended e is (λ read. no_reading (sym passed ∙ read)) (λ written. no_writing (sym passed ∙ written)) refl where
  no_reading : told ≢ endings.InputFault
  no_reading read = let here = memory (ap refusal_of read) in absurd (cc (here, read))

  no_writing : told ≢ endings.OutputFault
  no_writing written = let here = memory (ap refusal_of written) in absurd (cc (here, written))

-- memory ran out, or a folder is not as it was begun
neither : (told : Ending) → (told ≡ endings.NoMemory) ⊎ IsOfFolder told → (told ≢ endings.InputFault) × (told ≢ endings.OutputFault)
neither told (inl is) = (λ read. cc, λ written. cc)
neither told (inr (inl is)) = (λ read. cc, λ written. cc)
neither told (inr (inr (inl is))) = (λ read. cc, λ written. cc)
neither told (inr (inr (inr (inl is)))) = (λ read. cc, λ written. cc)
neither told (inr (inr (inr (inr (inl is))))) = (λ read. cc, λ written. cc)
neither told (inr (inr (inr (inr (inr (fault, is)))))) = (λ read. cc, λ written. cc)

pub of_folder : {T W : Type 0} (writer : W) (ended : Result T Ending) (e told : Ending) → ended ≡ Err e → e ≡ told → (told ≡ endings.NoMemory) ⊎ IsOfFolder told → IsUnbegun writer writer ended
of_folder writer ended e told is passed why = unbegun writer writer ended e is (λ read. (neither told why).0 (sym passed ∙ read)) (λ written. (neither told why).1 (sym passed ∙ written)) refl

-- memory ran out, or the words name no file that can be read
pub of_words : {T W : Type 0} (writer : W) (ended : Result T Ending) (e told : Ending) → ended ≡ Err e → e ≡ told
    → (told ≡ endings.NoMemory) ⊎ ((told ≡ endings.NoSettings) ⊎ (told ≡ endings.BadArguments)) → IsUnbegun writer writer ended
of_words writer ended e told is passed why = unbegun writer writer ended e is (λ read. (none why).0 (sym passed ∙ read)) (λ written. (none why).1 (sym passed ∙ written)) refl where
  none : (told ≡ endings.NoMemory) ⊎ ((told ≡ endings.NoSettings) ⊎ (told ≡ endings.BadArguments)) → (told ≢ endings.InputFault) × (told ≢ endings.OutputFault)
  none (inl is) = (λ read. cc, λ written. cc)
  none (inr (inl is)) = (λ read. cc, λ written. cc)
  none (inr (inr is)) = (λ read. cc, λ written. cc)
