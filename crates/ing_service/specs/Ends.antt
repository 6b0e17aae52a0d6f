-- The ends of one store, taken together, and what uploads through them come to.
use Rattle.std.specs.Prelude.{ℕ, ◌+◌, ◌-◌, ◌^◌, ◌<◌, min, All, List, length, get_or, sum_by, Option, Some, None, IfSome, Result, Ok, Err, IfOk}
use Rattle.std.specs.List.{AllZip}
use Rattle.ing_labels.specs.Canonical.{canonical_of}
use Rattle.ing_durable.specs.Flights.{Flown, IsUploaded}
use Rattle.ing_durable.specs.Flushed.{Flushed}
use Rattle.ing_store.specs.declared.fault.StoreFault.{StoreFault}
use Rattle.ing_store.specs.declared.fault.StoreFault.TheVariants.{NoMemory, Failed, Damaged}
use Rattle.ing_service.specs.declared.ends.Ends.{Ends}

-- a count that is told up to 2^64-1
abbrev pub up_to_last : ℕ → ℕ
up_to_last n = min n (2 ^ 64 - 1)

module _ {E : Type 0} where
  -- how often ends have failed, all together
  abbrev pub failures_in : (E → ℕ) → Ends E → ℕ
  failures_in count ends = up_to_last (count ends.own + sum_by count ends.others.items)

  -- none of them ever fails
  abbrev pub NeverFail : (E → Type 0) → Ends E → Type 0
  NeverFail never_fails ends = never_fails ends.own × All never_fails ends.others.items

-- ---- one upload

-- the name of its stream can be written
abbrev pub IsShort : Flown → Type 0
IsShort f = length (canonical_of f.labels) < 2 ^ 32

-- what an upload of the chunk gives: what is listed of it, and the receipt of its index row; bytes and name are what receipts mean
abbrev pub IsUploadOf : {R : Type 0} → (R → List ℕ) → (R → List ℕ) → Flown → Flushed R → Type 0
IsUploadOf bytes name f done = IsUploaded f done.listing (bytes done.row) (name done.row)

-- how many uploads failed: where memory ran out, the store has not failed
abbrev pub failed_by : {T : Type 0} → Result T StoreFault → ℕ
failed_by (Ok done) = 0
failed_by (Err NoMemory) = 0
failed_by (Err Failed) = 1
failed_by (Err Damaged) = 1

-- ---- uploads of chunks in a list

-- it is of the chunk at this place
abbrev pub IsNoteOf : {R : Type 0} → (R → List ℕ) → (R → List ℕ) → List Flown → ℕ → Result (Flushed R) StoreFault → Type 0
IsNoteOf bytes name chunks place outcome =
    (place < length chunks) × ((f : Flown) → IfOk outcome (IsUploadOf bytes name (get_or chunks place f)))

-- what is noted of each chunk, if anything is, is of its upload
abbrev pub AreNotedOf : {R : Type 0} → (R → List ℕ) → (R → List ℕ) → List Flown → List (Option (Result (Flushed R) StoreFault)) → Type 0
AreNotedOf bytes name = AllZip (λ f noted. IfSome noted (λ outcome. IfOk outcome (IsUploadOf bytes name f)))

-- how many failed uploads are noted
abbrev pub failed_if : {T : Type 0} → Option (Result T StoreFault) → ℕ
failed_if None = 0
failed_if (Some outcome) = failed_by outcome

abbrev pub failed_in : {T : Type 0} → List (Option (Result T StoreFault)) → ℕ
failed_in = sum_by failed_if

-- what came of each: its upload, or nothing where that failed
abbrev pub AreUploadsOf : {R : Type 0} → (R → List ℕ) → (R → List ℕ) → List Flown → List (Option (Flushed R)) → Type 0
AreUploadsOf bytes name = AllZip (λ f upload. IfSome upload (IsUploadOf bytes name f))

-- how many uploads failed
abbrev pub lost_by : {T : Type 0} → Option T → ℕ
lost_by None = 1
lost_by (Some done) = 0

abbrev pub lost_in : {T : Type 0} → List (Option T) → ℕ
lost_in = sum_by lost_by
