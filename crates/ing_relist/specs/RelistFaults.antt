-- What a fault of a re-listing tells of the store (own).
use Rattle.std.specs.Prelude.{◌≡◌, ℕ, ◌+◌, ◌≤◌, List, Option, Some, None, Result, Ok, Err, IfErr}
use Rattle.sha2.specs.Sha256.{sha256}
use Rattle.ing_codec.specs.ChunkObjects.{ChunkObject}
use Rattle.ing_codec.specs.ChunkReading.{read_chunk}
use Rattle.ing_codec.specs.RowObjects.{RowObject}
use Rattle.ing_parts.specs.Listings.{IsListing, blocks_in}
use Rattle.ing_refusals.specs.Failures.{HasFailed}
use Rattle.ing_store.specs.declared.fault.StoreFault as store
use Rattle.ing_store.specs.declared.fault.StoreFault.TheVariants as store_fault
use Rattle.ing_rows.specs.declared.entry.Entry.{Entry}
use Rattle.ing_relist.specs.Ends.{EndsWith}
use Rattle.ing_refusals.specs.declared.relist_fault.RelistFault.{RelistFault}
use Rattle.ing_refusals.specs.declared.relist_fault.RelistFault.TheVariants.{NoMemory, Failed, Damaged, Missing, BadObject}

-- what a fault tells of the end's count of failures before and after: it does not fall, a fault of the store comes only where the
-- end has failed, and it stays where memory ran out or the object is missing or bad
abbrev pub Counts : ℕ → ℕ → RelistFault → Type 0
Counts before after NoMemory = after ≡ before
Counts before after (Failed key) = (before ≤ after) × HasFailed before after
Counts before after (Damaged key) = (before ≤ after) × HasFailed before after
Counts before after (Missing key) = after ≡ before
Counts before after (BadObject key) = after ≡ before

-- and what an answer tells of it: it stays where the answer is Ok
abbrev pub IsCounted : {T : Type 0} → ℕ → ℕ → Result T RelistFault → Type 0
IsCounted before after (Ok answer) = after ≡ before
IsCounted before after (Err fault) = Counts before after fault

-- the key of a fault, where it has one, is this one
abbrev pub KeyIs : List ℕ → RelistFault → Type 0
KeyIs k NoMemory = Unit {0}
KeyIs k (Failed key) = key ≡ k
KeyIs k (Damaged key) = key ≡ k
KeyIs k (Missing key) = key ≡ k
KeyIs k (BadObject key) = key ≡ k

abbrev pub HasKey : {T : Type 0} → List ℕ → Result T RelistFault → Type 0
HasKey k result = IfErr result (KeyIs k)

-- where a fault is a bad object, this holds
abbrev pub BadMeans : Type 0 → RelistFault → Type 0
BadMeans P NoMemory = Unit {0}
BadMeans P (Failed key) = Unit {0}
BadMeans P (Damaged key) = Unit {0}
BadMeans P (Missing key) = Unit {0}
BadMeans P (BadObject key) = P

abbrev pub HasBad : {T : Type 0} → Type 0 → Result T RelistFault → Type 0
HasBad P result = IfErr result (BadMeans P)

-- A receipt of an object of this name was given, and the bytes that it means are not read as a chunk of which this is told, or as
-- one that ends with another entry than this.
abbrev pub WasOther : {R : Type 0} → (R → List ℕ) → (R → List ℕ) → List ℕ → RowObject → Option Entry → Type 0
WasOther {R} name bytes wanted row last =
    (r : R) × (name r ≡ wanted)
    × (IsListing (bytes r) row → EndsWith last (row.extent.first + row.extent.count) (blocks_in (read_chunk (bytes r))) → ⊥)

-- Bytes are read as a chunk, and this is their key.
pub record IsReadAs (object : ChunkObject) (key bytes : List ℕ) : Type 0 where
  pub read : read_chunk bytes ≡ Ok object
  pub hash : key ≡ sha256 bytes

-- A receipt of an object of this name was given, and the bytes that it means are not read as this chunk, or have another key.
abbrev pub WasAnother : {R : Type 0} → (R → List ℕ) → (R → List ℕ) → List ℕ → ChunkObject → List ℕ → Type 0
WasAnother {R} name bytes wanted object key = (r : R) × (name r ≡ wanted) × (IsReadAs object key (bytes r) → ⊥)

-- what an end's answer comes to
abbrev pub taken_of : {T : Type 0} → List ℕ → Result (Option T) store.StoreFault → Result T RelistFault
taken_of key (Ok (Some found)) = Ok found
taken_of key (Ok None) = Err (Missing key)
taken_of key (Err store_fault.NoMemory) = Err NoMemory
taken_of key (Err store_fault.Failed) = Err (Failed key)
taken_of key (Err store_fault.Damaged) = Err (Damaged key)
