-- What is known of a stored chunk, and what a fault of a query tells of the store (own).
use Rattle.std.specs.Prelude.{◌≡◌, ℕ, ◌==◌, ◌≤◌, List, filter, length, Result, Ok, Err, IfErr}
use Rattle.sha2.specs.Sha256.{sha256}
use Rattle.ing_chunk.specs.declared.numbered.Numbered.{Numbered}
use Rattle.ing_chunk.specs.Chunks.{in_blocks}
use Rattle.ing_codec.specs.ChunkObjects.{ChunkObject, IsObject}
use Rattle.ing_codec.specs.ChunkReading.{read_chunk}
use Rattle.ing_parts.specs.Listings.{Listed, IsLike}
use Rattle.ing_refusals.specs.Failures.{HasFailed}
use Rattle.ing_query.specs.declared.fault.QueryFault.{QueryFault}
use Rattle.ing_query.specs.declared.fault.QueryFault.TheVariants.{NoMemory, StoreFault, BadObject}

-- each number stands in the one as often as in the other
abbrev pub HaveSameNumbers : List Numbered → List Numbered → Type 0
HaveSameNumbers xs ys =
    (number : ℕ) → length (filter (λ e. e.number == number) xs) ≡ length (filter (λ e. e.number == number) ys)

-- A chunk is taken for what is listed: it is read from bytes of the key, and has the stream, the first number and the count, and
-- so exactly the numbers.
pub record IsTaken (listed : Listed) (o : ChunkObject) : Type 0 where
  pub bytes : List ℕ
  pub key : listed.key ≡ sha256 bytes
  pub read : read_chunk bytes ≡ Ok o
  pub is : IsObject o
  pub like : IsLike listed o
  pub numbers : HaveSameNumbers (in_blocks o.blocks) (in_blocks listed.blocks)

-- bytes that have the key of what is listed spell no chunk of its stream, its first number and its count
pub record AreBad (listed : Listed) (bytes : List ℕ) : Type 0 where
  pub key : listed.key ≡ sha256 bytes
  pub none : (o : ChunkObject) → read_chunk bytes ≡ Ok o → IsLike listed o → ⊥

-- there are such bytes
abbrev pub WasBad : Listed → Type 0
WasBad listed = (bytes : List ℕ) × AreBad listed bytes

-- under this key something is listed of this kind for which there are such bytes
abbrev pub WasBadIn : (Listed → Type 0) → List ℕ → Type 0
WasBadIn P key = (listed : Listed) × P listed × (key ≡ listed.key) × WasBad listed

-- what a fault tells of the end's count of failures before and after: it does not fall, a fault of the store
-- comes only where the end has failed, and it stays where memory ran out or the object is bad
abbrev pub Counts : ℕ → ℕ → QueryFault → Type 0
Counts before after NoMemory = after ≡ before
Counts before after (StoreFault key) = (before ≤ after) × HasFailed before after
Counts before after (BadObject key) = after ≡ before

-- and what an answer tells of it: it stays where the answer is Ok
abbrev pub IsCounted : {T : Type 0} → ℕ → ℕ → Result T QueryFault → Type 0
IsCounted before after (Ok answer) = after ≡ before
IsCounted before after (Err fault) = Counts before after fault

-- the key of a fault, where it has one, is of this kind
abbrev pub KeyIs : (List ℕ → Type 0) → QueryFault → Type 0
KeyIs P NoMemory = Unit {0}
KeyIs P (StoreFault key) = P key
KeyIs P (BadObject key) = P key

abbrev pub HasKey : {T : Type 0} → (List ℕ → Type 0) → Result T QueryFault → Type 0
HasKey P result = IfErr result (KeyIs P)

-- it is no bad object
abbrev pub NotBad : QueryFault → Type 0
NotBad NoMemory = Unit {0}
NotBad (StoreFault key) = Unit {0}
NotBad (BadObject key) = ⊥

abbrev pub IsNotBad : {T : Type 0} → Result T QueryFault → Type 0
IsNotBad result = IfErr result NotBad

-- it is no fault of the store
abbrev pub NotStore : QueryFault → Type 0
NotStore NoMemory = Unit {0}
NotStore (StoreFault key) = ⊥
NotStore (BadObject key) = Unit {0}

abbrev pub IsNotStore : {T : Type 0} → Result T QueryFault → Type 0
IsNotStore result = IfErr result NotStore

-- the key of a bad object, where the fault is one, is of this kind
abbrev pub BadIs : (List ℕ → Type 0) → QueryFault → Type 0
BadIs P NoMemory = Unit {0}
BadIs P (StoreFault key) = Unit {0}
BadIs P (BadObject key) = P key

abbrev pub HasBad : {T : Type 0} → (List ℕ → Type 0) → Result T QueryFault → Type 0
HasBad P result = IfErr result (BadIs P)
