-- What of the parts of streams stands in memory, and what is still to be read from a store (own).
use Rattle.std.specs.Prelude.{◌≡◌, ℕ, true, List, [], ◌∷◌, ◌++◌, map, IsPermutation}
use Rattle.std.specs.List.{flat_map, AllByRecursion, Contains}
use Rattle.ing_chunk.specs.Chunks.{in_blocks}
use Rattle.ing_parts.specs.declared.found.Found.{Found}
use Rattle.ing_parts.specs.Parts.{asked, found_between, found_of, is_within, standing}
use Rattle.ing_parts.specs.Questions.{question_view}
use Rattle.ing_parts.specs.declared.found.Question as code
use Rattle.ing_parts.specs.declared.snapshot.Part.{Part}
use Rattle.ing_parts.specs.declared.snapshot.Snapshot.{Snapshot}
use Rattle.ing_parts.specs.declared.snapshot.Source.{Source}
use Rattle.ing_parts.specs.declared.snapshot.Source.TheVariants.{Block, Stored}
use Rattle.ing_codec.specs.ChunkObjects.{ChunkObject}
use Rattle.ing_rows.specs.declared.order.Order.{Order}
use Rattle.ing_parts.specs.Answers.{BestState, IsAnswer, Offers}
use Rattle.ing_parts.specs.Listings.{Listed}
use Rattle.ing_query.specs.declared.query.Waiting.{Waiting}
use Rattle.ing_query.specs.Fetched.{IsTaken}

-- what is wanted of a part that waits
abbrev pub wanted_there : {R : Type 0} → Waiting R → List Found
wanted_there w = found_between w.name (question_view w.question) (in_blocks w.listing.blocks)

-- its key
abbrev pub key_there : {R : Type 0} → Waiting R → List ℕ
key_there w = w.listing.key

-- what is wanted of a place in memory
abbrev pub in_memory : {R : Type 0} → List ℕ → code.Question → Source R → List Found
in_memory name q (Block block) = found_between name (question_view q) block
in_memory name q (Stored listing) = []

-- what waits of a place in a store
abbrev pub in_store : {R : Type 0} → List ℕ → code.Question → Source R → List (Waiting R)
in_store name q (Block block) = []
in_store name q (Stored listing) =
    record { name = name; listing = listing; question = q } ∷ []

abbrev pub memory_in : {R : Type 0} → code.Question → Part R → List Found
memory_in q p = in_memory p.name q p.source

abbrev pub waiting_in : {R : Type 0} → code.Question → Part R → List (Waiting R)
waiting_in q p = in_store p.name q p.source

-- the same of a snapshot: what it keeps stands in memory too
abbrev pub memory_of : {R : Type 0} → Snapshot R → List Found
memory_of s = s.best.held ++ flat_map (memory_in s.question) s.parts.items

abbrev pub waiting_of : {R : Type 0} → Snapshot R → List (Waiting R)
waiting_of s = flat_map (waiting_in s.question) s.parts.items

-- the keys of the stored parts of snapshots
abbrev pub keys_in : {R : Type 0} → List (Snapshot R) → List (List ℕ)
keys_in snapshots = map key_there (flat_map waiting_of snapshots)

-- what is listed of the stored parts of snapshots
abbrev pub listed_there : {R : Type 0} → Waiting R → Listed
listed_there w = w.listing

abbrev pub listed_in : {R : Type 0} → List (Snapshot R) → List Listed
listed_in snapshots = map listed_there (flat_map waiting_of snapshots)

-- one of these is listed
abbrev pub IsListedIn : {R : Type 0} → List (Snapshot R) → Listed → Type 0
IsListedIn snapshots listed = Contains (listed_in snapshots) listed

-- ---- whatever a store gives

-- a part that waits, and the chunk that is taken for what is listed of it
abbrev pub Read : Type 0 → Type 0
Read R = Waiting R × ChunkObject

-- what is wanted of it
abbrev pub read_there : {R : Type 0} → Read R → List Found
read_there r = found_between r.0.name (question_view r.0.question) (in_blocks r.1.blocks)

-- a chunk is taken for each
abbrev pub AreTaken : {R : Type 0} → List (Read R) → Type 0
AreTaken reads = AllByRecursion (λ r. IsTaken r.0.listing r.1) reads

-- a chunk is taken for each of these parts, in some order, and what is wanted of all these chunks is offered
pub record AreOffered {R : Type 0} (waiting : List (Waiting R)) (old new : BestState) : Type 0 where
  pub reads : List (Read R)
  pub each : map (λ r. r.0) reads ≡ waiting
  pub taken : AreTaken reads
  pub offers : Offers (flat_map read_there reads) old new

-- the same of one part
pub record IsOffered {R : Type 0} (waiting : Waiting R) (old new : BestState) : Type 0 where
  pub object : ChunkObject
  pub taken : IsTaken waiting.listing object
  pub offers : Offers (read_there (waiting, object)) old new

-- an answer of what stands in memory and of chunks that are taken for what is listed, one for each stored part: so it is
-- never a partial one, whatever a store gives
pub record IsAnswerOf {R : Type 0} (order : Order) (limit : ℕ) (snapshots : List (Snapshot R)) (answer : List Found) : Type 0 where
  pub reads : List (Read R)
  pub each : IsPermutation (flat_map waiting_of snapshots) (map (λ r. r.0) reads)
  pub taken : AreTaken reads
  pub is : IsAnswer order limit (flat_map memory_of snapshots ++ flat_map read_there reads) answer

-- it is in the range of one of the snapshots, and one of its name and number stands in that snapshot
pub record IsOf {R : Type 0} (snapshots : List (Snapshot R)) (f : Found) : Type 0 where
  pub snapshot : Snapshot R
  pub there : Contains snapshots snapshot
  pub in_range : is_within (asked snapshot) f ≡ true
  pub entry : Found
  pub stands : Contains (standing snapshot) entry
  pub name : entry.name ≡ f.name
  pub number : entry.number ≡ f.number

-- the key of a place in a store
abbrev pub IsKeyIn : {R : Type 0} → Source R → List ℕ → Type 0
IsKeyIn (Block block) key = ⊥
IsKeyIn (Stored listing) key = key ≡ listing.key

-- what is listed of a place in a store
abbrev pub IsListedAt : {R : Type 0} → Source R → Listed → Type 0
IsListedAt (Block block) listed = ⊥
IsListedAt (Stored listing) listed = listed ≡ listing

-- all entries of a part: those in memory, or those of a chunk that is taken for what is listed
abbrev pub AreAllOf : {R : Type 0} → List ℕ → Source R → List Found → Type 0
AreAllOf name (Block block) all = all ≡ map (found_of name) block
AreAllOf name (Stored listing) all = (o : ChunkObject) × IsTaken listing o × (all ≡ map (found_of name) (in_blocks o.blocks))

-- they are added behind others
abbrev pub AddsAllOf : {R : Type 0} → List ℕ → Source R → List Found → List Found → Type 0
AddsAllOf name source old new = (all : List Found) × AreAllOf name source all × (new ≡ old ++ all)

-- they are given, in some order
abbrev pub GivesAllOf : {R : Type 0} → List ℕ → Source R → List Found → Type 0
GivesAllOf name source found = (all : List Found) × AreAllOf name source all × IsPermutation all found
