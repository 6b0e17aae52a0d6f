-- What a reading that is followed says of the bytes.
use Rattle.std.proofs.Common.{◌≡◌, List, ℕ, Result, Ok, Err, subst, ap, ◌∙◌}
use Rattle.std.specs.Prelude.{IfOk}
use Rattle.ing_refusals.specs.Results.{Gives}
use Rattle.ing_codec.specs.declared.fault.CodecFault.{CodecFault}
use Rattle.ing_codec.specs.declared.fault.CodecFault.TheVariants.{NoMemory}
use Rattle.ing_codec.specs.ChunkObjects.{ChunkObject, IsObject, Spells}
use Rattle.ing_codec.specs.ChunkReading.{read_chunk}
use Rattle.ing_codec.specs.RowObjects.{RowObject, IsRow, row_text, read_row}
use Rattle.ing_codec.proofs.FieldLaws.{IsBytes}
use Rattle.ing_codec.proofs.ChunkLaws.{chunk_takes, chunk_again}
use Rattle.ing_codec.proofs.RowLaws.{row_takes, row_again}

pub chunk_spelt : {X : Type 0} (view : X → ChunkObject) (r : Result X CodecFault) (bytes : List ℕ) → IsBytes bytes → Gives NoMemory view r (read_chunk bytes) → IfOk r (λ c. IsObject (view c) × Spells bytes (view c))
chunk_spelt view (Ok c) bytes fits h = chunk_takes bytes (view c) fits h
chunk_spelt view (Err f) bytes fits h = tt

pub chunk_each : {X : Type 0} (view : X → ChunkObject) (r : Result X CodecFault) (bytes : List ℕ) → Gives NoMemory view r (read_chunk bytes) → (o : ChunkObject) → IsObject o → Spells bytes o → Gives NoMemory view r (Ok o)
chunk_each view r bytes h o object spells = subst (λ (f : Result ChunkObject CodecFault). Gives NoMemory view r f) (chunk_again bytes o object spells) h

pub row_spelt : {X : Type 0} (view : X → RowObject) (r : Result X CodecFault) (bytes : List ℕ) → IsBytes bytes → Gives NoMemory view r (read_row bytes) → IfOk r (λ c. IsRow (view c) × (bytes ≡ row_text (view c)))
row_spelt view (Ok c) bytes fits h = row_takes bytes (view c) fits h
row_spelt view (Err f) bytes fits h = tt

pub row_each : {X : Type 0} (view : X → RowObject) (r : Result X CodecFault) (bytes : List ℕ) → Gives NoMemory view r (read_row bytes) → (o : RowObject) → IsRow o → bytes ≡ row_text o → Gives NoMemory view r (Ok o)
row_each view r bytes h o object e = subst (λ (f : Result RowObject CodecFault). Gives NoMemory view r f) (ap read_row e ∙ row_again o object) h
