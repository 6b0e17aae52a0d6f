-- Codes, by which a proof tells the values of streams and of shards apart.
use Rattle.std.specs.Prelude.{ℕ, List, Option, refl}
use Rattle.std.specs.Coded.{Coded, code_by, coded×, coded_ℕ, coded_list}
use Rattle.std.specs.FinMap as finmap
use Rattle.ing_labels.specs.Labels.{LabelMap}
use Rattle.ing_rows.specs.declared.entry.Entry.{Entry}
use Rattle.ing_rows.specs.Rows.{StreamKey, State}
use Rattle.ing_limits.specs.Settings.{StoreSettings}
use Rattle.ing_limits.specs.Coded.{settings_code}
use Rattle.ing_shard.specs.Books.{BookStates}
use Rattle.ing_shard.specs.Contents.{Contents}
use Rattle.ing_chunk.specs.Chunks.{ChunkContents}
use Rattle.ing_checkpoint.specs.Slots.{Slot}
use Rattle.ing_shard.specs.Flights.{Flown}
use Rattle.ing_shard.specs.OneStream.{Stream}
use Rattle.ing_checkpoint.specs.Contents.{StreamContents}

-- contents are stored as settings, number, streams, sealed chunks, state and books
abbrev pub contents_code : Coded (List StreamKey) → Coded (List (List Slot)) → Coded State → Coded BookStates → Coded Contents
contents_code listed_code sealed_code state_code books_code =
    code_by (StoreSettings × (ℕ × (List StreamKey × (List (List Slot) × (State × BookStates))))) (coded× settings_code (coded× coded_ℕ (coded× listed_code (coded× sealed_code (coded× state_code books_code)))))
    (λ c. (c.settings, (c.number, (c.listed, (c.sealed, (c.state, c.books))))))
    (λ p. record { settings = p.0; number = p.1.0; listed = p.1.1.0; sealed = p.1.1.1.0; state = p.1.1.1.1.0; books = p.1.1.1.1.1 }) (λ _. refl)

-- a claimed chunk is stored as its fields
abbrev pub flown_code : Coded ChunkContents → Coded Flown
flown_code chunk_code =
    code_by (ℕ × (ℕ × (List ℕ × (LabelMap × ChunkContents)))) (coded× coded_ℕ (coded× coded_ℕ (coded× (coded_list coded_ℕ) (coded× (finmap.code (coded_list coded_ℕ) (coded_list coded_ℕ)) chunk_code))))
    (λ f. (f.shard, (f.flight, (f.tenant, (f.labels, f.chunk)))))
    (λ p. record { shard = p.0; flight = p.1.0; tenant = p.1.1.0; labels = p.1.1.1.0; chunk = p.1.1.1.1 }) (λ _. refl)

-- a stream is stored as its tenant, its labels, its greatest stamp, its last entry and its chunks
abbrev pub stream_code : Coded (Option Entry) → Coded StreamContents → Coded Stream
stream_code last_code chunks_code =
    code_by (List ℕ × (LabelMap × (ℕ × (Option Entry × StreamContents)))) (coded× (coded_list coded_ℕ) (coded× (finmap.code (coded_list coded_ℕ) (coded_list coded_ℕ)) (coded× coded_ℕ (coded× last_code chunks_code))))
    (λ s. (s.tenant, (s.labels, (s.greatest, (s.last, s.chunks)))))
    (λ p. record { tenant = p.0; labels = p.1.0; greatest = p.1.1.0; last = p.1.1.1.0; chunks = p.1.1.1.1 }) (λ _. refl)
