-- A code, by which a proof tells open tickets apart.
use Rattle.std.specs.Prelude.{Bool, refl}
use Rattle.std.specs.Coded.{Coded, code_by, coded×, coded_bool}
use Rattle.ing_chunk.specs.Chunks.{ChunkContents}
use Rattle.ing_tally.specs.Books.{BookName}
use Rattle.ing_shard.specs.Coded.{flown_code}
use Rattle.ing_shard.specs.Flights.{Flown}
use Rattle.ing_world.specs.Worlds.{OpenState}

-- an open ticket is stored as its fields
abbrev pub open_code : Coded ChunkContents → Coded BookName → Coded OpenState
open_code chunk_code book_code =
    code_by (Flown × (BookName × (Bool × Bool))) (coded× (flown_code chunk_code) (coded× book_code (coded× coded_bool coded_bool)))
    (λ o. (o.flown, (o.book, (o.has_chunk, o.has_row))))
    (λ p. record { flown = p.0; book = p.1.0; has_chunk = p.1.1.0; has_row = p.1.1.1 }) (λ _. refl)
