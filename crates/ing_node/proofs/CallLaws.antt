-- What a call of a shard over its log does, said as one relation.
use Rattle.std.proofs.Common.{◌≡◌, ◌≢◌, ◌<◌, ◌∙◌, ℕ, List, Some, ap, slice_get, sym}
use Rattle.std.specs.Prelude.{IfNone, IfOk, IfSome, OnOk, Option, None, Result, Ok, Err}
use Rattle.sha2.specs.Sha256.{sha256}
use Rattle.ing_limits.specs.Ranges.{rules_for}
use Rattle.ing_rows.specs.Events.{Event, Step, Claim, Claimed, Finish, Finished, GiveBack, GivenBack, NothingToClaim, Sealed}
use Rattle.ing_rows.specs.Rows.{State, StreamKey}
use Rattle.ing_store.specs.ChunkObjects.{chunk_text}
use Rattle.ing_tally.specs.Books.{ShareState}
use Rattle.ing_begun.specs.Books.{lent, raised}
use Rattle.ing_begun.specs.Calls.{IsClaim, IsFinish, IsGiveBack, IsNoClaim, IsSeal}
use Rattle.ing_begun.specs.Contents.{Contents, IsSameShard, Stands}
use Rattle.ing_begun.specs.Flights.{FliesAs, Flown, IsInFlight, OtherFlightsStay, entries_in, key_in, object_in}
use Rattle.ing_begun.specs.Op.{Op}
use Rattle.ing_begun.specs.Sealing.{ops_from}
use Rattle.ing_node.proofs.ClosingLaws.{same_state}

module _ (old new : Contents) (same : IsSameShard old new) (listed : new.listed ≡ old.listed) where
  pub seal_is : {T E : Type 0} (sealed : T → ℕ) (ops : T → List Op) (event : Event) (r : Result T E) → new.books ≡ old.books
      → IfOk r (λ due. Step (rules_for old.settings) old.state event (Sealed (sealed due)) new.state)
      → IfOk r (λ due. (state : State) → Stands new state → ops due ≡ ops_from new.number 0 new.listed state)
      → IfOk r (λ due. IsSeal event (sealed due) (ops due) old new)
  seal_is sealed ops event (Ok due) books step all = record { step = step; ops_are = all new.state (same_state new.state); books = books; listed = listed; same = same }
  seal_is sealed ops event (Err e) books step all = tt

  pub claim_is : {T E : Type 0} (claimed : T → Flown) (share : T → ShareState) (stream : ℕ) (r : Result (Option T) E)
      → IfOk r (λ o. IfSome o (λ t. Step (rules_for old.settings) old.state (Claim (key_in (claimed t))) (Claimed (claimed t).chunk.first (claimed t).flight) new.state))
      → IfOk r (λ o. IfSome o (λ t. slice_get new.listed stream ≡ Some (key_in (claimed t))))
      → IfOk r (λ o. IfSome o (λ t. IsInFlight (claimed t) new))
      → IfOk r (λ o. IfSome o (λ t. FliesAs (claimed t) new.state))
      → IfOk r (λ o. IfSome o (λ t. (f : Flown) → IsInFlight f old → f.flight ≢ (claimed t).flight))
      → IfOk r (λ o. IfSome o (λ t. 0 < entries_in (claimed t)))
      → IfOk r (λ o. IfSome o (λ t. share t ≡ record { book = old.books.flight.name; amount = entries_in (claimed t) }))
      → IfOk r (λ o. IfSome o (λ t. new.books ≡ record old.books { flight = lent (entries_in (claimed t)) old.books.flight }))
      → IfOk r (λ o. IfSome o (λ t. IsClaim stream (claimed t) (share t) old new))
  claim_is claimed share stream (Ok (Some t)) step named flies rows apart some share_is books = record {
    step = step;
    stream_is = ap (λ l. slice_get l stream) (sym listed) ∙ named;
    flies = flies;
    rows = rows;
    apart = apart;
    some = some;
    share_is = share_is;
    books = books;
    listed = listed;
    same = same;
  }
  claim_is claimed share stream (Ok None) step named flies rows apart some share_is books = tt
  claim_is claimed share stream (Err e) step named flies rows apart some share_is books = tt

  pub no_claim_is : {T E : Type 0} (stream : ℕ) (r : Result (Option T) E)
      → IfOk r (λ o. IfNone o ((s : StreamKey) → slice_get old.listed stream ≡ Some s → Step (rules_for old.settings) old.state (Claim s) NothingToClaim new.state))
      → IfOk r (λ o. IfNone o (new.books ≡ old.books))
      → IfOk r (λ o. IfNone o (IsNoClaim stream old new))
  no_claim_is stream (Ok None) none books = record { none = none; books = books; listed = listed; same = same }
  no_claim_is stream (Ok (Some t)) none books = tt
  no_claim_is stream (Err e) none books = tt

  pub finish_is : {T E : Type 0} (claimed : Flown) (r : Result T E) → new.books.accepted ≡ old.books.accepted
      → OnOk r (Step (rules_for old.settings) old.state (Finish (key_in claimed) claimed.chunk.first claimed.flight (sha256 (chunk_text (object_in claimed)))) Finished new.state)
      → OnOk r (IsInFlight claimed old)
      → OnOk r (FliesAs claimed old.state)
      → OnOk r (OtherFlightsStay claimed.flight old new)
      → OnOk r (old.books.flight ≡ lent (entries_in claimed) new.books.flight)
      → OnOk r (new.books.stored ≡ raised (entries_in claimed) old.books.stored)
      → OnOk r (IsFinish claimed old new)
  finish_is claimed (Ok t) accepted step flew rows others flight stored = record {
    step = step;
    flew = flew;
    rows = rows;
    others = others;
    flight = flight;
    stored = stored;
    accepted = accepted;
    listed = listed;
    same = same;
  }
  finish_is claimed (Err e) accepted step flew rows others flight stored = tt

  pub give_back_is : {T E : Type 0} (claimed : Flown) (r : Result T E)
      → OnOk r (Step (rules_for old.settings) old.state (GiveBack claimed.flight) GivenBack new.state)
      → OnOk r (IsInFlight claimed old)
      → OnOk r (FliesAs claimed old.state)
      → OnOk r (OtherFlightsStay claimed.flight old new)
      → OnOk r (old.books ≡ record new.books { flight = lent (entries_in claimed) new.books.flight })
      → OnOk r (IsGiveBack claimed old new)
  give_back_is claimed (Ok t) step flew rows others books = record { step = step; flew = flew; rows = rows; others = others; books = books; listed = listed; same = same }
  give_back_is claimed (Err e) step flew rows others books = tt
