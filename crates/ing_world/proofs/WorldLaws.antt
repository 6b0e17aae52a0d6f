-- What a world answers, from what its shard does.
use Rattle.std.proofs.Common.{◌≡◌, ◌≢◌, ℕ, true, List, [], ◌∷◌, ◌++◌, append-nil, map, refl, ap, sym, ◌∙◌, subst, reverse, ◌&&◌, ◌⊎◌, inl, inr, Option, Some, None, Vec, Global}
use Rattle.std.specs.Prelude.{IsPermutation, slice_get}
use Rattle.std.specs.Option.{option_map}
use Rattle.sha2.specs.Sha256.{sha256}
use Rattle.ing_codec.specs.ChunkObjects.{chunk_text}
use Rattle.ing_rows.specs.declared.entry.Entry.{Entry}
use Rattle.ing_rows.specs.declared.place.Place.TheVariants.{Block, Flight, Stored}
use Rattle.ing_rows.specs.declared.place.SealReason.{SealReason}
use Rattle.ing_rows.specs.declared.rules.Rules.{Rules}
use Rattle.ing_rows.specs.declared.verdict.Verdict.{Verdict}
use Rattle.ing_rows.specs.Events as events
use Rattle.ing_rows.specs.Events.{Event, Push, Claim, Finish, GiveBack, Judged, Claimed, NothingToClaim, Step, accepted_by, accepted_entries}
use Rattle.ing_rows.specs.Flushes.{FlushesKeepFacts}
use Rattle.ing_rows.specs.Kept.{Numbered, numbered}
use Rattle.ing_rows.specs.Rows.{StreamKey, Mark, State, IsSame, is_flight, is_head, is_of_chunk}
use Rattle.ing_rows.specs.Sound.{IsSound}
use Rattle.ing_rows.specs.Steps.{after_push, is_sealed_now, sealed_by, verdicts_of}
use Rattle.ing_rows.specs.Turns.{accepted_among}
use Rattle.ing_tally.specs.Books.{BookName}
use Rattle.ing_shard.specs.Contents.{listed_after}
use Rattle.ing_shard.specs.Flights.{Flown, FliesAs, key_in, object_in}
use Rattle.ing_world.specs.declared.event.Object.{Object}
use Rattle.ing_world.specs.declared.event.Outcome.{Outcome}
use Rattle.ing_world.specs.declared.event.Outcome.TheVariants as outcome
use Rattle.ing_world.specs.declared.reply.Reply.{Reply}
use Rattle.ing_world.specs.declared.reply.Reply.TheVariants as reply
use Rattle.ing_world.specs.declared.world.World.{World}
use Rattle.ing_world.specs.Held.{HasTurned, IsKept, seen}
use Rattle.ing_world.specs.Turns.{ModelStep, Puts, Tale, Takes, TellsClaim, TellsFinish, TellsGiveBack, TellsPush, TellsPut, TellsSeal, accepted_with, listed_with, none_claimed}
use Rattle.ing_world.specs.Worlds.{Becomes, OpenState, is_ready, open_at, opened, with_object}
use Rattle.ing_world.proofs.KeptLaws.{keeps_moved, keeps_same, pushed_kept, pushed_sound, sound_as}

-- a turn with this step
turned : {R : Type 0} (rules : List ℕ → Rules) (tells : Tale) (told : Reply) (old new : World R) (accepted : List Numbered) (step : ModelStep)
    → tells told (seen old accepted) (seen new (accepted ++ accepted_with step)) step → Takes rules old.shard.state step new.shard.state
    → new.shard.listed ≡ listed_with step old.shard.listed → IsKept new (accepted ++ accepted_with step) → HasTurned rules tells told old new accepted
turned rules tells told old new accepted step tale takes listed kept =
    record {
      after = accepted ++ accepted_with step;
      turn = record { step = step; tale = tale; takes = takes; listed = listed; accepted = refl };
      kept = kept;
    }

-- a put that stores nothing, or says so, does not store
pub is_failing : (out : Outcome) → (out ≡ outcome.Failed) ⊎ (out ≡ outcome.StoredYetFailed) → out ≢ outcome.Stored
is_failing out (inl is) stores = let no : outcome.Failed ≡ outcome.Stored = sym is ∙ stores in cc
is_failing out (inr is) stores = let no : outcome.StoredYetFailed ≡ outcome.Stored = sym is ∙ stores in cc

-- nothing is accepted
pub kept_on : {R : Type 0} (old new : World R) (accepted : List Numbered) → new.shard ≡ old.shard → IsKept old accepted → IsKept new (accepted ++ [])
kept_on old new accepted same kept =
    record {
      sound = subst (λ shard. IsSound shard.state) (sym same) kept.sound;
      kept = subst (λ shard. IsPermutation (map numbered shard.state.rows) (accepted ++ [])) (sym same) (subst (IsPermutation (map numbered old.shard.state.rows)) (sym (append-nil accepted)) kept.kept);
    }

-- a turn that is no step of the model
pub idle : {R : Type 0} (rules : List ℕ → Rules) (tells : Tale) (told : Reply) (old new : World R) (accepted : List Numbered)
    → tells told (seen old accepted) (seen new (accepted ++ [])) None → new.shard ≡ old.shard → IsKept old accepted → HasTurned rules tells told old new accepted
idle rules tells told old new accepted tale same kept =
    turned rules tells told old new accepted None tale (ap (λ shard. shard.state) same) (ap (λ shard. shard.listed) same) (kept_on old new accepted same kept)

module _ {R : Type 0} (t : ℕ) (object : Object) (out : Outcome) (rules : List ℕ → Rules) (old new : World R) (accepted : List Numbered) (kept : IsKept old accepted) (same : new.shard ≡ old.shard) where
  -- a put of a ticket that is not open
  pub put_nothing : open_at old.tickets.items t ≡ None → new.tickets.items ≡ old.tickets.items → HasTurned rules (TellsPut t object out) reply.Nothing old new accepted
  put_nothing closed stay =
      idle rules (TellsPut t object out) reply.Nothing old new accepted (refl, subst (λ o. Puts t object out o reply.Nothing old.tickets.items new.tickets.items) (sym closed) stay) same kept

  -- a put that stores
  pub put_stored : (o : OpenState) → open_at old.tickets.items t ≡ Some o → out ≡ outcome.Stored → Becomes t (Some (with_object object o)) old.tickets.items new.tickets.items
      → HasTurned rules (TellsPut t object out) reply.Stored old new accepted
  put_stored o there stores changed =
      idle rules (TellsPut t object out) reply.Stored old new accepted (refl, subst (λ p. Puts t object out p reply.Stored old.tickets.items new.tickets.items) (sym there) (stores, changed)) same kept

  -- a put that fails
  pub put_failed : (o : OpenState) → open_at old.tickets.items t ≡ Some o → out ≢ outcome.Stored → new.tickets.items ≡ old.tickets.items
      → HasTurned rules (TellsPut t object out) reply.Failed old new accepted
  put_failed o there fails stay =
      idle rules (TellsPut t object out) reply.Failed old new accepted (refl, subst (λ p. Puts t object out p reply.Failed old.tickets.items new.tickets.items) (sym there) (fails, stay)) same kept

module _ (sound_push : (rules : Rules) (s : StreamKey) (now : ℕ) (es : List Entry) (old : State) → IsSound old → IsSound (after_push rules s now es old))
    (sound_order : (a b : State) → IsSound a → IsSame a b → IsSound b) where
  -- entries are pushed
  pub push_turned : ((rules : Rules) (s : StreamKey) (now : ℕ) (es : List Entry) (old : State)
      → map numbered (after_push rules s now es old).rows ≡ reverse (accepted_entries s es (verdicts_of rules s now es old)) ++ map numbered old.rows)
      → {R : Type 0} (rules : List ℕ → Rules) (s : StreamKey) (now : ℕ) (es taken : List Entry) (vs : Vec Verdict Global) (old new : World R) (accepted : List Numbered) → taken ≡ es
      → Step rules old.shard.state (Push s now taken) (Judged vs.items) new.shard.state → new.shard.listed ≡ listed_after s (accepted_among taken vs.items) old.shard.listed
      → new.tickets.items ≡ old.tickets.items → IsKept old accepted → HasTurned rules (TellsPush s now es) (reply.Pushed vs) old new accepted
  push_turned adds rules s now es taken vs old new accepted same step listed stay kept =
      let is : Step rules old.shard.state (Push s now es) (Judged vs.items) new.shard.state = subst (λ l. Step rules old.shard.state (Push s now l) (Judged vs.items) new.shard.state) same step in
      turned rules (TellsPush s now es) (reply.Pushed vs) old new accepted (Some (Push s now es, Judged vs.items)) (refl, stay) is
      (subst (λ l. new.shard.listed ≡ listed_after s (accepted_among l vs.items) old.shard.listed) same listed)
      record {
        sound = pushed_sound sound_push sound_order (rules s.tenant) s now es vs.items old.shard.state new.shard.state is.2 kept.sound;
        kept = pushed_kept adds (rules s.tenant) s now es vs.items old.shard.state new.shard.state accepted is.2 kept.kept;
      }

  -- chunks are sealed
  pub seal_turned : ((why : Mark → Option SealReason) (st : State) → IsSound st → IsSound (sealed_by why st))
      → {R : Type 0} (rules : List ℕ → Rules) (seal : Event) (why : Mark → Option SealReason) (n : ℕ) (old new : World R) (accepted : List Numbered)
      → Step rules old.shard.state seal (events.Sealed n) new.shard.state → IsSame new.shard.state (sealed_by why old.shard.state) → accepted_by seal (events.Sealed n) ≡ []
      → new.shard.listed ≡ listed_with (Some (seal, events.Sealed n)) old.shard.listed → new.tickets.items ≡ old.tickets.items → IsKept old accepted
      → HasTurned rules (TellsSeal seal) (reply.Sealed n) old new accepted
  seal_turned sealed rules seal why n old new accepted step same none listed stay kept =
      turned rules (TellsSeal seal) (reply.Sealed n) old new accepted (Some (seal, events.Sealed n)) (refl, stay) step listed
      record {
        sound = sound_as sound_push sound_order new.shard.state (sealed_by why old.shard.state) (sealed why old.shard.state kept.sound) same;
        kept = subst (λ l. IsPermutation (map numbered new.shard.state.rows) (accepted ++ l)) (sym none)
            (keeps_moved (λ r. is_head r.place && is_sealed_now why old.shard.state.marks r) Block old.shard.state.rows new.shard.state.rows accepted same.rows kept.kept);
      }

  module _ (facts : FlushesKeepFacts) {R : Type 0} (rules : List ℕ → Rules) (old new : World R) (accepted : List Numbered) (kept : IsKept old accepted) where
    -- a chunk is claimed
    pub claim_turned : (n first : ℕ) (f : Flown) (book : BookName) → Step rules old.shard.state (Claim (key_in f)) (Claimed f.chunk.first f.flight) new.shard.state → slice_get old.shard.listed n ≡ Some (key_in f)
        → first ≡ f.chunk.first → FliesAs f new.shard.state → new.shard.listed ≡ old.shard.listed → new.tickets.items ≡ old.tickets.items ++ Some (opened f book) ∷ []
        → HasTurned rules (TellsClaim n) (reply.Claimed first) old new accepted
    claim_turned n first f book step there is flies listed more =
        turned rules (TellsClaim n) (reply.Claimed first) old new accepted (Some (Claim (key_in f), Claimed f.chunk.first f.flight)) (f, book, there, is, refl, flies, more) step listed
        record {
          sound = (facts.claims (key_in f) f.chunk.first f.flight old.shard.state new.shard.state step).sound kept.sound;
          kept = keeps_moved (is_of_chunk (key_in f) f.chunk.first) (Flight f.flight) old.shard.state.rows new.shard.state.rows accepted step.moves.rows kept.kept;
        }

    -- no chunk waits, or no stream has the number
    pub claim_nothing : (n : ℕ) → ((s : StreamKey) → slice_get old.shard.listed n ≡ Some s → Step rules old.shard.state (Claim s) NothingToClaim new.shard.state)
        → (slice_get old.shard.listed n ≡ None → new.shard ≡ old.shard) → new.shard.listed ≡ old.shard.listed → new.tickets.items ≡ old.tickets.items
        → HasTurned rules (TellsClaim n) reply.Nothing old new accepted
    claim_nothing n none unlisted listed stay = by (slice_get old.shard.listed n) refl where
      by : (o : Option StreamKey) → slice_get old.shard.listed n ≡ o → HasTurned rules (TellsClaim n) reply.Nothing old new accepted
      by None is =
          idle rules (TellsClaim n) reply.Nothing old new accepted
          (subst (λ o. None ≡ option_map none_claimed o) (sym is) refl, stay) (unlisted is) kept
      by (Some s) is =
          let step = none s is in
          turned rules (TellsClaim n) reply.Nothing old new accepted (Some (none_claimed s))
          (subst (λ o. Some (none_claimed s) ≡ option_map none_claimed o) (sym is) refl, stay) step listed
          record {
            sound = sound_as sound_push sound_order new.shard.state old.shard.state kept.sound step.same;
            kept = keeps_same old.shard.state.rows new.shard.state.rows accepted step.same.rows kept.kept;
          }

    -- a chunk is listed as stored
    pub finish_turned : (t : ℕ) (o : OpenState) → open_at old.tickets.items t ≡ Some o → is_ready (Some o) ≡ true
        → Step rules old.shard.state (Finish (key_in o.flown) o.flown.chunk.first o.flown.flight (sha256 (chunk_text (object_in o.flown)))) events.Finished new.shard.state
        → new.shard.listed ≡ old.shard.listed → Becomes t None old.tickets.items new.tickets.items → HasTurned rules (TellsFinish t) reply.Finished old new accepted
    finish_turned t o there ready step listed changed =
        let f = o.flown in
        let key = sha256 (chunk_text (object_in f)) in
        turned rules (TellsFinish t) reply.Finished old new accepted (Some (Finish (key_in f) f.chunk.first f.flight key, events.Finished)) (o, there, ready, refl, changed) step listed
        record {
          sound = (facts.finishes (key_in f) f.chunk.first f.flight key old.shard.state new.shard.state step).sound kept.sound;
          kept = keeps_moved (λ r. is_flight f.flight r.place) (Stored key) old.shard.state.rows new.shard.state.rows accepted step.stores.rows kept.kept;
        }

    -- a chunk waits again
    pub give_back_turned : (t : ℕ) (o : OpenState) → open_at old.tickets.items t ≡ Some o → Step rules old.shard.state (GiveBack o.flown.flight) events.GivenBack new.shard.state
        → new.shard.listed ≡ old.shard.listed → Becomes t None old.tickets.items new.tickets.items → HasTurned rules (TellsGiveBack t) reply.GivenBack old new accepted
    give_back_turned t o there step listed changed =
        let f = o.flown in
        turned rules (TellsGiveBack t) reply.GivenBack old new accepted (Some (GiveBack f.flight, events.GivenBack)) (o, there, refl, changed) step listed
        record {
          sound = (facts.backs f.flight old.shard.state new.shard.state step).sound kept.sound;
          kept = keeps_moved (λ r. is_flight f.flight r.place) Block old.shard.state.rows new.shard.state.rows accepted step.waits.rows kept.kept;
        }
