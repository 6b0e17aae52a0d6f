-- What a shard answers to a push, and what a push does to shards.
use Rattle.std.proofs.Common.{◌≡◌, ◌≢◌, ℕ, ◌<◌, ◌≤◌, true, false, List, [], ◌∷◌, ◌++◌, length, refl, sym, ap, subst, arith, Ok, Err, None}
use Rattle.std.specs.Prelude.{◌↔◌, IsErrOf, Result}
use Rattle.std.proofs.lemmas.Bool.{false_from_ne_true}
use Rattle.std.proofs.lemmas.Bool.Decides.{nat_tests}
use Rattle.serde_json.specs.Data.{Data}
use Rattle.ing_labels.specs.Labels.{LabelMap, labels_of}
use Rattle.ing_rows.specs.declared.entry.Entry.{Entry}
use Rattle.ing_rows.specs.declared.rules.Rules.{Rules}
use Rattle.ing_rows.specs.Rows.{StreamKey}
use Rattle.ing_rows.specs.Events.{is_full}
use Rattle.ing_session.specs.PushFault.{PushFault}
use Rattle.ing_session.specs.PushFault.TheVariants.{NoMemory, CounterFull, TooManyEntries}
use Rattle.ing_durable.specs.Contents.{stream_of}
use Rattle.ing_session.specs.PushFaults.{push_refusal_of}
use Rattle.ing_commands.specs.PushCommands.{StreamEntries}
use Rattle.ing_session.specs.Replies.{fault_data}
use Rattle.ing_session.specs.Faults.{limits_of}
use Rattle.ing_service.specs.ByShards.{JudgesStream, PushesIn, PushesStream, PushesStreams, RefusesStream, are_too_many, place_of}
use Rattle.ing_service.specs.Each.{GoesAt}
use Rattle.ing_service.specs.Held.{ShardHeld}

-- ---- one shard, as the model

module _ (rules : List ℕ → Rules) (key : StreamKey) (now : ℕ) (es : List Entry) (old new : ShardHeld) (reply : Data) (n : ℕ) (counted : n ≡ length es) where
  abbrev pub TooMany : {T : Type 0} → Result T PushFault → Type 0
  TooMany r = IsErrOf r TooManyEntries ↔ ((rules key.tenant).max_entries_per_push < n)

  abbrev pub Full : {T : Type 0} → Result T PushFault → Type 0
  Full r = IsErrOf r CounterFull ↔ ((n ≤ (rules key.tenant).max_entries_per_push) × (is_full old.state key n ≡ true))

  few : ((rules key.tenant).max_entries_per_push < n → ⊥) → are_too_many (rules key.tenant) es ≡ false
  few not_many = false_from_ne_true (are_too_many (rules key.tenant) es) (λ is. not_many (grind (arith, nat_tests, is, counted)))

  -- the entries are judged
  pub judged : {T : Type 0} (x : T) → TooMany {T = T} (Ok x) → Full {T = T} (Ok x) → JudgesStream rules key now es old new reply → PushesIn rules key now es old new reply
  judged x many full judges =
      let not_many : (rules key.tenant).max_entries_per_push < n → ⊥ = λ more. absurd (cc (many.1 more)) in
      let few_entries = few not_many in
      let at_most : n ≤ (rules key.tenant).max_entries_per_push = omega (arith, not_many) in
      let room : is_full old.state key (length es) ≡ false =
      false_from_ne_true _ (λ is. absurd (cc (full.1 (at_most, subst (λ k. is_full old.state key k ≡ true) (sym counted) is)))) in
      rw (few_entries, room) judges

  -- they are refused
  pub refused : {T : Type 0} (fault : PushFault) → TooMany {T = T} (Err fault) → Full {T = T} (Err fault) → fault ≢ NoMemory → RefusesStream (fault_data (push_refusal_of fault) None) old new reply
      → PushesIn rules key now es old new reply
  refused NoMemory many full other refuses = absurd (other refl)
  refused TooManyEntries many full other refuses =
      let more = many.0 refl in
      let too_many : are_too_many (rules key.tenant) es ≡ true = grind (arith, nat_tests, more, counted) in
      rw too_many refuses
  refused CounterFull many full other refuses =
      let is = full.0 refl in
      let few_entries = few (λ more. omega (arith, more, is.0)) in
      let filled = subst (λ k. is_full old.state key k ≡ true) counted is.1 in
      rw (few_entries, filled) refuses

-- ---- one stream more

module _ (rules : List ℕ → Rules) (tenant : List ℕ) (now : ℕ) where
  pub pushes_more : (ss : List StreamEntries) (s : StreamEntries) (a b c : List ShardHeld) (replies : List Data) (reply : Data) → PushesStreams rules tenant now ss a b replies
      → PushesStream rules tenant now s b c reply → PushesStreams rules tenant now (ss ++ s ∷ []) a c (replies ++ reply ∷ [])
  pushes_more [] s a b c replies reply so_far this =
      (c, reply, [], subst (λ x. PushesStream rules tenant now s x c reply) so_far.0 this, (refl, refl), ap (λ l. l ++ reply ∷ []) so_far.1)
  pushes_more (x ∷ ss) s a b c replies reply so_far this =
      (so_far.0, so_far.1, so_far.2 ++ reply ∷ [], so_far.3, pushes_more ss s so_far.0 b c so_far.2 reply so_far.4 this, ap (λ l. l ++ reply ∷ []) so_far.5)

  -- in the shard where it has its place
  pub placed : (s : StreamEntries) (labels : LabelMap) (olds news : List ShardHeld) (reply : Data) (place : ℕ) → labels_of (limits_of (rules tenant)) s.labels ≡ Ok labels
      → place ≡ place_of (stream_of tenant labels) (length olds)
      → GoesAt (λ old new. PushesIn rules (stream_of tenant labels) now s.entries old new reply) place olds news → PushesStream rules tenant now s olds news reply
  placed s labels olds news reply place read is goes =
      rw read (subst (λ n. GoesAt (λ old new. PushesIn rules (stream_of tenant labels) now s.entries old new reply) n olds news) is goes)
