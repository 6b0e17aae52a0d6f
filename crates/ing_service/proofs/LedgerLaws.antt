-- Why a report adds up with the replies in front of it: a shard's rows grow by what verdicts say, and by nothing else.
use Rattle.std.proofs.Common.{◌≡◌, ◌∙◌, ℕ, zero, suc, ◌+◌, ◌≤◌, Bool, true, false, List, [], ◌∷◌, ◌++◌, append-nil, cond, length, map, set, ap, arith, refl, subst, sym, Option, Some, None, Result, Ok, Err}
use Rattle.std.specs.Prelude.{All, MatchBool, MatchOption, is_some, not, slice_get, sum_by}
use Rattle.std.specs.List.{flat_map}
use Rattle.std.specs.Option.{unwrap_or}
use Rattle.std.specs.Io.KnownBytes.{Appends}
use Rattle.std.proofs.lemmas.Grind.{flat_map-append}
use Rattle.std.proofs.lemmas.List.Filters.{length-filter_both}
use Rattle.std.proofs.lemmas.List.{length-map}
use Rattle.std.proofs.lemmas.List.Elements.{All-cons, All-nil}
use Rattle.std.proofs.lemmas.List.Sorted.{length_permutation}
use Rattle.std.proofs.lemmas.List.Sums.{sum_by-append, sum_by-cons}
use Rattle.serde_json.specs.Data.{Data}
use Rattle.serde_json.specs.View.{items_of}
use Rattle.ing_labels.specs.Labels.{LabelMap, labels_of}
use Rattle.ing_labels.specs.TextFaults.{text_fault_place, text_refusal_of}
use Rattle.ing_labels.specs.declared.fault.LabelFault.{LabelFault}
use Rattle.ing_labels.specs.Faults as label_faults
use Rattle.ing_rows.specs.declared.entry.Entry.{Entry}
use Rattle.ing_rows.specs.declared.place.Place.{Place}
use Rattle.ing_rows.specs.declared.place.Place.TheVariants.{Block}
use Rattle.ing_rows.specs.declared.place.SealReason.{SealReason}
use Rattle.ing_rows.specs.declared.rules.Rules.{Rules}
use Rattle.ing_rows.specs.declared.verdict.Verdict.{Verdict}
use Rattle.ing_rows.specs.declared.verdict.Verdict.TheVariants.{Accepted, Duplicate, LineTooLong, TooFarBehind, TooManyStreams}
use Rattle.ing_rows.specs.Facets.{Facet, Series, Labels, Values}
use Rattle.ing_rows.specs.Rows.{StreamKey, Row, Mark, State, IsSame, count_of, is_stored}
use Rattle.ing_rows.specs.Steps.{accepted, accepted_as, added_as, after_entry, chunk_at, cut, in_head, moved, sealed, sealed_by, Pushes, verdicts_of}
use Rattle.ing_rows.specs.Verdicts.{accepted_number}
use Rattle.ing_rows.specs.Events as events
use Rattle.ing_rows.specs.Events.{Event, SealAll, is_full}
use Rattle.ing_session.specs.Selecting.{page_of}
use Rattle.ing_session.specs.Refusal.{Refusal}
use Rattle.ing_session.specs.Refusal.TheVariants.{CounterFull, TooManyEntries}
use Rattle.ing_limits.specs.Settings.{StoreSettings}
use Rattle.ing_limits.specs.Ranges.{rules_for}
use Rattle.ing_commands.specs.Commands as commands
use Rattle.ing_commands.specs.Commands.{Command, command_of}
use Rattle.ing_commands.specs.CatalogCommands.{CatalogCommand}
use Rattle.ing_commands.specs.PushCommands.{StreamEntries}
use Rattle.ing_commands.specs.FlushCommands.{FlushCommand}
use Rattle.ing_commands.specs.declared.fault.LineFault.{LineFault}
use Rattle.ing_durable.specs.Contents.{stream_of, stored_count}
use Rattle.ing_durable.specs.Flights.{Flown}
use Rattle.ing_durable.specs.Op.{Op}
use Rattle.ing_tally.specs.declared.report.ShardReport.{ShardReport}
use Rattle.ing_session.specs.Faults.{limits_of}
use Rattle.ing_session.specs.Manners.{IsAnswered, IsSkipped, IsUntold, Line, MayBeFrom, MayBeSaid, Obeys, Saying, Ticks, Turn, answers_of, held_after, said_in}
use Rattle.ing_session.specs.Replies.{catalog_data, fault_data, judged_data, line_text, verdict_data}
use Rattle.ing_session.specs.Runs.{AnswersAll}
use Rattle.ing_session.specs.Ticks.{command_of_tick}
use Rattle.ing_session.specs.declared.ticks.Tick.{Tick}
use Rattle.ing_session.specs.declared.ticks.Tick.TheVariants.{Sweep, Flush, Checkpoint}
use Rattle.ing_service.specs.ByShards.{BeginsFlush, JudgesStream, ObeysCommand, ObeysFlush, Publishes, PushesIn, PushesLabelled, PushesStream, PushesStreams, RefusesStream, SealEach, Seals, SealsAll, are_too_many, by_shards, fronts_of, reports_of, shard_report}
use Rattle.ing_service.specs.ByShards as by
use Rattle.ing_service.specs.Catalogs.{Listed, Listing, NoSelector, listing_reply}
use Rattle.ing_service.specs.Each.{Each, GoesAt}
use Rattle.ing_service.specs.Flushes.{ClaimEach, Claims, ClaimsIn, IsSaved, Settled, SettleEach, Settles, SettlesIn, WorksOff}
use Rattle.ing_service.specs.Held.{Begun, Held, ShardHeld, first_held}
use Rattle.ing_service.specs.Ledger.{AddsUp, IsBalanced, accepted_by, accepted_in, accepted_of, count_items}
use Rattle.ing_service.specs.Queries.{Answer, Refused, Given, Failed, Damaged}

-- ---- what is counted in replies

-- how many of these say accepted
abbrev accepted_among : List Verdict → ℕ
accepted_among [] = 0
accepted_among (v ∷ vs) = cond (is_some (accepted_number v)) 1 0 + accepted_among vs

verdict_counts : (v : Verdict) → accepted_by (verdict_data v) ≡ cond (is_some (accepted_number v)) 1 0
verdict_counts (Accepted n) = refl
verdict_counts Duplicate = refl
verdict_counts LineTooLong = refl
verdict_counts (TooFarBehind limit) = refl
verdict_counts (TooManyStreams live) = refl

verdicts_count : (vs : List Verdict) → count_items accepted_by (items_of (map verdict_data vs)) ≡ accepted_among vs
verdicts_count [] = refl
verdicts_count (v ∷ vs) = (let one = verdict_counts v in let rest = verdicts_count vs in omega (arith, one, rest))

judged_counts : (name : List ℕ) (durable : Bool) (vs : List Verdict) → accepted_of (judged_data name durable vs) ≡ accepted_among vs
judged_counts name durable vs = verdicts_count vs

-- a refusal has no verdicts
fault_counts : (refusal : Refusal) (at : Option ℕ) → accepted_of (fault_data refusal at) ≡ 0
fault_counts refusal None = refl
fault_counts refusal (Some at) = refl

fault_is_no_push : (refusal : Refusal) (at : Option ℕ) → accepted_in (fault_data refusal at) ≡ 0
fault_is_no_push refusal None = refl
fault_is_no_push refusal (Some at) = refl

-- ---- how many rows there are

cond_many : (b : Bool) (x y : State) (n : ℕ) → length x.rows ≡ n → length y.rows ≡ n → length (cond b x y).rows ≡ n
cond_many true x y n h g = h
cond_many false x y n h g = g

moved_many : (test : Row → Bool) (place : Place) (rows : List Row) → length (moved test place rows) ≡ length rows
moved_many test place rows = length-map rows (λ r. cond (test r) (record r { place = place }) r)

same_many : (a b : State) → IsSame a b → length a.rows ≡ length b.rows
same_many a b same = sym (length_permutation a.rows b.rows same.rows)

sealed_many : (why : Mark → Option SealReason) (a b : State) → IsSame a (sealed_by why b) → length a.rows ≡ length b.rows
sealed_many why a b same = same_many a (sealed_by why b) same ∙ moved_many _ Block b.rows

-- ---- a push

module _ (rules : Rules) (s : StreamKey) (now : ℕ) where
  accepted_many : (n : ℕ) (e : Entry) (st : State) → length (accepted_as n rules s e now st).rows ≡ length st.rows + 1
  accepted_many n e st =
      let chunk = chunk_at s n st.marks in
      let one = added_as n st s e now in
      let grown : ◌≡◌ {A = ℕ} (length one.rows) (length st.rows + 1) = omega arith in
      let cut_one = cond_many _ (record one { rows = moved (in_head s chunk) Block one.rows }) one (length st.rows + 1) (moved_many (in_head s chunk) Block one.rows ∙ grown) grown in
      cond_many _ (sealed _ s chunk (cut rules s chunk one)) (cut rules s chunk one) (length st.rows + 1) (moved_many (in_head s chunk) Block (cut rules s chunk one).rows ∙ cut_one) cut_one

  entry_many : (b : Bool) (e : Entry) (st : State) → length (cond b (accepted rules s e now st) st).rows ≡ length st.rows + cond b 1 0
  entry_many true e st = accepted_many (count_of st.rows s) e st
  entry_many false e st = omega arith

  pushed_many : (es : List Entry) (vs : List Verdict) (old new : State) → Pushes rules s now es vs old new → length new.rows ≡ length old.rows + accepted_among vs
  pushed_many [] [] old new pushes = (let same = same_many new old pushes in omega (arith, same))
  pushed_many (e ∷ es) (v ∷ vs) old new pushes =
      let one = same_many pushes.0 (after_entry rules s e now v old) pushes.1.placed ∙ entry_many (is_some (accepted_number v)) e old in
      let rest = pushed_many es vs pushes.0 new pushes.2 in
      omega (arith, one, rest)
  pushed_many [] (v ∷ vs) old new pushes = absurd pushes
  pushed_many (e ∷ es) [] old new pushes = absurd pushes

-- ---- shards that grow side by side

-- Each shard has as many rows as before or more, so many more in all.
abbrev Grow : ℕ → List ShardHeld → List ShardHeld → Type 0
Grow n [] [] = n ≡ 0
Grow n (old ∷ olds) (new ∷ news) = (more : ℕ) × (others : ℕ) × (length new.state.rows ≡ length old.state.rows + more) × Grow others olds news × (n ≡ more + others)
Grow n [] (new ∷ news) = ⊥
Grow n (old ∷ olds) [] = ⊥

as_they_were : (shards : List ShardHeld) → Grow 0 shards shards
as_they_were [] = refl
as_they_were (s ∷ ss) = (0, 0, omega arith, as_they_were ss, refl)

both : (n m : ℕ) (olds mids news : List ShardHeld) → Grow n olds mids → Grow m mids news → Grow (n + m) olds news
both n m [] [] [] g h = omega (arith, g, h)
both n m (old ∷ olds) (mid ∷ mids) (new ∷ news) g h =
    (g.0 + h.0, g.1 + h.1, omega (arith, g.2, h.2), both g.1 h.1 olds mids news g.3 h.3, omega (arith, g.4, h.4))
both n m [] [] (new ∷ news) g h = absurd h
both n m [] (mid ∷ mids) news g h = absurd g
both n m (old ∷ olds) [] news g h = absurd g
both n m (old ∷ olds) (mid ∷ mids) [] g h = absurd h

-- the second adds nothing
and_stay : (n : ℕ) (olds mids news : List ShardHeld) → Grow n olds mids → Grow 0 mids news → Grow n olds news
and_stay n olds mids news g h = (let same : n + 0 ≡ n = omega arith in subst (λ k. Grow k olds news) same (both n 0 olds mids news g h))

-- one shard alone
head_some : {X : Type 0} (x y : X) → Some x ≡ Some y → x ≡ y
head_some x y same = ap (λ o. unwrap_or o x) same

set_grow : (n : ℕ) (shards : List ShardHeld) (place : ℕ) (old new : ShardHeld) → slice_get shards place ≡ Some old → length new.state.rows ≡ length old.state.rows + n → Grow n shards (set shards place new)
set_grow n [] place old new there more = absurd (cc there)
set_grow n (s ∷ ss) zero old new there more =
    let is = head_some s old there in
    (n, 0, more ∙ ap (λ (h : ShardHeld). length h.state.rows + n) (sym is), as_they_were ss, omega arith)
set_grow n (s ∷ ss) (suc place) old new there more = (0, n, omega arith, set_grow n ss place old new there more, omega arith)

place_grows : (G : ShardHeld → ShardHeld → Type 0) (n place : ℕ) (olds news : List ShardHeld)
    → ((old new : ShardHeld) → G old new → length new.state.rows ≡ length old.state.rows + n) → GoesAt G place olds news → Grow n olds news
place_grows G n place olds news grows goes =
    subst (Grow n olds) (sym goes.left) (set_grow n olds place goes.old goes.new goes.there (grows goes.old goes.new goes.goes_on))

-- ---- what adds no row

-- one shard has as many rows as before
abbrev Stays : ShardHeld → ShardHeld → Type 0
Stays old new = length new.state.rows ≡ length old.state.rows

each_stays : {X : Type 0} (G : X → ShardHeld → ShardHeld → Type 0) (xs : List X) (olds news : List ShardHeld)
    → ((x : X) (old new : ShardHeld) → G x old new → Stays old new) → Each G xs olds news → Grow 0 olds news
each_stays G [] [] [] stays each = refl
each_stays G (x ∷ xs) (old ∷ olds) (new ∷ news) stays each =
    let here = stays x old new each.0 in
    (0, 0, omega (arith, here), each_stays G xs olds news stays each.1, refl)
each_stays G [] [] (new ∷ news) stays each = absurd each
each_stays G [] (old ∷ olds) news stays each = absurd each
each_stays G (x ∷ xs) [] news stays each = absurd each
each_stays G (x ∷ xs) (old ∷ olds) [] stays each = absurd each

place_stays : (G : ShardHeld → ShardHeld → Type 0) (place : ℕ) (olds news : List ShardHeld)
    → ((old new : ShardHeld) → G old new → Stays old new) → GoesAt G place olds news → Grow 0 olds news
place_stays G place olds news stays goes =
    place_grows G 0 place olds news (λ old new it. (let here = stays old new it in omega (arith, here))) goes

equal_stay : (olds news : List ShardHeld) → news ≡ olds → Grow 0 olds news
equal_stay olds news same = subst (Grow 0 olds) (sym same) (as_they_were olds)

module _ (settings : StoreSettings) where
  swept_stay : (now sealed : ℕ) (old new : ShardHeld) → Seals settings (events.Sweep now) sealed old new → Stays old new
  swept_stay now sealed old new seals = sealed_many _ new.state old.state seals.step.1

  all_sealed_stay : (sealed : ℕ) (old new : ShardHeld) → Seals settings SealAll sealed old new → Stays old new
  all_sealed_stay sealed old new seals = sealed_many _ new.state old.state seals.step.1

module _ (rules : List ℕ → Rules) where
  claims_stay : (s : Option StreamKey) (c : Option Flown) (old new : State) → Claims rules s c old new → length new.rows ≡ length old.rows
  claims_stay None None old new claims = ap (λ (st : State). length st.rows) claims
  claims_stay None (Some c) old new claims = absurd claims
  claims_stay (Some s) None old new claims = same_many new old claims.same
  claims_stay (Some s) (Some c) old new claims = same_many new _ claims.1.moves ∙ moved_many _ _ old.rows

  settles_stay : (is_stored : Bool) (c : Flown) (old new : State) → Settles rules is_stored c old new → length new.rows ≡ length old.rows
  settles_stay true c old new settles = same_many new _ settles.stores ∙ moved_many _ _ old.rows
  settles_stay false c old new settles = same_many new _ settles.waits ∙ moved_many _ _ old.rows

  all_claim : (ops : List Op) (claims : List (Option Flown)) (olds news : List ShardHeld) → ClaimEach rules ops claims olds news → Grow 0 olds news
  all_claim [] [] olds news each = equal_stay olds news each
  all_claim (op ∷ ops) (claim ∷ claims) olds news each =
      let one = place_stays (ClaimsIn rules op claim) op.shard olds each.0 (λ old new it. claims_stay _ claim old.state new.state it.claims) each.1 in
      and_stay 0 olds each.0 news one (all_claim ops claims each.0 news each.2)
  all_claim [] (claim ∷ claims) olds news each = absurd each
  all_claim (op ∷ ops) [] olds news each = absurd each

  all_settle : (settled : List Settled) (olds news : List ShardHeld) → SettleEach rules settled olds news → Grow 0 olds news
  all_settle [] olds news each = equal_stay olds news each
  all_settle (s ∷ settled) olds news each =
      let one = place_stays (SettlesIn rules s) s.chunk.shard olds each.0 (λ old new it. settles_stay s.is_stored s.chunk old.state new.state it.settles) each.1 in
      and_stay 0 olds each.0 news one (all_settle settled each.0 news each.2)

worked_stay : (logged : Bool) (settings : StoreSettings) (ops : List Op) (settled : List Settled) (olds news : List ShardHeld) → WorksOff logged settings ops settled olds news → Grow 0 olds news
worked_stay logged settings ops settled olds news works =
    let claimed = all_claim (rules_for settings) ops works.works.claims olds works.works.claimed works.works.each in
    let ended = all_settle (rules_for settings) settled works.works.claimed works.mid works.works.settle in
    let saved = each_stays (IsSaved _) works.whole works.mid news (λ whole old new it. ap (λ (st : State). length st.rows) it.state) works.saved in
    and_stay 0 olds works.mid news (and_stay 0 olds works.works.claimed works.mid claimed ended) saved

begins_flush_stay : (settings : StoreSettings) (forced : Bool) (sealed : ℕ) (old new : Held) → BeginsFlush settings forced sealed old new → Grow 0 old.shards new.shards
begins_flush_stay settings true sealed old new begins =
    each_stays (Seals settings SealAll) begins.seals.counts old.shards new.shards (all_sealed_stay settings) begins.seals.each
begins_flush_stay settings false sealed old new begins = equal_stay old.shards new.shards (ap (λ (h : Held). h.shards) begins.1)

published_stay : (logged published : Bool) (old new : ShardHeld) → Publishes logged published old new → Stays old new
published_stay true published old new it = ap (λ (h : ShardHeld). length h.state.rows) it.left
published_stay false published old new it = ap (λ (h : ShardHeld). length h.state.rows) it.left

-- ---- a stream of a push

-- what one of two may be
either : {A B C : Type 0} (b : Bool) → (A → C) → (B → C) → MatchBool b A B → C
either true f g x = f x
either false f g x = g x

-- what is told of it is refused
refused_grow : (refusal : Refusal) (at : Option ℕ) (n : ℕ) (reply : Data) → reply ≡ fault_data refusal at → n ≡ n + accepted_of reply
refused_grow refusal at n reply told = (let none : accepted_of reply ≡ 0 = ap accepted_of told ∙ fault_counts refusal at in omega (arith, none))

module _ (rules : List ℕ → Rules) where
  judged_grow : (s : StreamKey) (now : ℕ) (es : List Entry) (old new : ShardHeld) (reply : Data) → JudgesStream rules s now es old new reply → length new.state.rows ≡ length old.state.rows + accepted_of reply
  judged_grow s now es old new reply judged =
      pushed_many (rules s.tenant) s now es _ old.state new.state judged.step.2
      ∙ ap (λ n. length old.state.rows + n) (sym (judged_counts s.name (not new.torn) (verdicts_of (rules s.tenant) s now es old.state)) ∙ sym (ap accepted_of judged.told))

  pushed_in : (s : StreamKey) (now : ℕ) (es : List Entry) (old new : ShardHeld) (reply : Data) → PushesIn rules s now es old new reply → length new.state.rows ≡ length old.state.rows + accepted_of reply
  pushed_in s now es old new reply =
      let refused = λ (refusal : Refusal) (it : RefusesStream (fault_data refusal None) old new reply).
      ap (λ (h : ShardHeld). length h.state.rows) it.left ∙ refused_grow refusal None (length old.state.rows) reply it.told in
      either (are_too_many (rules s.tenant) es) (refused TooManyEntries) (either (is_full old.state s (length es)) (refused CounterFull) (judged_grow s now es old new reply))

  labelled_grow : (tenant : List ℕ) (now : ℕ) (s : StreamEntries) (olds news : List ShardHeld) (reply : Data) (r : Result LabelMap LabelFault) → PushesLabelled rules tenant now s olds news reply r → Grow (accepted_of reply) olds news
  labelled_grow tenant now s olds news reply (Err fault) it =
      let none : accepted_of reply ≡ 0 = ap accepted_of it.told ∙ fault_counts (label_faults.refusal_of fault) (label_faults.fault_place fault) in
      subst (λ n. Grow n olds news) (sym none) (equal_stay olds news it.left)
  labelled_grow tenant now s olds news reply (Ok labels) it =
      place_grows _ (accepted_of reply) _ olds news (λ old new goes. pushed_in (stream_of tenant labels) now s.entries old new reply goes) it

  streams_grow : (tenant : List ℕ) (now : ℕ) (ss : List StreamEntries) (olds news : List ShardHeld) (replies : List Data) → PushesStreams rules tenant now ss olds news replies → Grow (count_items accepted_of (items_of replies)) olds news
  streams_grow tenant now [] olds news replies it =
      subst (λ l. Grow (count_items accepted_of (items_of l)) olds news) (sym it.1) (equal_stay olds news it.0)
  streams_grow tenant now (s ∷ ss) olds news replies it =
      let one = labelled_grow tenant now s olds it.0 it.1 (labels_of (limits_of (rules tenant)) s.labels) it.3 in
      let others = streams_grow tenant now ss it.0 news it.2 it.4 in
      subst (λ l. Grow (count_items accepted_of (items_of l)) olds news) (sym it.5) (both (accepted_of it.1) _ olds it.0 news one others)

-- ---- one command

-- the reply tells nothing accepted, and nothing is
quiet : (olds news : List ShardHeld) (reply : Data) → accepted_in reply ≡ 0 → Grow 0 olds news → Grow (accepted_in reply) olds news
quiet olds news reply none stay = subst (λ n. Grow n olds news) (sym none) stay

answer_is_no_push : (page : Option ℕ) (answer : Answer) (shards : List ShardHeld) → accepted_in (by.query_reply page answer shards) ≡ 0
answer_is_no_push page (Refused fault) shards = fault_is_no_push (text_refusal_of fault) (text_fault_place fault)
answer_is_no_push page (Given found) shards = refl
answer_is_no_push page Failed shards = refl
answer_is_no_push page Damaged shards = refl

catalog_is_no_push : (facet : Facet) (texts : List (List ℕ)) → accepted_in (catalog_data facet texts) ≡ 0
catalog_is_no_push Series texts = refl
catalog_is_no_push Labels texts = refl
catalog_is_no_push (Values name) texts = refl

listing_is_no_push : (catalog : CatalogCommand) (listing : Listing) → accepted_in (listing_reply catalog listing) ≡ 0
listing_is_no_push catalog (NoSelector fault) = fault_is_no_push (text_refusal_of fault) (text_fault_place fault)
listing_is_no_push catalog (Listed texts) = catalog_is_no_push catalog.facet texts

module _ (honest : Type 0) (logged : Bool) (settings : StoreSettings) (old new : Held) (failed : ℕ) (reply : Data) where
  unchanged : accepted_in reply ≡ 0 → new ≡ old → Grow (accepted_in reply) old.shards new.shards
  unchanged none left = quiet old.shards new.shards reply none (equal_stay old.shards new.shards (ap (λ (h : Held). h.shards) left))

  flushed : (flush : FlushCommand) → ObeysFlush logged settings flush old new failed reply → Grow (accepted_in reply) old.shards new.shards
  flushed flush it =
      quiet old.shards new.shards reply (ap accepted_in it.told)
      (and_stay 0 old.shards it.mid.shards new.shards (begins_flush_stay settings flush.forced it.sealed old it.mid it.begins)
      (worked_stay logged settings it.mid.ops it.settled it.mid.shards new.shards it.works))

  obeyed : (command : Command) → ObeysCommand honest logged settings old new failed reply command → Grow (accepted_in reply) old.shards new.shards
  obeyed (commands.Push push) (by.Pushes it) =
      subst (λ n. Grow n old.shards new.shards) (sym (ap accepted_in it.told)) (streams_grow (rules_for settings) push.tenant push.now push.streams old.shards new.shards it.replies it.pushes)
  obeyed (commands.Sweep sweep) (by.Sweeps it) =
      quiet old.shards new.shards reply (ap accepted_in it.told)
      (each_stays (Seals settings (events.Sweep sweep.now)) it.seals.counts old.shards new.shards (swept_stay settings sweep.now) it.seals.each)
  obeyed (commands.Flush flush) (by.Flushes it) = flushed flush it
  obeyed (commands.Gauges gauges) (by.AsksGauges it) = unchanged (ap accepted_in it.told) it.left
  obeyed commands.Board (by.AsksBoard it) = unchanged (ap accepted_in it.told) it.left
  obeyed commands.Checkpoint (by.Checkpoints it) =
      quiet old.shards new.shards reply (ap accepted_in it.told) (each_stays (Publishes logged) it.published old.shards new.shards (published_stay logged) it.each)
  obeyed (commands.Query query) (by.Queries it) = unchanged (ap accepted_in it.told ∙ answer_is_no_push (page_of query) it.answer old.shards) it.left
  obeyed (commands.Catalog catalog) (by.Lists it) = unchanged (ap accepted_in it.told ∙ listing_is_no_push catalog it.listing) it.left

-- ---- all lines

-- these replies were written, and what they tell accepted is what the shards have more
record Told (olds news : List ShardHeld) (answers : List ℕ) : Type 0 where
  pub replies : List Data
  pub written : answers ≡ flat_map line_text replies
  pub grow : Grow (sum_by accepted_in replies) olds news

alone : (reply : Data) → sum_by accepted_in (reply ∷ []) ≡ accepted_in reply
alone reply = (let sum = sum_by-cons accepted_in reply [] in omega (arith, sum))

module _ (honest : Type 0) (begun : Begun) (settings : StoreSettings) where
  -- no reply to what a clock says has verdicts
  tick_accepts : (tick : Tick) (left : Held) (failed : ℕ) (old : Held) (reply : Data) → ObeysCommand honest begun.logged settings old left failed reply (command_of_tick tick) → accepted_in reply ≡ 0
  tick_accepts (Sweep now) left failed old reply (by.Sweeps it) = ap accepted_in it.told
  tick_accepts Flush left failed old reply (by.Flushes it) = ap accepted_in it.told
  tick_accepts Checkpoint left failed old reply (by.Checkpoints it) = ap accepted_in it.told

  obeyed_or_refused : (said : Result Command LineFault) (t : Turn Held) (old : Held) (reply : Data) → Obeys (by_shards honest begun) settings old t.left t.failed reply said → Grow (accepted_in reply) old.shards t.left.shards
  obeyed_or_refused (Err fault) t old reply it = unchanged honest begun.logged settings old t.left t.failed reply (ap accepted_in it.told) it.left
  obeyed_or_refused (Ok command) t old reply it = obeyed honest begun.logged settings old t.left t.failed reply command it

  one_line : (said : Option (Result Command LineFault)) (t : Turn Held) (old : Held)
      → MatchOption said (IsSkipped t old) (λ it. IsAnswered (by_shards honest begun) settings it t old) → Told old.shards t.left.shards t.answer
  one_line None t old it = record { replies = []; written = it.written; grow = equal_stay old.shards t.left.shards (ap (λ (h : Held). h.shards) it.left) }
  one_line (Some said) t old it =
      record {
        replies = it.reply ∷ [];
        written = it.written ∙ sym (append-nil (line_text it.reply));
        grow = subst (λ n. Grow n old.shards t.left.shards) (sym (alone it.reply)) (obeyed_or_refused said t old it.reply it.obeys);
      }

  -- what a clock says, of which nobody is told
  one_tick : (tick : Tick) (t : Turn Held) (old : Held) → IsUntold (by_shards honest begun) settings tick t old → Told old.shards t.left.shards t.answer
  one_tick tick t old it =
      record {
        replies = [];
        written = it.silent;
        grow = subst (λ n. Grow n old.shards t.left.shards) (tick_accepts tick t.left t.failed old it.reply it.obeys) (obeyed honest begun.logged settings old t.left t.failed it.reply (command_of_tick tick) it.obeys);
      }

  one_turn : (said : Saying) (t : Turn Held) (old : Held) → MayBeSaid (by_shards honest begun) settings t old said → Told old.shards t.left.shards t.answer
  one_turn (Line line) t old it = one_line (said_in line) t old it
  one_turn (Ticks tick) t old it = one_tick tick t old it

  all_turns : (turns : List (Turn Held)) (held : Held) → MayBeFrom (by_shards honest begun) settings held turns → Told held.shards (held_after held turns).shards (answers_of turns)
  all_turns [] held it = record { replies = []; written = refl; grow = as_they_were held.shards }
  all_turns (t ∷ turns) held it =
      let one = one_turn t.said t held it.0 in
      let others = all_turns turns t.left it.1 in
      record {
        replies = one.replies ++ others.replies;
        written = ap (λ l. l ++ answers_of turns) one.written ∙ ap (λ l. flat_map line_text one.replies ++ l) others.written ∙ sym (flat_map-append line_text one.replies others.replies);
        grow = subst (λ n. Grow n held.shards (held_after t.left turns).shards) (sym (sum_by-append accepted_in one.replies others.replies))
            (both _ _ held.shards t.left.shards (held_after t.left turns).shards one.grow others.grow);
      }

-- ---- the report

-- of shards that have grown so since they began
record IsReported (n : ℕ) (begun shards : List ShardHeld) : Type 0 where
  pub accepted : sum_by (λ (shard : ShardReport). shard.accepted) (reports_of (fronts_of begun) shards) ≡ n
  pub recovered : map (λ (shard : ShardReport). shard.recovered) (reports_of (fronts_of begun) shards) ≡ fronts_of begun
  pub balanced : All IsBalanced (reports_of (fronts_of begun) shards)

stored_among_all : (rows : List Row) → stored_count rows ≤ length rows
stored_among_all rows =
    let parts = length-filter_both (λ (r : Row). is_stored r.place) (λ (r : Row). not (is_stored r.place)) (λ r. refl) rows in
    omega (arith, parts)

reported : (n : ℕ) (begun shards : List ShardHeld) → Grow n begun shards → IsReported n begun shards
reported n [] [] grow = record { accepted = sym grow; recovered = refl; balanced = All-nil IsBalanced }
reported n (b ∷ begun) (s ∷ shards) grow =
    let others = reported grow.1 begun shards grow.3 in
    let stored = stored_among_all s.state.rows in
    let one = shard_report (length b.state.rows) s.state in
    let rest = reports_of (fronts_of begun) shards in
    let sum = sum_by-cons (λ (shard : ShardReport). shard.accepted) one rest in
    record {
      accepted = omega (arith, sum, grow.2, grow.4, others.accepted);
      recovered = ap (λ l. length b.state.rows ∷ l) others.recovered;
      balanced = All-cons IsBalanced one rest (omega (arith, stored, grow.2)) others.balanced;
    }
reported n [] (s ∷ shards) grow = absurd grow
reported n (b ∷ begun) [] grow = absurd grow

-- all of it
pub adds_up : (honest : Type 0) (begun : Begun) (settings : StoreSettings) (ticks : Option (List Tick)) (input : List ℕ) (before after : ℕ) (old new : Option (List ℕ))
    → AnswersAll (by_shards honest begun) settings ticks input before after old new → AddsUp begun old new
adds_up honest begun settings ticks input before after old new it =
    let told = all_turns honest begun settings it.turns (first_held begun) it.may_be.flushes in
    let ends = reported _ begun.shards (held_after (first_held begun) it.turns).shards told.grow in
    record {
      replies = told.replies;
      shards = reports_of (fronts_of begun.shards) (held_after (first_held begun) it.turns).shards;
      written = subst (Appends old new) (ap (λ l. l ++ line_text it.report) told.written ∙ ap (λ d. flat_map line_text told.replies ++ line_text d) it.reports) it.answered;
      accepted = ends.accepted;
      recovered = ends.recovered;
      balanced = ends.balanced;
    }
