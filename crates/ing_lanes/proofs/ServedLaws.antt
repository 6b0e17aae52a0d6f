-- What channels came to, from what each of them did.
use Rattle.std.proofs.Common.{◌≡◌, ◌∙◌, ℕ, ◌+◌, Bool, List, [], ◌∷◌, map, refl, sym, ap, subst, arith, inl, inr, Ok, Err}
use Rattle.std.specs.Prelude.{◌⊎◌, IfSome, None, OnErr, OnOk, Option, Result, Some, cond, false, filter, if◌then◌else◌, sum_by, true}
use Rattle.std.proofs.lemmas.List.Sorted.{sum_by-IsPermutation}
use Rattle.std.proofs.lemmas.List.Sums.{length-filter, sum_by-append, sum_by-cons}
use Rattle.std.specs.List.{AllZip}
use Rattle.ing_limits.specs.Settings.{StoreSettings}
use Rattle.ing_tally.specs.Books.{ShareState, amount_of}
use Rattle.ing_tally.specs.Counts.{ReaderState}
use Rattle.ing_node.specs.Worker.{Worker}
use Rattle.ing_node.specs.Tallies.{amount_at}
use Rattle.ing_tally.specs.declared.report.ShardReport.{ShardReport}
use Rattle.ing_node.specs.Closed.{ClosedContents}
use Rattle.ing_node.specs.Diaries.{HaveNoted, HaveNotedEach, PusherState, notes_at, notes_kept}
use Rattle.ing_node.specs.Earlier.{EarlierState, had_at}
use Rattle.ing_node.specs.Fronts.{rows_since}
use Rattle.ing_node.specs.Notes.{Note, is_in_shard, is_note_at, note_of}
use Rattle.ing_session.specs.declared.ending.Ending.{Ending}
use Rattle.ing_session.specs.Fronts.{AppendsFront}
use Rattle.ing_session.specs.Runs.{AnswersLines, BreaksOff}
use Rattle.std.proofs.KnownBytes.{Appends-nil}
use Rattle.ing_session.specs.Lines.{lines_of}
use Rattle.ing_session.proofs.CausesLaws.{no_failure}
use Rattle.ing_lanes.specs.ByLane.{Entries, Held, Measure, Weight, by_lane, nothing_held, told_as, told_by}
use Rattle.ing_lanes.specs.Counted.{IsHeld, IsHeldAtLeast, counted_by}
use Rattle.ing_lanes.specs.Served.{Account, AddsUp, AddsUpWith, AreServed, AreTold, AreToldAtMost, HaveWhatWasTold, IsServed, Parts, StandWhereTold, account_of, one_at, weight_in}

-- ---- one channel

-- what is held is what was told
told_of : {S G R : Type 0} (pusher : PusherState) (workers : List (Worker S G R)) (board : List ReaderState) (held : Held) → IsHeld pusher (counted_by workers) board held → AreTold (account_of pusher workers) held
told_of pusher workers board held is = record { told = is.told; chunks = is.chunks; none = is.none }

-- and no more where it is held at least
most_of : {S G R : Type 0} (pusher : PusherState) (workers : List (Worker S G R)) (board : List ReaderState) (held : Held)
    → IsHeld pusher (counted_by workers) board held ⊎ IsHeldAtLeast pusher (counted_by workers) held → AreToldAtMost (account_of pusher workers) held
most_of pusher workers board held (inl is) = record { told = λ i. (let same = is.told i in omega (arith, same)); chunks = is.chunks }
most_of pusher workers board held (inr is) = record { told = is.told; chunks = is.chunks }

module _ (honest : Type 0) (logs : Bool) (settings : StoreSettings) (before after : ℕ) (old new : Option (List ℕ)) where
  lines_weaker : (P Q : Held → Type 0) (known : Option (List ℕ)) → ((h : Held) → P h → Q h) → IfSome known (λ input. AnswersLines (by_lane honest logs) settings (Some []) P input before after old new)
      → IfSome known (λ input. AnswersLines (by_lane honest logs) settings (Some []) Q input before after old new)
  lines_weaker P Q None f lines = tt
  lines_weaker P Q (Some input) f lines = record { turns = lines.turns; all = lines.all; holds = f _ lines.holds; heard = lines.heard; may_be = lines.may_be; answered = lines.answered }

  breaks_weaker : (P Q : Held → Type 0) (known : Option (List ℕ)) → ((h : Held) → P h → Q h) → IfSome known (λ input. BreaksOff (by_lane honest logs) settings (Some []) P input before after (AppendsFront old new))
      → IfSome known (λ input. BreaksOff (by_lane honest logs) settings (Some []) Q input before after (AppendsFront old new))
  breaks_weaker P Q None f broken = tt
  breaks_weaker P Q (Some input) f broken = record { turns = broken.turns; others = broken.others; first = broken.first; heard = broken.heard; may_be = broken.may_be; answered = broken.answered; left = f _ broken.left }

  -- a channel that was served
  pub served_of : {S G R : Type 0} (pusher : PusherState) (workers : List (Worker S G R)) (board : List ReaderState) (known : Option (List ℕ)) (ended : Result (Unit {0}) Ending)
      → OnOk ended (IfSome known (λ input. AnswersLines (by_lane honest logs) settings (Some []) (λ held. IsHeld pusher (counted_by workers) board held) input before after old new))
      → OnErr ended (IfSome known (λ input. BreaksOff (by_lane honest logs) settings (Some []) (λ held. IsHeld pusher (counted_by workers) board held ⊎ IsHeldAtLeast pusher (counted_by workers) held) input before after (AppendsFront old new)))
      → IsServed honest logs settings known before after old new (account_of pusher workers) ended
  served_of pusher workers board known (Ok done) lines broken =
      lines_weaker (λ held. IsHeld pusher (counted_by workers) board held) (AreTold (account_of pusher workers)) known (told_of pusher workers board) lines
  served_of pusher workers board known (Err e) lines broken =
      breaks_weaker (λ held. IsHeld pusher (counted_by workers) board held ⊎ IsHeldAtLeast pusher (counted_by workers) held) (AreToldAtMost (account_of pusher workers)) known (most_of pusher workers board) broken

-- a channel that was not opened
pub unopened : {S G R : Type 0} (honest : Type 0) (logs : Bool) (settings : StoreSettings) (n : ℕ) (contents : Option (List ℕ)) (pusher : PusherState) (workers : List (Worker S G R)) (board : List ReaderState) (e : Ending)
    → IsHeld pusher (counted_by workers) board nothing_held → (known : Option (List ℕ)) → IsServed honest logs settings known n n contents contents (account_of pusher workers) (Err e)
unopened honest logs settings n contents pusher workers board e none None = tt
unopened honest logs settings n contents pusher workers board e none (Some input) =
    record {
      turns = [];
      others = lines_of input;
      first = refl;
      heard = ([], refl);
      may_be = record { flushes = tt; causes = no_failure n };
      answered = record { front = []; rest = []; whole = refl; added = Appends-nil contents };
      left = most_of pusher workers board nothing_held (inl none);
    }

-- ---- lists

-- channel by channel, of what they are made of
pub served_each : {X L : Type 0} (line : X → L) (account : X → Account) (P : L → L → Account → Type 0) (olds news : List X) → AllZip (λ old new. P (line old) (line new) (account new)) olds news
    → AreServed P (map line olds) (map line news) (map account news)
served_each line account P [] [] all = tt
served_each line account P [] (new ∷ news) all = absurd all
served_each line account P (old ∷ olds) [] all = absurd all
served_each line account P (old ∷ olds) (new ∷ news) all = (all.0, served_each line account P olds news all.1)

-- a sum over what is made of each
pub sum_made : {X Y : Type 0} (make : X → Y) (f : Y → ℕ) (xs : List X) → sum_by f (map make xs) ≡ sum_by (λ x. f (make x)) xs
sum_made make f [] = refl
sum_made make f (x ∷ xs) = omega (arith, sum_by-cons f (make x) (map make xs), sum_by-cons (λ y. f (make y)) x xs, sum_made make f xs)

-- ---- the ledger

-- what pushers were told and flushers counted is what the channels came to
pub adds_up : (shards : ℕ) (earlier : EarlierState) (accounts : List Account) (pushers : List PusherState) (tallies : List (List ShareState)) (reports : List ShardReport) → Parts accounts pushers tallies
    → AddsUpWith shards earlier (λ i. sum_by (λ p. amount_at i p.told) pushers) (sum_by amount_of tallies) reports → AddsUp shards earlier accounts reports
adds_up shards earlier accounts pushers tallies reports parts up = record {
  all = up.all;
  accepted = λ i r at. up.accepted i r at ∙ sym (parts.told (Entries i));
  recovered = up.recovered;
  whole = up.whole;
  stored = up.stored ∙ ap (λ n. amount_of earlier.stored + n) (sym parts.counted);
}

-- ---- the entries

chosen_sum : (b : Bool) (weight : Note → ℕ) (n : Note) (rest : List Note) (total : ℕ) → sum_by weight rest ≡ total → sum_by weight (cond b (n ∷ rest) rest) ≡ (if b then weight n else 0) + total
chosen_sum true weight n rest total so = omega (arith, sum_by-cons weight n rest, so)
chosen_sum false weight n rest total so = omega (arith, so)

-- those of a shard weigh as much as all do where those of the others weigh nothing
shard_sum : (shards i : ℕ) (weight : Note → ℕ) (ns : List Note) → sum_by weight (filter (is_in_shard shards i) ns) ≡ sum_by (weight_in shards i weight) ns
shard_sum shards i weight [] = refl
shard_sum shards i weight (n ∷ ns) =
    chosen_sum (is_in_shard shards i n) weight n (filter (is_in_shard shards i) ns) _ (shard_sum shards i weight ns) ∙ sym (sum_by-cons (weight_in shards i weight) n ns)

notes_sum : (shards i : ℕ) (weight : Note → ℕ) (pushers : List PusherState) → sum_by weight (notes_at shards i pushers) ≡ sum_by (λ p. told_as p (Weight (weight_in shards i weight))) pushers
notes_sum shards i weight [] = refl
notes_sum shards i weight (p ∷ ps) =
    sum_by-append weight (filter (is_in_shard shards i) (notes_kept p.diary)) (notes_at shards i ps)
    ∙ omega (arith, shard_sum shards i weight (notes_kept p.diary), notes_sum shards i weight ps, sum_by-cons (λ (q : PusherState). told_as q (Weight (weight_in shards i weight))) p ps)

-- what came to the shards is what all channels were told
pub have_told : (shards : ℕ) (earlier : EarlierState) (accounts : List Account) (pushers : List PusherState) (tallies : List (List ShareState)) (closed : List ClosedContents) → Parts accounts pushers tallies
    → HaveNoted (λ (shard : ClosedContents). shard.state.rows) (had_at earlier) (λ i. notes_at shards i pushers) closed → HaveWhatWasTold shards earlier accounts closed
have_told shards earlier accounts pushers tallies closed parts noted i shard weight at =
    sym (sum_by-IsPermutation weight (map note_of (rows_since (had_at earlier i) shard.state.rows)) (notes_at shards i pushers) (noted i shard at))
    ∙ notes_sum shards i weight pushers ∙ sym (parts.told (Weight (weight_in shards i weight)))

pub stand_told : (shards : ℕ) (earlier : EarlierState) (accounts : List Account) (pushers : List PusherState) (tallies : List (List ShareState)) (closed : List ClosedContents) → Parts accounts pushers tallies
    → HaveNotedEach (λ (shard : ClosedContents). shard.state.rows) (had_at earlier) (λ i. notes_at shards i pushers) closed → StandWhereTold shards earlier accounts closed
stand_told shards earlier accounts pushers tallies closed parts noted i shard s number at =
    noted i shard at s number ∙ length-filter (is_note_at s number) (notes_at shards i pushers)
    ∙ notes_sum shards i (one_at s number) pushers ∙ sym (parts.told (Weight (weight_in shards i (one_at s number))))

-- channels that were served and then taken apart: each came to what it did, and all of them together to what pushers and tallies have
pub served_together : {X L : Type 0} (line : X → L) (pusher : X → PusherState) (counted : X → ℕ) (P : L → L → Account → Type 0) (before news after : List X) (lines parted : List L) (pushers : List PusherState) (tallies : List (List ShareState))
    → AllZip (λ old new. P (line old) (line new) (record { told = told_by (pusher new); counted = counted new })) before news → map line before ≡ lines → after ≡ news → parted ≡ map line after
    → ((m : Measure) → sum_by (λ p. told_as p m) pushers ≡ sum_by (λ x. told_as (pusher x) m) after) → sum_by amount_of tallies ≡ sum_by counted after
    → (accounts : List Account) × AreServed P lines parted accounts × Parts accounts pushers tallies
served_together {X = X} line pusher counted P before news after lines parted pushers tallies all were same are told stored =
    let account : X → Account = λ x. record { told = told_by (pusher x); counted = counted x } in
    let each = served_each line account P before news all in (
      map account news,
      subst (λ ls. AreServed P ls parted (map account news)) were (subst (λ ls. AreServed P (map line before) ls (map account news)) (sym (are ∙ ap (map line) same)) each),
      record {
        told = λ m. sum_made account (λ t. t.told m) news ∙ ap (sum_by (λ x. told_as (pusher x) m)) (sym same) ∙ sym (told m);
        counted = sum_made account (λ t. t.counted) news ∙ ap (sum_by counted) (sym same) ∙ sym stored;
      },
    )
