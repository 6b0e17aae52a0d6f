-- What flushers have counted, all together.
use Rattle.std.proofs.Common.{◌≡◌, ℕ, zero, suc, ◌+◌, ◌-◌, ◌^◌, List, [], ◌∷◌, ◌++◌, length, refl, sym, ap, subst, ◌∙◌, arith, Ok}
use Rattle.std.proofs.lemmas.List.Elements.{All-cons}
use Rattle.std.proofs.lemmas.List.Sums.{sum_by-cons}
use Rattle.std.specs.Prelude.{◌⊎◌, All, Bool, Some, drop, min, slice_get, sum_by, take}
use Rattle.std.specs.List.{AllZip}
use Rattle.ing_tally.specs.Books.{ShareState, amount_of}
use Rattle.ing_tally.specs.Counts.{ReaderState}
use Rattle.ing_node.specs.Tallies.{amount_at}
use Rattle.ing_node.specs.Diaries.{PusherState}
use Rattle.ing_tally.specs.declared.report.ShardReport.{ShardReport}
use Rattle.serde_json.specs.Data.{Data}
use Rattle.ing_limits.specs.Settings.{StoreSettings}
use Rattle.ing_commands.specs.Commands.{Flush}
use Rattle.ing_commands.specs.FlushCommands.{FlushCommand}
use Rattle.ing_session.specs.Runs.{IsObeyed}
use Rattle.ing_session.proofs.CausesLaws.{no_failure}
use Rattle.ing_lanes.specs.ByLane.{Held, IsFlushReply, IsRefused, by_lane}
use Rattle.ing_lanes.specs.Served.{stored_in}
use Rattle.ing_lanes.specs.Counted.{IsHeld, RisesBy}

-- ---- of all shards

-- the sum of so many first values
abbrev upto : (ℕ → ℕ) → ℕ → ℕ
upto g zero = 0
upto g (suc n) = g 0 + upto (λ i. g (suc i)) n

upto_zero : (n : ℕ) → upto (λ i. 0) n ≡ 0
upto_zero zero = refl
upto_zero (suc n) = omega (arith, upto_zero n)

upto_both : (g h : ℕ → ℕ) (n : ℕ) → upto (λ i. g i + h i) n ≡ upto g n + upto h n
upto_both g h zero = refl
upto_both g h (suc n) = omega (arith, upto_both (λ i. g (suc i)) (λ i. h (suc i)) n)

upto_same : (g h : ℕ → ℕ) (n : ℕ) → ((i : ℕ) → g i ≡ h i) → upto g n ≡ upto h n
upto_same g h zero same = refl
upto_same g h (suc n) same = omega (arith, same 0, upto_same (λ i. g (suc i)) (λ i. h (suc i)) n (λ i. same (suc i)))

stored_upto : (reports : List ShardReport) (g : ℕ → ℕ) → ((i : ℕ) (r : ShardReport) → slice_get reports i ≡ Some r → r.stored ≡ g i) → stored_in reports ≡ upto g (length reports)
stored_upto [] g each = refl
stored_upto (r ∷ rs) g each =
    omega (arith, sum_by-cons (λ (q : ShardReport). q.stored) r rs, each 0 r refl, stored_upto rs (λ i. g (suc i)) (λ i q at. each (suc i) q at))

amount_upto : (shares : List ShareState) → amount_of shares ≡ upto (λ i. amount_at i shares) (length shares)
amount_upto [] = refl
amount_upto (s ∷ ss) = omega (arith, sum_by-cons (λ (q : ShareState). q.amount) s ss, amount_upto ss)

-- what flushers counted of each shard is, together, what each counted of all
tallies_upto : (n : ℕ) (tallies : List (List ShareState)) → All (λ t. length t ≡ n) tallies → upto (λ i. sum_by (amount_at i) tallies) n ≡ sum_by amount_of tallies
tallies_upto n [] all = upto_zero n
tallies_upto n (t ∷ ts) all =
    let others = λ (i : ℕ). sum_by (amount_at i) ts in
    let apart = upto_same (λ i. sum_by (amount_at i) (t ∷ ts)) (λ i. amount_at i t + others i) n (λ i. sum_by-cons (amount_at i) t ts) in
    let long : length t ≡ n = all 0 t (omega arith) in
    let here : amount_of t ≡ upto (λ i. amount_at i t) n = amount_upto t ∙ ap (upto (λ i. amount_at i t)) long in
    omega (arith, apart, upto_both (λ i. amount_at i t) others n, here, tallies_upto n ts (λ k d below. all (suc k) d (omega (arith, below))), sum_by-cons amount_of t ts)

pub stored_is_counted : (shards : ℕ) (tallies : List (List ShareState)) (reports : List ShardReport) → length reports ≡ shards → All (λ t. length t ≡ shards) tallies
    → ((i : ℕ) (r : ShardReport) → slice_get reports i ≡ Some r → r.stored ≡ sum_by (amount_at i) tallies) → stored_in reports ≡ sum_by amount_of tallies
stored_is_counted shards tallies reports long all each =
    stored_upto reports (λ i. sum_by (amount_at i) tallies) each ∙ ap (upto (λ i. sum_by (amount_at i) tallies)) long ∙ tallies_upto shards tallies all

-- the same where one that counts what was stored before stands beside them
pub stored_beside : (shards : ℕ) (earlier : List ShareState) (tallies : List (List ShareState)) (reports : List ShardReport) → length reports ≡ shards → length earlier ≡ shards → All (λ t. length t ≡ shards) tallies
    → ((i : ℕ) (r : ShardReport) → slice_get reports i ≡ Some r → r.stored ≡ amount_at i earlier + sum_by (amount_at i) tallies) → stored_in reports ≡ amount_of earlier + sum_by amount_of tallies
stored_beside shards earlier tallies reports long first all each =
    stored_is_counted shards (earlier ∷ tallies) reports long (All-cons (λ (t : List ShareState). length t ≡ shards) earlier tallies first all)
    (λ i r at. each i r at ∙ sym (sum_by-cons (amount_at i) earlier tallies))
    ∙ sum_by-cons amount_of earlier tallies

-- shares of nothing
pub none_counted : (ss : List ShareState) → All (λ s. s.amount ≡ 0) ss → amount_of ss ≡ 0
none_counted [] all = refl
none_counted (s ∷ ss) all =
    omega (arith, sum_by-cons (λ (q : ShareState). q.amount) s ss, all 0 s (omega arith), none_counted ss (λ k d below. all (suc k) d (omega (arith, below))))

-- ---- from one flush to the next

pub sum_same : {W T : Type 0} (seen : W → T) (f : T → ℕ) (olds news : List W) → AllZip (λ old new. seen new ≡ seen old) olds news
    → sum_by (λ w. f (seen w)) news ≡ sum_by (λ w. f (seen w)) olds
sum_same seen f [] [] all = refl
sum_same seen f [] (n ∷ ns) all = absurd all
sum_same seen f (o ∷ os) [] all = absurd all
sum_same seen f (o ∷ os) (n ∷ ns) (this, others) =
    omega (arith, ap f this, sum_same seen f os ns others, sum_by-cons (λ w. f (seen w)) o os, sum_by-cons (λ w. f (seen w)) n ns)

pub rises_none : (n : ℕ) → RisesBy 0 n n
rises_none n = record { least = omega arith; none = λ is. refl }

pub held_on : (pusher : PusherState) (readers : List ReaderState) (held : Held) (chunks before after : ℕ) → IsHeld pusher before readers held → RisesBy chunks before after
    → IsHeld pusher after readers (record { told = held.told; chunks = held.chunks + chunks; board = held.board })
held_on pusher readers held chunks before after is rises = record {
  told = is.told;
  chunks = omega (arith, is.chunks, rises.least);
  none = λ none.
      let no_chunk : chunks ≡ 0 = omega (arith, none) in
      let none_held : held.chunks ≡ 0 = omega (arith, none) in
      rises.none no_chunk ∙ is.none none_held;
  board = is.board;
}

-- a flush told so many chunks stored, or a lock was not passed
pub told_flush : (honest : Type 0) (logs : Bool) (settings : StoreSettings) (p q : PusherState) (r s : List ReaderState) (before after stored count : ℕ) (flush : FlushCommand) (held : Held) (reply : Data) → q ≡ p → s ≡ r
    → RisesBy stored before after → IsFlushReply stored reply ⊎ (IsRefused reply × (stored ≡ 0)) → IsHeld p before r held
    → IsObeyed (by_lane honest logs) settings (Ok (Flush flush)) held (IsHeld q after s) count count reply
told_flush honest logs settings p q r s before after stored count flush held reply same same_board rises may_be is = record {
  failed = 0;
  left = record { told = held.told; chunks = held.chunks + stored; board = held.board };
  obeys = record { stored = stored; may_be = may_be; chunks = refl; board = refl; left = λ i. refl; failures = refl };
  causes = no_failure count;
  holds =
      subst (λ x. IsHeld q after x (record { told = held.told; chunks = held.chunks + stored; board = held.board })) (sym same_board)
      (subst (λ x. IsHeld x after r (record { told = held.told; chunks = held.chunks + stored; board = held.board })) (sym same) (held_on p r held stored before after is rises));
}

pub rises_on : (a b x y z : ℕ) → RisesBy a x y → RisesBy b y z → RisesBy (min (a + b) (2 ^ 64 - 1)) x z
rises_on a b x y z first second = record {
  least = omega (arith, first.least, second.least);
  none = λ none.
      let no_first : a ≡ 0 = omega (arith, none) in
      let no_second : b ≡ 0 = omega (arith, none) in
      second.none no_second ∙ first.none no_first;
}

-- what a slice of a whole vector leaves in it
pub written_back : {X : Type 0} (news olds : List X) → length news ≡ length olds → take (length olds) (news ++ drop (length news) olds) ≡ news
written_back [] [] long = refl
written_back [] (o ∷ os) long = absurd cc
written_back (n ∷ ns) [] long = absurd cc
written_back (n ∷ ns) (o ∷ os) long = ap (λ l. n ∷ l) (written_back ns os (omega (arith, long)))
