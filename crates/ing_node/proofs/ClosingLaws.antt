-- Lists whose last item is taken, and what is closed.
use Rattle.std.proofs.Common.{append_assoc, ◌≡◌, ◌≢◌, ◌<◌, ◌≤◌, ◌+◌, ◌-◌, ◌⊎◌, inl, inr, ℕ, zero, suc, List, [], ◌∷◌, ◌++◌, length, Some, true, false, refl, sym, ap, subst, ◌∙◌, ◌^◌, arith, slice_index_or, slice_set, take, Bool}
use Rattle.std.specs.Prelude.{Err, IfErr, Ok, Result, map, min, reverse, slice_get, sum_by}
use Rattle.std.specs.Global.{Vec}
use Rattle.std.proofs.lemmas.List.{map-append, reverse-append, take_more}
use Rattle.std.proofs.lemmas.List.Sums.{sum_by-append, sum_by-cons}
use Rattle.std.proofs.lemmas.List.Sorted.{IsPermutation-refl}
use Rattle.ing_rows.specs.Rows.{IsSame, Row, State}
use Rattle.ing_limits.specs.Settings.{StoreSettings}
use Rattle.ing_tally.specs.Books.{ShareState}
use Rattle.ing_begun.specs.Closed.{ClosedContents, closed_of}
use Rattle.ing_begun.specs.Contents.{Contents, flying_count, stored_count}
use Rattle.ing_tally.specs.declared.report.ShardReport.{ShardReport}
use Rattle.ing_node.specs.declared.report.CloseRefusal.{CloseRefusal}
use Rattle.ing_node.specs.declared.report.CloseRefusal.TheVariants.{NoMemory, StillOut, Misplaced, Unsettled}
use Rattle.ing_node.specs.Closing.{AreInPlaces, IsComplete, StandInPlaces, TellsOf, shares_at, shares_in}
use Rattle.ing_diary.specs.Fronts.{front_in}
use Rattle.ing_diary.specs.StreamFront.{StreamFront}
use Rattle.ing_node.specs.Earlier.{EarlierState, had_at, had_in}
use Rattle.std.specs.Option.{option_map}
use Rattle.std.specs.Result.{IsErrAnd}
use Rattle.std.proofs.lemmas.Option.{slice_get-map}
use Rattle.ing_node.specs.Reports.{CountRows, CountRowsFrom, CountsRows, IsClosed, IsGathered, IsUnsettled, recovered_at, recovered_in}

-- ---- lists

pub reverse_mapped : {X Y : Type 0} (f : X → Y) (xs : List X) → reverse (map f xs) ≡ map f (reverse xs)
reverse_mapped f [] = refl
reverse_mapped f (x ∷ xs) =
    reverse-append (f x ∷ []) (map f xs) ∙ ap (λ l. l ++ f x ∷ []) (reverse_mapped f xs)
    ∙ sym (map-append f (reverse xs) (x ∷ [])) ∙ ap (map f) (sym (reverse-append (x ∷ []) xs))

pub last_get : {X : Type 0} (rest : List X) (x : X) → slice_get (rest ++ x ∷ []) (length rest) ≡ Some x
last_get [] x = refl
last_get (y ∷ rest) x = last_get rest x

pub front_get : {X : Type 0} (rest : List X) (x : X) (i : ℕ) → i < length rest → slice_get (rest ++ x ∷ []) i ≡ slice_get rest i
front_get [] x i below = absurd (omega (arith, below))
front_get (y ∷ rest) x zero below = refl
front_get (y ∷ rest) x (suc i) below = front_get rest x i (omega (arith, below))

pub get_below : {X : Type 0} (xs : List X) (i : ℕ) (x : X) → slice_get xs i ≡ Some x → i < length xs
get_below [] i x at = absurd cc
get_below (y ∷ xs) zero x at = omega arith
get_below (y ∷ xs) (suc i) x at = let rest = get_below xs i x at in omega (arith, rest)

-- what stands at a place of a list in which one item was replaced
pub set_get : {X : Type 0} (xs : List X) (place : ℕ) (y : X) (i : ℕ) (x : X) → slice_get (slice_set xs place y) i ≡ Some x
    → ((i ≡ place) × (x ≡ y)) ⊎ ((i ≢ place) × (slice_get xs i ≡ Some x))
set_get [] place y i x at = absurd cc
set_get (z ∷ xs) zero y zero x at = let same : y ≡ x = cc in inl (refl, sym same)
set_get (z ∷ xs) zero y (suc i) x at = inr ((λ same. omega (arith, same)), at)
set_get (z ∷ xs) (suc place) y zero x at = inr ((λ same. omega (arith, same)), at)
set_get (z ∷ xs) (suc place) y (suc i) x at = further (set_get xs place y i x at) where
  further : ((i ≡ place) × (x ≡ y)) ⊎ ((i ≢ place) × (slice_get xs i ≡ Some x)) → ((suc i ≡ suc place) × (x ≡ y)) ⊎ ((suc i ≢ suc place) × (slice_get xs i ≡ Some x))
  further (inl there) = inl (ap suc there.0, there.1)
  further (inr other) = inr ((λ same. other.0 (omega (arith, same))), other.1)

-- ---- lists of shares

-- the shares of the last list, and of the others
pub last_shares : (rest : List (Vec ShareState)) (x : Vec ShareState) → shares_at (length rest) (rest ++ x ∷ []) ≡ x.items
last_shares rest x = ap shares_in (last_get rest x)

pub front_shares : (rest : List (Vec ShareState)) (x : Vec ShareState) (i : ℕ) → i < length rest → shares_at i (rest ++ x ∷ []) ≡ shares_at i rest
front_shares rest x i below = ap shares_in (front_get rest x i below)

-- ---- what is closed

pub same_state : (state : State) → IsSame state state
same_state state = record { rows = IsPermutation-refl state.rows; marks = IsPermutation-refl state.marks }

pub gathered_by : (recovered accepted stored told counted : ℕ) → accepted ≡ told → stored ≡ counted → stored ≤ accepted → recovered ≤ told
    → IsGathered recovered told counted (record { accepted = accepted - recovered; recovered = recovered; stored = stored; kept = accepted - stored })
gathered_by recovered accepted stored told counted is_told is_counted within before = record {
  accepted = omega (arith, is_told, before);
  stored = is_counted;
  recovered_are = refl;
  all = omega (arith, within, is_told, before);
}

pub counted_by : (rows : List Row) (recovered accepted stored : ℕ) → recovered ≤ accepted → accepted ≡ length rows → stored ≡ stored_count rows → flying_count rows ≡ 0
    → CountsRows rows (record { accepted = accepted - recovered; recovered = recovered; stored = stored; kept = accepted - stored })
counted_by rows recovered accepted stored before all some none = record { all = omega (arith, before, all); stored = some; landed = none }

-- with equal counts
pub gathered_as : (recovered told counted before more less : ℕ) (r : ShardReport) → recovered ≡ before → told ≡ more → counted ≡ less → IsGathered recovered told counted r → IsGathered before more less r
gathered_as recovered told counted before more less r b t c is =
    subst (λ n. IsGathered n more less r) b (subst (λ n. IsGathered recovered n less r) t (subst (λ n. IsGathered recovered told n r) c is))

-- what all shares tell is what was there before, and the rest
pub closed_by : (recovered restored told counted all_accepted all_stored : ℕ) (r : ShardReport) → all_accepted ≡ told + recovered → all_stored ≡ counted + restored
    → IsGathered recovered all_accepted all_stored r → IsClosed recovered restored told counted r
closed_by recovered restored told counted all_accepted all_stored r accepted stored is =
    let has = is.accepted in
    let some = is.stored in
    record {
      accepted = omega (arith, has, accepted);
      stored = omega (arith, some, stored);
      recovered_are = is.recovered_are;
      all = is.all;
    }

pub complete_as : (place number pushing tallies more less : ℕ) (shard : Contents) → place ≡ number → pushing ≡ more → tallies ≡ less
    → IsComplete place pushing tallies shard → IsComplete number more less shard
complete_as place number pushing tallies more less shard n p t is =
    subst (λ k. IsComplete k more less shard) n (subst (λ k. IsComplete place k less shard) p (subst (λ k. IsComplete place pushing k shard) t is))

-- ---- a list whose last item was taken

module _ (all rest : List (Vec ShareState)) (x : Vec ShareState) (is : all ≡ rest ++ x ∷ []) (place : ℕ) (len : length rest ≡ place) (initial : List (Vec ShareState)) (same : (i : ℕ) → i < place + 1 → shares_at i all ≡ shares_at i initial) where
  pub popped_shares : x.items ≡ shares_at place initial
  popped_shares =
      subst (λ n. x.items ≡ shares_at n initial) len
      (sym (last_shares rest x) ∙ ap (shares_at (length rest)) (sym is) ∙ same (length rest) (omega (arith, len)))

  pub left_shares : (i : ℕ) → i < place → shares_at i rest ≡ shares_at i initial
  left_shares i below = sym (front_shares rest x i (omega (arith, len, below))) ∙ ap (shares_at i) (sym is) ∙ same i (omega (arith, below))

module _ {X : Type 0} (all rest : List X) (x : X) (is : all ≡ rest ++ x ∷ []) where
  pub popped_get : (place : ℕ) → length rest ≡ place → slice_get all place ≡ Some x
  popped_get place len = subst (λ n. slice_get all n ≡ Some x) len (ap (λ l. slice_get l (length rest)) is ∙ last_get rest x)

  pub left_get : (i : ℕ) (y : X) → slice_get rest i ≡ Some y → slice_get all i ≡ Some y
  left_get i y at = ap (λ l. slice_get l i) is ∙ front_get rest x i (get_below rest i y at) ∙ at

  pub left_same : (i : ℕ) → i < length rest → slice_get rest i ≡ slice_get all i
  left_same i below = sym (front_get rest x i below) ∙ ap (λ l. slice_get l i) (sym is)

-- the reports from a place on count the rows of their shards, once the one at the place does
pub rows_set : {H : Type 0} (rows_in : H → List Row) (helds : List H) (reports : List ShardReport) (place : ℕ) (r : ShardReport) (held : H) → slice_get helds place ≡ Some held → CountsRows (rows_in held) r
    → ((i : ℕ) (h : H) (report : ShardReport) → place < i → slice_get helds i ≡ Some h → slice_get reports i ≡ Some report → CountsRows (rows_in h) report)
    → CountRowsFrom place rows_in helds (slice_set reports place r)
rows_set {H} rows_in helds reports place r held at_held counts beyond i h report past at_h at = by (set_get reports place r i report at) where
  by : ((i ≡ place) × (report ≡ r)) ⊎ ((i ≢ place) × (slice_get reports i ≡ Some report)) → CountsRows (rows_in h) report
  by (inl there) =
      let same : Some h ≡ Some held = sym at_h ∙ ap (slice_get helds) there.0 ∙ at_held in
      let is : h ≡ held = cc in
      subst (λ (x : H). CountsRows (rows_in x) report) (sym is) (subst (λ x. CountsRows (rows_in held) x) (sym there.1) counts)
  by (inr other) = beyond i h report (omega (arith, past, other.0)) at_h other.1

-- the reports from a place on are gathered, once the one at the place is
pub gathered_set : (before told counted : ℕ → ℕ) (reports : List ShardReport) (place : ℕ) (r : ShardReport) → IsGathered (before place) (told place) (counted place) r
    → ((i : ℕ) (report : ShardReport) → place < i → slice_get reports i ≡ Some report → IsGathered (before i) (told i) (counted i) report)
    → (i : ℕ) (report : ShardReport) → place ≤ i → slice_get (slice_set reports place r) i ≡ Some report → IsGathered (before i) (told i) (counted i) report
gathered_set before told counted reports place r done beyond i report past at = by (set_get reports place r i report at) where
  by : ((i ≡ place) × (report ≡ r)) ⊎ ((i ≢ place) × (slice_get reports i ≡ Some report)) → IsGathered (before i) (told i) (counted i) report
  by (inl there) = subst (λ x. IsGathered (before i) (told i) (counted i) x) (sym there.1) (subst (λ n. IsGathered (before n) (told n) (counted n) r) (sym there.0) done)
  by (inr other) = beyond i report (omega (arith, past, other.0)) other.1

-- what stands below a place stays
pub below_set : {X : Type 0} (xs : List X) (place : ℕ) (y : X) (i : ℕ) → i < place → slice_get (slice_set xs place y) i ≡ slice_get xs i
below_set [] place y i below = refl
below_set (z ∷ zs) zero y i below = absurd (omega (arith, below))
below_set (z ∷ zs) (suc place) y zero below = refl
below_set (z ∷ zs) (suc place) y (suc i) below = below_set zs place y i (omega (arith, below))

-- what is not no is yes
pub is_yes : (b : Bool) → (b ≡ false → ⊥) → b ≡ true
is_yes true not = refl
is_yes false not = absurd (not refl)

-- ---- what an index gives

pub get_there : {X : Type 0} (xs : List X) (i : ℕ) (d : X) → i < length xs → slice_get xs i ≡ Some (slice_index_or xs i d)
get_there [] i d below = absurd (omega (arith, below))
get_there (x ∷ xs) zero d below = refl
get_there (x ∷ xs) (suc i) d below = get_there xs i d (omega (arith, below))

-- how many a report at a place says had been there
pub recovered_there : (reports initial : List ShardReport) (place : ℕ) (r : ShardReport) → place < length reports → r ≡ slice_index_or reports place r
    → slice_get reports place ≡ slice_get initial place → r.recovered ≡ recovered_at place initial
recovered_there reports initial place r below is same =
    ap (λ (q : ShardReport). q.recovered) is ∙ ap recovered_in (sym (get_there reports place r below)) ∙ ap recovered_in same

meets : (i j : ℕ) → (i ≡ j) ⊎ (i ≢ j)
meets zero zero = inl refl
meets zero (suc j) = inr (λ same. omega (arith, same))
meets (suc i) zero = inr (λ same. omega (arith, same))
meets (suc i) (suc j) = further (meets i j) where
  further : (i ≡ j) ⊎ (i ≢ j) → (suc i ≡ suc j) ⊎ (suc i ≢ suc j)
  further (inl same) = inl (ap suc same)
  further (inr other) = inr (λ same. other (omega (arith, same)))

sum_next : {H : Type 0} (f : H → ℕ) (helds : List H) (place : ℕ) (x : H) → place < length helds → x ≡ slice_index_or helds place x
    → sum_by f (take (place + 1) helds) ≡ sum_by f (take place helds) + f x
sum_next f helds place x below is =
    let next : take (place + 1) helds ≡ take place helds ++ x ∷ [] = take_more helds place x below ∙ ap (λ z. take place helds ++ z ∷ []) (sym is) in
    let sum = ap (sum_by f) next in
    omega (arith, sum, sum_by-append f (take place helds) (x ∷ []), sum_by-cons f x [])

-- what is so of the first items, each at its place, and of the next one
pub next_too : {H : Type 0} (P : ℕ → H → Type 0) (helds : List H) (place : ℕ) (x : H) → place < length helds → x ≡ slice_index_or helds place x → P place x
    → ((i : ℕ) (held : H) → i < place → slice_get helds i ≡ Some held → P i held)
    → (i : ℕ) (held : H) → i < place + 1 → slice_get helds i ≡ Some held → P i held
next_too {H} P helds place x below is this before i held next at = by (meets i place) where
  by : (i ≡ place) ⊎ (i ≢ place) → P i held
  by (inl same) =
      let there : Some held ≡ Some (slice_index_or helds place x) = sym at ∙ ap (slice_get helds) same ∙ get_there helds place x below in
      let one : held ≡ slice_index_or helds place x = cc in
      subst (λ n. P n held) (sym same) (subst (P place) (is ∙ sym one) this)
  by (inr other) = before i held (omega (arith, next, other)) at

-- shares that are missing of one shard more
pub next_missing : {H : Type 0} (f : H → ℕ) (helds : List H) (place : ℕ) (x : H) (sum found more : ℕ) → place < length helds → x ≡ slice_index_or helds place x → found ≡ f x
    → sum ≡ min (sum_by f (take place helds)) (2 ^ 64 - 1) → more ≡ min (sum + found) (2 ^ 64 - 1) → more ≡ min (sum_by f (take (place + 1) helds)) (2 ^ 64 - 1)
next_missing f helds place x sum found more below is one before adds =
    let next = sum_next f helds place x below is in
    omega (arith, one, before, adds, next)

-- entries that are not settled tell of no share
pub unsettled_tells : {H : Type 0} (shard_in : H → Contents) (pushing tallies : ℕ) (helds : List H) (why : CloseRefusal) → IsUnsettled why → TellsOf shard_in pushing tallies helds why
unsettled_tells shard_in pushing tallies helds NoMemory none = absurd none
unsettled_tells shard_in pushing tallies helds (StillOut all) none = absurd none
unsettled_tells shard_in pushing tallies helds (Misplaced place) none = absurd none
unsettled_tells shard_in pushing tallies helds (Unsettled shard why) is = tt

-- the item at a place
pub stands_there : {H : Type 0} (helds : List H) (place : ℕ) (x : H) → place < length helds → x ≡ slice_index_or helds place x → slice_get helds place ≡ Some x
stands_there helds place x below is = get_there helds place x below ∙ ap Some (sym is)

-- a shard that is found at another place than its own is told of
pub misplaced_tells : {T H : Type 0} (shard_in : H → Contents) (pushing tallies : ℕ) (helds : List H) (place : ℕ) (x : H) (why : CloseRefusal) (r : Result T CloseRefusal)
    → place < length helds → x ≡ slice_index_or helds place x → (shard_in x).number ≢ place → why ≡ Misplaced place → IsErrAnd r (λ told. told ≡ why)
    → IfErr r (TellsOf shard_in pushing tallies helds)
misplaced_tells shard_in pushing tallies helds place x why (Ok done) below is other fault same = tt
misplaced_tells shard_in pushing tallies helds place x why (Err told) below is other fault same =
    subst (TellsOf shard_in pushing tallies helds) (sym (same ∙ fault)) (x, stands_there helds place x below is, other)

-- how many entries each stream of a shard had, by the fronts at its place
pub had_there : (fronts : List (List StreamFront)) (earlier : EarlierState) (place : ℕ) (had : List StreamFront) → map front_in fronts ≡ earlier.fronts → place < length fronts
    → had ≡ slice_index_or fronts place had → had_at earlier place ≡ front_in had
had_there fronts earlier place had are below is =
    let there : slice_get earlier.fronts place ≡ Some (front_in had) =
    ap (λ l. slice_get l place) (sym are) ∙ slice_get-map front_in fronts place ∙ ap (option_map front_in) (get_there fronts place had below ∙ ap Some (sym is)) in
    ap had_in there

-- what is so of the rows of a shard that is looked at, where each stands at its place
pub so_there : {H : Type 0} (shard_in : H → Contents) (helds : List H) (place : ℕ) (x : H) (seen : Contents) (shards : ℕ) (F : List Row → ℕ → ℕ → Type 0)
    → place < length helds → x ≡ slice_index_or helds place x → seen ≡ shard_in (slice_index_or helds place x) → AreInPlaces shard_in helds → length helds ≡ shards
    → F seen.state.rows (length helds) seen.number → F (shard_in x).state.rows shards place
so_there shard_in helds place x seen shards F below is look placed all fact =
    let here = get_there helds place x below ∙ ap Some (sym is) in
    let seen_is : seen ≡ shard_in x = look ∙ ap shard_in (sym is) in
    let number : seen.number ≡ place = ap (λ (s : Contents). s.number) seen_is ∙ placed place x here in
    subst (λ n. F (shard_in x).state.rows n place) all
    (subst (λ k. F (shard_in x).state.rows (length helds) k) number (subst (λ (s : Contents). F s.state.rows (length helds) seen.number) seen_is fact))

-- a list of no length
pub no_item : {X : Type 0} (xs : List X) → length xs ≡ 0 → xs ≡ []
no_item [] none = refl
no_item (x ∷ xs) none = absurd (omega (arith, none))

-- ---- shards without their books

-- the last of some is taken over to others, which stand behind it in turn
pub handed_on : {X Y : Type 0} (f : X → Y) (all rest : List X) (x : X) (done more : List Y) (whole : List Y) → all ≡ rest ++ x ∷ [] → more ≡ done ++ f x ∷ []
    → map f all ++ reverse done ≡ whole → map f rest ++ reverse more ≡ whole
handed_on f all rest x done more whole is is_more before =
    ap (λ ys. map f rest ++ reverse ys) is_more ∙ ap (λ ys. map f rest ++ ys) (reverse-append done (f x ∷ []))
    ∙ sym (append_assoc (map f rest) (f x ∷ []) (reverse done)) ∙ ap (λ ys. ys ++ reverse done) (sym (map-append f rest (x ∷ [])) ∙ ap (map f) (sym is)) ∙ before

-- what stands in a list that was made of another, item by item
pub made_of : {X Y : Type 0} (f : X → Y) (xs : List X) (i : ℕ) (y : Y) → slice_get (map f xs) i ≡ Some y → (x : X) × (slice_get xs i ≡ Some x) × (y ≡ f x)
made_of f [] i y at = absurd cc
made_of f (x ∷ xs) zero y at = let same : y ≡ f x = cc in (x, refl, same)
made_of f (x ∷ xs) (suc i) y at = made_of f xs i y at

module _ {H : Type 0} (shard_in : H → Contents) (helds : List H) (closed : List ClosedContents) (is : closed ≡ map (λ h. closed_of (shard_in h)) helds) where
  from : (i : ℕ) (shard : ClosedContents) → slice_get closed i ≡ Some shard → (h : H) × (slice_get helds i ≡ Some h) × (shard ≡ closed_of (shard_in h))
  from i shard at = made_of (λ h. closed_of (shard_in h)) helds i shard (ap (λ l. slice_get l i) (sym is) ∙ at)

  -- what is so of the rows of the one is so of those of the other
  pub closed_as : (P : ℕ → List Row → Type 0) → ((i : ℕ) (h : H) → slice_get helds i ≡ Some h → P i (shard_in h).state.rows)
      → (i : ℕ) (shard : ClosedContents) → slice_get closed i ≡ Some shard → P i shard.state.rows
  closed_as P each i shard at =
      let made = from i shard at in
      subst (λ (s : ClosedContents). P i s.state.rows) (sym made.2) (each i made.0 made.1)

  pub closed_counted : (reports : List ShardReport) → CountRows (λ h. (shard_in h).state.rows) helds reports → CountRows (λ shard. shard.state.rows) closed reports
  closed_counted reports counted i shard report at told =
      let made = from i shard at in
      subst (λ (s : ClosedContents). CountsRows s.state.rows report) (sym made.2) (counted i made.0 report made.1 told)

  pub closed_placed : (settings : StoreSettings) → ((h : H) → (shard_in h).settings ≡ settings) → AreInPlaces shard_in helds → StandInPlaces settings closed
  closed_placed settings judges placed i shard at =
      let made = from i shard at in
      subst (λ (s : ClosedContents). (s.settings ≡ settings) × (s.number ≡ i)) (sym made.2) (judges made.0, placed i made.0 made.1)
