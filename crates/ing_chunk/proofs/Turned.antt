-- One accepted entry, put into the chunks of its stream and into the model's state alike.
use Rattle.std.proofs.Common.{◌≡◌, ℕ, ◌+◌, ◌<◌, Bool, true, false, cond, ◌&&◌, List, [], ◌∷◌, ◌++◌, length, map, filter, find, refl, sym, ap, ◌∙◌, arith, nat_eq, nat_le, append_assoc, append-nil, Some, None, get_or, subst}
use Rattle.std.specs.Prelude.{All, Option, sum, sum_by}
use Rattle.std.specs.Option.{unwrap_or}
use Rattle.std.proofs.lemmas.Bool.Decides.{nat_tests}
use Rattle.std.proofs.lemmas.Slice.Eq.{bytes_eq-Decides}
use Rattle.std.proofs.lemmas.List.{map-append}
use Rattle.std.proofs.lemmas.Simd.{map-map}
use Rattle.std.proofs.lemmas.List.Elements.{All-nil, All-cons, All-head, All-tail, All-append, All-map, All-weaker, filter-append}
use Rattle.std.proofs.lemmas.List.Sums.{sum-map, sum_by-append}
use Rattle.ing_rows.specs.declared.place.Place.TheVariants.{Head, Block}
use Rattle.ing_rows.specs.declared.place.Place.{Place}
use Rattle.ing_rows.specs.declared.place.SealReason.TheVariants.{Full}
use Rattle.ing_rows.specs.declared.rules.Rules.{Rules}
use Rattle.ing_rows.specs.Rows.{StreamKey, Row, Mark, State, same_stream, is_head, is_block, size_of, size_of_rows, is_of_chunk}
use Rattle.ing_rows.specs.Steps.{moved, is_growing, is_mark_of, in_head, cut, filled, sealed}
use Rattle.ing_chunk.specs.declared.numbered.Numbered.{Numbered}
use Rattle.ing_chunk.specs.Chunks.{ChunkContents, ChunksContents, row_in, block_rows, head_rows, mark_of, chunk_state, chunk_to_grow, chunks_state, empty_chunk, growing_state, stream_state, IsWaiting, Waits}

-- ---- lists whose elements all pass a test, or all fail it

pub filter-all : {X : Type 0} (p : X → Bool) (xs : List X) → All (λ x. p x ≡ true) xs → filter p xs ≡ xs
filter-all p [] h = refl
filter-all p (x ∷ xs) h =
    rw (All-head (λ y. p y ≡ true) x xs h) (ap (λ l. x ∷ l) (filter-all p xs (All-tail (λ y. p y ≡ true) x xs h)))

pub filter-none : {X : Type 0} (p : X → Bool) (xs : List X) → All (λ x. p x ≡ false) xs → filter p xs ≡ []
filter-none p [] h = refl
filter-none p (x ∷ xs) h = rw (All-head (λ y. p y ≡ false) x xs h) (filter-none p xs (All-tail (λ y. p y ≡ false) x xs h))

pub map-all : {X : Type 0} (p : X → Bool) (f : X → X) (xs : List X) → All (λ x. p x ≡ true) xs → map (λ x. cond (p x) (f x) x) xs ≡ map f xs
map-all p f [] h = refl
map-all p f (x ∷ xs) h =
    rw (All-head (λ y. p y ≡ true) x xs h) (ap (λ l. f x ∷ l) (map-all p f xs (All-tail (λ y. p y ≡ true) x xs h)))

pub map-none : {X : Type 0} (p : X → Bool) (f : X → X) (xs : List X) → All (λ x. p x ≡ false) xs → map (λ x. cond (p x) (f x) x) xs ≡ xs
map-none p f [] h = refl
map-none p f (x ∷ xs) h =
    rw (All-head (λ y. p y ≡ false) x xs h) (ap (λ l. x ∷ l) (map-none p f xs (All-tail (λ y. p y ≡ false) x xs h)))

pub find-none : {X : Type 0} (p : X → Bool) (xs : List X) → All (λ x. p x ≡ false) xs → find p xs ≡ None
find-none p [] h = refl
find-none p (x ∷ xs) h = rw (All-head (λ y. p y ≡ false) x xs h) (find-none p xs (All-tail (λ y. p y ≡ false) x xs h))

pub sum_by-map : {X Y : Type 0} (f : Y → ℕ) (g : X → Y) (xs : List X) → sum_by f (map g xs) ≡ sum_by (λ x. f (g x)) xs
sum_by-map f g xs = sym (sum-map f (map g xs)) ∙ ap sum (map-map f g xs) ∙ sum-map (λ x. f (g x)) xs

-- ---- a stream is itself

pub stream_self : (s : StreamKey) → same_stream s s ≡ true
stream_self s = rw ((bytes_eq-Decides s.tenant s.tenant).1 refl) ((bytes_eq-Decides s.name s.name).1 refl)

pub nat_self : (n : ℕ) → nat_eq n n ≡ true
nat_self n = grind (arith, nat_tests)

pub lower_not : (m n : ℕ) → m < n → nat_eq m n ≡ false
lower_not m n h = grind (arith, nat_tests)

-- ---- the rows and marks of a chunk, and of the chunks before it

abbrev pub to_block : Row → Row
to_block r = record r { place = Block }

-- in the head of the chunk, whose closed blocks are so many
pub record IsInHead (s : StreamKey) (k index : ℕ) (r : Row) : Type 0 where
  pub chunk : is_of_chunk s k r ≡ true
  pub head : is_head r.place ≡ true
  pub block : r.block ≡ index

-- in a closed block of the chunk
pub record IsInBlock (s : StreamKey) (k : ℕ) (r : Row) : Type 0 where
  pub chunk : is_of_chunk s k r ≡ true
  pub head : is_head r.place ≡ false

-- what holds of rows and marks, by where they stand
module _ (P : Row → Type 0) (s : StreamKey) where
  pub all_placed : (k index : ℕ) (place : Place) → ((e : Numbered) → P (row_in s k index place e)) → (es : List Numbered) → All P (map (row_in s k index place) es)
  all_placed k index place h es = All-map P (row_in s k index place) es (λ i d below. h (get_or es i d))

  pub all_closed : (k index : ℕ) → ((i : ℕ) (e : Numbered) → P (row_in s k i Block e)) → (bs : List (List Numbered)) → All P (block_rows s k index bs)
  all_closed k index h [] = All-nil P
  all_closed k index h (b ∷ bs) = All-append P (map (row_in s k index Block) b) (block_rows s k (index + 1) bs) (all_placed k index Block (h index) b) (all_closed k (index + 1) h bs)

  -- those that wait have closed blocks alone
  pub all_waiting : (k : ℕ) (cs : List ChunkContents) → Waits k cs → ((c : ChunkContents) → IsWaiting k c → (i : ℕ) (e : Numbered) → P (row_in s c.first i Block e)) → All P (chunks_state s cs).rows
  all_waiting k [] waits h = All-nil P
  all_waiting k (c ∷ cs) waits h =
      let here = All-head (IsWaiting k) c cs waits in
      let closed = subst (λ l. All P (map (row_in s c.first (length c.blocks) Head) l ++ block_rows s c.first 0 c.blocks)) (sym here.whole.closed) (all_closed c.first 0 (h c here) c.blocks) in
      All-append P (chunk_state s c).rows (chunks_state s cs).rows closed (all_waiting k cs (All-tail (IsWaiting k) c cs waits) h)

  pub all_chunk : (c : ChunkContents) → ((i : ℕ) (e : Numbered) → P (row_in s c.first i Head e) × P (row_in s c.first i Block e)) → All P (chunk_state s c).rows
  all_chunk c h = All-append P (head_rows s c) (block_rows s c.first 0 c.blocks) (all_placed c.first (length c.blocks) Head (λ e. (h (length c.blocks) e).0) c.head) (all_closed c.first 0 (λ i e. (h i e).1) c.blocks)

  pub all_growing : (o : Option ChunkContents) → ((g : ChunkContents) → o ≡ Some g → (i : ℕ) (e : Numbered) → P (row_in s g.first i Head e) × P (row_in s g.first i Block e)) → All P (growing_state s o).rows
  all_growing None h = All-nil P
  all_growing (Some g) h = all_chunk g (h g refl)

module _ (P : Mark → Type 0) (s : StreamKey) where
  pub all_marks : (k : ℕ) (cs : List ChunkContents) → Waits k cs → ((c : ChunkContents) → IsWaiting k c → P (mark_of s c)) → All P (chunks_state s cs).marks
  all_marks k [] waits h = All-nil P
  all_marks k (c ∷ cs) waits h =
      All-cons P (mark_of s c) (chunks_state s cs).marks (h c (All-head (IsWaiting k) c cs waits)) (all_marks k cs (All-tail (IsWaiting k) c cs waits) h)

  pub all_mark : (o : Option ChunkContents) → ((g : ChunkContents) → o ≡ Some g → P (mark_of s g)) → All P (growing_state s o).marks
  all_mark None h = All-nil P
  all_mark (Some g) h = All-cons P (mark_of s g) [] (h g refl) (All-nil P)

-- the rows of the growing chunk's head, then those of its blocks, then those of the chunks that wait
pub rows_apart : (s : StreamKey) (c : ChunksContents) → (stream_state s c).rows ≡ head_rows s (chunk_to_grow c) ++ (block_rows s (chunk_to_grow c).first 0 (chunk_to_grow c).blocks ++ (chunks_state s c.waiting).rows)
rows_apart s c = of_growing c.growing where
  of_growing : (o : Option ChunkContents) → (growing_state s o).rows ++ (chunks_state s c.waiting).rows ≡ head_rows s (unwrap_or o (empty_chunk c.next)) ++ (block_rows s (unwrap_or o (empty_chunk c.next)).first 0 (unwrap_or o (empty_chunk c.next)).blocks ++ (chunks_state s c.waiting).rows)
  of_growing None = refl
  of_growing (Some g) = append_assoc (head_rows s g) (block_rows s g.first 0 g.blocks) (chunks_state s c.waiting).rows

module _ (s : StreamKey) (k : ℕ) where
  pub head_row : (index : ℕ) (e : Numbered) → IsInHead s k index (row_in s k index Head e)
  head_row index e = record { chunk = rw (stream_self s) (nat_self k); head = refl; block = refl }

  pub all_head : (index : ℕ) (es : List Numbered) → All (IsInHead s k index) (map (row_in s k index Head) es)
  all_head index es = all_placed (IsInHead s k index) s k index Head (head_row index) es

  pub all_block : (index : ℕ) (bs : List (List Numbered)) → All (IsInBlock s k) (block_rows s k index bs)
  all_block index bs = all_closed (IsInBlock s k) s k index (λ i e. record { chunk = rw (stream_self s) (nat_self k); head = refl }) bs

  -- rows of other chunks
  pub other_rows : (cs : List ChunkContents) → Waits k cs → All (λ r. is_of_chunk s k r ≡ false) (chunks_state s cs).rows
  other_rows cs h = all_waiting (λ (r : Row). is_of_chunk s k r ≡ false) s k cs h (λ c here i e. rw (stream_self s) (lower_not c.first k here.older))

  -- marks of other chunks, which are sealed
  pub record IsOther (m : Mark) : Type 0 where
    pub growing : is_growing s m ≡ false
    pub chunk : is_mark_of s k m ≡ false

  pub other_marks : (cs : List ChunkContents) → Waits k cs → All IsOther (chunks_state s cs).marks
  other_marks cs h = all_marks IsOther s k cs h (λ c here. record { growing = rw (stream_self s) here.whole.sealed; chunk = rw (stream_self s) (lower_not c.first k here.older) })

-- ---- cutting and filling, where the rows stand apart

pub not_block : (p : Place) → is_head p ≡ true → is_block p ≡ false
not_block p h = grind (arith, h)

pub size-rows : (xs ys : List Row) → size_of_rows (xs ++ ys) ≡ size_of_rows xs + size_of_rows ys
size-rows xs ys = sum_by-append (λ (r : Row). size_of r.entry) xs ys

pub record Apart (s : StreamKey) (k : ℕ) (b w : List Row) (m : List Mark) (mark : Mark) : Type 0 where
  pub blocks : All (IsInBlock s k) b
  pub others : All (λ r. is_of_chunk s k r ≡ false) w
  pub sealed : All (IsOther s k) m
  pub marked : is_mark_of s k mark ≡ true

module _ (rules : Rules) (s : StreamKey) (k : ℕ) (b w : List Row) (m : List Mark) (mark : Mark) (apart : Apart s k b w m mark) where
  abbrev pub with_head : List Row → State
  with_head h = record { rows = h ++ (b ++ w); marks = mark ∷ m }

  abbrev pub full_with : List Row → State
  full_with h = record { rows = map to_block h ++ (b ++ w); marks = record mark { reason = Some Full } ∷ m }

  abbrev pub ended : Bool → Bool → List Row → State
  ended full cut h = cond full (full_with h) (with_head (cond cut (map to_block h) h))

  pub chunk_only : (h : List Row) → All (λ r. is_of_chunk s k r ≡ true) h → filter (is_of_chunk s k) (h ++ (b ++ w)) ≡ h ++ b
  chunk_only h all =
      filter-append (is_of_chunk s k) h (b ++ w)
      ∙ (λ i. filter-all (is_of_chunk s k) h all i ++ rest i) where
        rest : filter (is_of_chunk s k) (b ++ w) ≡ b
        rest =
            filter-append (is_of_chunk s k) b w
            ∙ (λ i. filter-all (is_of_chunk s k) b (All-weaker (IsInBlock s k) (λ (r : Row). is_of_chunk s k r ≡ true) (λ r x. x.chunk) b apart.blocks) i ++ filter-none (is_of_chunk s k) w apart.others i)
            ∙ append-nil b

  no_heads : All (λ r. in_head s k r ≡ false) (b ++ w)
  no_heads =
      All-append (λ (r : Row). in_head s k r ≡ false) b w
      (All-weaker (IsInBlock s k) (λ (r : Row). in_head s k r ≡ false) (λ r x. ap (λ t. t && is_head r.place) x.chunk ∙ x.head) b apart.blocks)
      (All-weaker (λ (r : Row). is_of_chunk s k r ≡ false) (λ (r : Row). in_head s k r ≡ false) (λ r x. ap (λ t. t && is_head r.place) x) w apart.others)

  heads : (index : ℕ) (h : List Row) → All (IsInHead s k index) h → All (λ r. in_head s k r ≡ true) h
  heads index h all = All-weaker (IsInHead s k index) (λ (r : Row). in_head s k r ≡ true) (λ r x. ap (λ t. t && is_head r.place) x.chunk ∙ x.head) h all

  heads_only : (h : List Row) → All (λ r. in_head s k r ≡ true) h → filter (in_head s k) (h ++ (b ++ w)) ≡ h
  heads_only h all =
      filter-append (in_head s k) h (b ++ w)
      ∙ (λ i. filter-all (in_head s k) h all i ++ filter-none (in_head s k) (b ++ w) no_heads i)
      ∙ append-nil h

  heads_moved : (h : List Row) → All (λ r. in_head s k r ≡ true) h → moved (in_head s k) Block (h ++ (b ++ w)) ≡ map to_block h ++ (b ++ w)
  heads_moved h all =
      map-append (λ (r : Row). cond (in_head s k r) (record r { place = Block }) r) h (b ++ w)
      ∙ (λ i. map-all (in_head s k) to_block h all i ++ map-none (in_head s k) to_block (b ++ w) no_heads i)

  mark_sealed : map (λ n. cond (is_mark_of s k n) (record n { reason = Some Full }) n) (mark ∷ m) ≡ record mark { reason = Some Full } ∷ m
  mark_sealed =
      rw apart.marked (ap (λ l. record mark { reason = Some Full } ∷ l) (map-none (is_mark_of s k) (λ n. record n { reason = Some Full }) m (All-weaker (IsOther s k) (λ (n : Mark). is_mark_of s k n ≡ false) (λ n x. x.chunk) m apart.sealed)))

  filled_is : (h new : List Row) → All (λ r. is_of_chunk s k r ≡ true) h → size_of_rows h ≡ size_of_rows new → moved (in_head s k) Block (h ++ (b ++ w)) ≡ map to_block new ++ (b ++ w)
      → filled rules s k (with_head h) ≡ cond (nat_le rules.chunk_target_size (size_of_rows new + size_of_rows b)) (full_with new) (with_head h)
  filled_is h new all size e =
      ap (λ rows. cond (nat_le rules.chunk_target_size (size_of_rows rows)) (sealed Full s k (with_head h)) (with_head h)) (chunk_only h all)
      ∙ ap (λ n. cond (nat_le rules.chunk_target_size n) (sealed Full s k (with_head h)) (with_head h)) (size-rows h b ∙ ap (λ n. n + size_of_rows b) size)
      ∙ ap (λ st. cond (nat_le rules.chunk_target_size (size_of_rows new + size_of_rows b)) st (with_head h)) {x = sealed Full s k (with_head h)} {y = full_with new} (λ i. record { rows = e i; marks = mark_sealed i })

  pub finish : (index : ℕ) (h : List Row) → All (IsInHead s k index) h
      → filled rules s k (cut rules s k (with_head h)) ≡ ended (nat_le rules.chunk_target_size (size_of_rows h + size_of_rows b)) (nat_le rules.chunk_block_size (size_of_rows h)) h
  finish index h all =
      ap (filled rules s k) (ap (λ l. cond (nat_le rules.chunk_block_size (size_of_rows l)) (record { rows = moved (in_head s k) Block (h ++ (b ++ w)); marks = mark ∷ m }) (with_head h)) (heads_only h (heads index h all))
      ∙ ap (λ l. cond (nat_le rules.chunk_block_size (size_of_rows h)) (record { rows = l; marks = mark ∷ m }) (with_head h)) (heads_moved h (heads index h all)))
      ∙ by_cases (nat_le rules.chunk_block_size (size_of_rows h)) where
        closed : All (IsInBlock s k) (map to_block h)
        closed = All-map (IsInBlock s k) to_block h (All-weaker (IsInHead s k index) (λ (r : Row). IsInBlock s k (to_block r)) (λ r x. record { chunk = x.chunk; head = refl }) h all)

        by_cases : (c : Bool) → filled rules s k (cond c (with_head (map to_block h)) (with_head h)) ≡ ended (nat_le rules.chunk_target_size (size_of_rows h + size_of_rows b)) c h
        by_cases true =
            filled_is (map to_block h) h (All-weaker (IsInBlock s k) (λ (r : Row). is_of_chunk s k r ≡ true) (λ r x. x.chunk) (map to_block h) closed) (sum_by-map (λ (r : Row). size_of r.entry) to_block h)
            (map-none (in_head s k) to_block (map to_block h ++ (b ++ w)) (All-append (λ (r : Row). in_head s k r ≡ false) (map to_block h) (b ++ w)
            (All-weaker (IsInBlock s k) (λ (r : Row). in_head s k r ≡ false) (λ r x. ap (λ t. t && is_head r.place) x.chunk ∙ x.head) (map to_block h) closed) no_heads))
        by_cases false =
            filled_is h h (All-weaker (IsInHead s k index) (λ (r : Row). is_of_chunk s k r ≡ true) (λ r x. x.chunk) h all) refl (heads_moved h (heads index h all))
