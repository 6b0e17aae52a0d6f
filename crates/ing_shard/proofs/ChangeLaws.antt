-- One stream of the list has changed: what is kept beside the streams can be changed with it.
use Rattle.std.proofs.Common.{◌≡◌, ℕ, ◌+◌, ◌^◌, ◌<◌, ◌≤◌, List, [], ◌∷◌, ◌++◌, length, get_or, set, suc, take, drop, true, Some, cond, nat_lt, refl, ap, sym, ◌∙◌, subst, arith, append-nil, All, bytes_eq, sum_by, drop-cons}
use Rattle.std.proofs.lemmas.List.Elements.{All-push}
use Rattle.std.proofs.lemmas.List.{get_or_at, length-take-le, set_at, take-append-drop}
use Rattle.ing_rows.specs.Rows.{StreamKey, empty_state, is_stored}
use Rattle.ing_checkpoint.specs.Sums.{gauge_at}
use Rattle.ing_checkpoint.proofs.GaugeLaws.{gauge_claimed}
use Rattle.ing_shard.specs.OneStream.{Stream}
use Rattle.ing_shard.specs.Flights.{AreApart}
use Rattle.ing_shard.specs.declared.streams.Streams.{Streams}
use Rattle.ing_shard.specs.Streams.{key_of, part_of, position_of, AreDistinct, IsKept, AreHeld, Stays, measure_of, measures_of}
use Rattle.ing_shard.specs.Tenants.{find_of, is_known, kept_of, posted_of}
use Rattle.ing_rows.specs.Gauges.{HaveRoom, AreWithin, with_changed}
use Rattle.ing_shard.proofs.CountLaws.{middle, replaced, sum_split}
use Rattle.ing_shard.proofs.HeldLaws.{apart_kept, held_changed, measures_more, measures_nothing}
use Rattle.ing_shard.proofs.PositionLaws.{position_splits, splits_read}
use Rattle.ing_shard.proofs.SumLaws.{within}
use Rattle.ing_shard.proofs.TakeLaws.{sums_fit, changed_own}
use Rattle.ing_shard.proofs.WholeLaws.{AreOthers}

-- what is stored of a stream is told by the chunks that were claimed
pub stored_of : (st : Stream) → (measure_of st).stored.entries ≡ (gauge_at is_stored st.chunks.sealed).entries
stored_of st = ap (λ g. g.entries) (gauge_claimed is_stored refl refl (key_of st) st.chunks.memory st.chunks.sealed)

pub stored_same : (st now : Stream) → now.chunks.sealed ≡ st.chunks.sealed → (measure_of now).stored.entries ≡ (measure_of st).stored.entries
stored_same st now same = stored_of now ∙ ap (λ xs. (gauge_at is_stored xs).entries) same ∙ sym (stored_of st)

-- the list around a stream that is read there
pub record Around (sts : List Stream) (i : ℕ) (st : Stream) : Type 0 where
  pub front : List Stream
  pub back : List Stream
  pub is : sts ≡ front ++ st ∷ back
  pub at : length front ≡ i

pub around : (sts : List Stream) (i : ℕ) (st : Stream) → i < length sts → st ≡ get_or sts i st → Around sts i st
around sts i st below read = record {
  front = take i sts;
  back = drop (suc i) sts;
  is = sym (take-append-drop i sts) ∙ ap (λ l. take i sts ++ l) (drop-cons sts i st below ∙ ap (λ o. o ∷ drop (suc i) sts) (sym read));
  at = length-take-le i sts (omega (arith, below));
}

-- and around the one that has this key
pub record ListedAt (s : StreamKey) (sts : List Stream) (i : ℕ) (st : Stream) : Type 0 where
  pub around : Around sts i st
  pub key : key_of st ≡ s
  pub others : AreOthers s (around.front ++ around.back)

pub listed_at : (s : StreamKey) (sts : List Stream) (i : ℕ) (st : Stream) → AreDistinct sts → position_of s sts ≡ Some i → st ≡ get_or sts i st → ListedAt s sts i st
listed_at s sts i st distinct listed read =
    let split = position_splits s sts i distinct listed in
    let here : st ≡ split.st = read ∙ splits_read s sts i split st in
    record {
      around = record { front = split.front; back = split.back; is = split.is ∙ ap (λ o. split.front ++ o ∷ split.back) (sym here); at = split.at };
      key = ap key_of here ∙ split.key;
      others = split.others;
    }

pub around_listed : {R : Type 0} (old : Streams R) (held : AreHeld old) (i : ℕ) → (s : StreamKey) × (position_of s old.list.items ≡ Some i) → (st : Stream) → st ≡ get_or old.list.items i st → Around old.list.items i st
around_listed old held i listed st read = (listed_at listed.0 old.list.items i st held.distinct listed.1 read).around

module _ (sts front : List Stream) (st : Stream) (back : List Stream) (i : ℕ) (is : sts ≡ front ++ st ∷ back) (at : length front ≡ i) where
  pub read_there : (d : Stream) → get_or sts i d ≡ st
  read_there d = ap (λ l. get_or l i d) is ∙ get_or_at front st back d i at

  pub written_there : (new : Stream) → set sts i new ≡ front ++ new ∷ back
  written_there new = ap (λ l. set l i new) is ∙ set_at front st back new i at

pub written_in : {sts : List Stream} {i : ℕ} {st : Stream} (split : Around sts i st) (new : Stream) → set sts i new ≡ split.front ++ new ∷ split.back
written_in {sts} {i} {st} split new = written_there sts split.front st split.back i split.is split.at new

module _ {R : Type 0} (old : Streams R) {i : ℕ} {st : Stream} (held : AreHeld old) (split : Around old.list.items i st) where
  sums_here : kept_of old.tenants st.tenant ≡ measures_of st.tenant (split.front ++ st ∷ split.back)
  sums_here = held.sums st.tenant ∙ ap (measures_of st.tenant) split.is

  all_kept : All IsKept (split.front ++ st ∷ split.back)
  all_kept = subst (All IsKept) split.is held.kept

  pub kept_here : IsKept st
  kept_here = middle IsKept split.front st split.back all_kept

  pub known_here : is_known old.tenants st.tenant ≡ true
  known_here = middle (λ (o : Stream). is_known old.tenants o.tenant ≡ true) split.front st split.back (subst (All (λ (o : Stream). is_known old.tenants o.tenant ≡ true)) split.is held.known)

  pub within_here : AreWithin (measure_of st) (kept_of old.tenants st.tenant)
  within_here = subst (AreWithin (measure_of st)) (sym sums_here) (within split.front st split.back)

  pub all_entries : ◌≡◌ {A = ℕ} old.entries (st.chunks.memory.next + sum_by (λ (o : Stream). o.chunks.memory.next) (split.front ++ split.back))
  all_entries = held.entries ∙ ap (sum_by (λ o. o.chunks.memory.next)) split.is ∙ sum_split (λ o. o.chunks.memory.next) split.front st split.back

  pub fits_here : (now : Stream) → IsKept now → now.tenant ≡ st.tenant → old.entries + now.chunks.memory.next ≤ 2 ^ 62 + st.chunks.memory.next → HaveRoom (with_changed (kept_of old.tenants st.tenant) (measure_of st) (measure_of now))
  fits_here now kept tenant few =
      let before = all_entries in
      subst HaveRoom (sym (ap (λ k. with_changed k (measure_of st) (measure_of now)) sums_here ∙ sym (changed_own split.front st now split.back tenant)))
      (sums_fit st.tenant (split.front ++ now ∷ split.back) (replaced IsKept split.front st now split.back all_kept kept)
      (omega (arith, few, before, sum_split (λ (o : Stream). o.chunks.memory.next) split.front now split.back)))

  -- it has changed, but for its name and how many entries it has, and its tenant's sums are changed
  pub stays_here : (new : Streams R) (now : Stream) → new.list.items ≡ split.front ++ now ∷ split.back → Stays st now
      → ((t n : List ℕ) → find_of new.tenants t n ≡ find_of old.tenants t n)
      → ((t : List ℕ) → posted_of new.tenants t ≡ posted_of old.tenants t)
      → ((t : List ℕ) → is_known new.tenants t ≡ is_known old.tenants t)
      → ((t : List ℕ) → kept_of new.tenants t ≡ cond (bytes_eq st.tenant t) (with_changed (kept_of old.tenants st.tenant) (measure_of st) (measure_of now)) (kept_of old.tenants t))
      → new.entries ≡ old.entries → new.stored + (measure_of st).stored.entries ≡ old.stored + (measure_of now).stored.entries → new.active ≡ old.active
      → AreApart new.flights (split.front ++ now ∷ split.back) → AreHeld new
  stays_here new now is stays find posted known sums entries stored active apart =
      let next = stays.next in
      let few = held.few in
      let most = held.most in
      held_changed old new split.front st now split.back held split.is is stays.kept stays.tenant stays.labels find posted known sums
      (omega (arith, entries, next)) stored (λ i. active i + cond (nat_lt 0 (sym next i)) 1 0) (omega (arith, entries, few)) (omega (arith, active, most)) apart

  -- and they can be
  pub stays_fits : (now : Stream) → Stays st now → HaveRoom (with_changed (kept_of old.tenants st.tenant) (measure_of st) (measure_of now))
  stays_fits now stays =
      let next = stays.next in
      let few = held.few in
      fits_here now stays.kept stays.tenant (omega (arith, next, few))

  -- no flight has two chunks, where the sealed chunks are the same
  pub apart_here : (now : Stream) → now.chunks.sealed ≡ st.chunks.sealed → AreApart old.flights (split.front ++ now ∷ split.back)
  apart_here now same = apart_kept old.flights split.front st now split.back (subst (AreApart old.flights) split.is held.flights) same

-- a stream that was not listed begins with its first entries: it stands for the one without entries
module _ {R : Type 0} (old : Streams R) (st now : Stream) (held : AreHeld old) (next : st.chunks.memory.next ≡ 0) (none : part_of st ≡ empty_state) (tenant : now.tenant ≡ st.tenant) where
  abbrev items : List Stream
  items = old.list.items

  begun_sums : with_changed (kept_of old.tenants st.tenant) (measure_of st) (measure_of now) ≡ measures_of st.tenant (items ++ now ∷ [])
  begun_sums =
      ap (λ k. with_changed k (measure_of st) (measure_of now)) (held.sums st.tenant ∙ measures_more st.tenant items st (measures_nothing st none))
      ∙ sym (changed_own items st now [] tenant)

  pub begun_fits : IsKept now → old.entries + now.chunks.memory.next ≤ 2 ^ 62 → HaveRoom (with_changed (kept_of old.tenants st.tenant) (measure_of st) (measure_of now))
  begun_fits kept few =
      let before = held.entries in
      let after : ◌≡◌ {A = ℕ} (sum_by (λ (o : Stream). o.chunks.memory.next) (items ++ now ∷ [])) (sum_by (λ o. o.chunks.memory.next) (items ++ []) + now.chunks.memory.next) =
      sum_split (λ (o : Stream). o.chunks.memory.next) items now [] ∙ omega arith in
      let all = ap (sum_by (λ (o : Stream). o.chunks.memory.next)) (append-nil items) in
      subst HaveRoom (sym begun_sums)
      (sums_fit st.tenant (items ++ now ∷ []) (All-push IsKept items now held.kept kept) (omega (arith, before, after, all, few)))
