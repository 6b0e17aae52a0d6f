-- What is sealed of a shard's streams, stream by stream, with the reasons.
use Rattle.std.proofs.Common.{append_assoc, drop, get_or, replicate, sum_by, take, ◌≡◌, ℕ, ◌+◌, ◌<◌, ◌≤◌, Bool, true, false, true≢false, cond, List, [], ◌∷◌, ◌++◌, length, map, filter, nat_lt, refl, ap, sym, subst, ◌∙◌, arith, is_none, is_some, All, Option, Some, None, lt-ltb}
use Rattle.std.specs.List.{cons_option}
use Rattle.std.specs.Option.{option_map}
use Rattle.std.proofs.lemmas.List.{drop_more, replicate-append-replicate, take_more}
use Rattle.std.proofs.lemmas.List.Elements.{All-push, All-cons, All-head, All-nil, All-tail, All-weaker, filter_map-append}
use Rattle.std.proofs.lemmas.List.Sums.{sum_by-cons}
use Rattle.ing_rows.specs.declared.place.SealReason.{SealReason}
use Rattle.ing_rows.specs.declared.place.SealReason.TheVariants as seal_reason
use Rattle.ing_rows.specs.declared.rules.Rules.{Rules}
use Rattle.ing_rows.specs.Rows.{StreamKey, Row, Mark, State, IsSame, is_of_chunk}
use Rattle.ing_rows.specs.Claims.{claimable_count}
use Rattle.ing_rows.specs.Events.{sealed_count}
use Rattle.ing_rows.specs.Steps.{due_of, seal_of, sealed_by}
use Rattle.ing_rows.specs.Turns.{NoneMarked}
use Rattle.ing_logged.specs.LoggedRecords.{StreamSeal}
use Rattle.ing_replay.specs.Records.{names_of}
use Rattle.ing_checkpoint.specs.Contents.{StreamContents, named_as}
use Rattle.ing_shard.specs.declared.sealing.Op.{Op}
use Rattle.ing_shard.specs.declared.sealing.Sealing.{Sealing}
use Rattle.ing_shard.specs.declared.sealing.Sealing.TheVariants.{Due, Forced}
use Rattle.ing_shard.specs.OneStream.{Stream}
use Rattle.ing_shard.specs.Sealing.{AreSealed, IsNamed, IsSealed, is_sealing, name_in, op, ops_after, reason_of, seal_as, sealed_among, seals_among, why_by, why_of}
use Rattle.ing_shard.specs.Streams.{AreDistinct, key_of, part_of, whole}
use Rattle.ing_shard.proofs.Alike.{same_refl}
use Rattle.ing_shard.proofs.Parts.{all_marks}
use Rattle.ing_shard.proofs.SealLaws.{none_of_mine, none_of_others}

abbrev pub Dues : Type 0
Dues =
    (rules : Rules) (now : ℕ) (m : Mark) (rows more : List Row)
    → (All (λ r. is_of_chunk m.stream m.chunk r ≡ false) more → due_of rules now (rows ++ more) m ≡ due_of rules now rows m)
    × (All (λ r. is_of_chunk m.stream m.chunk r ≡ false) rows → due_of rules now (rows ++ more) m ≡ due_of rules now more m)

abbrev pub Still : Type 0
Still = (why : Mark → Option SealReason) (st : State) → All (λ m. seal_of why m ≡ None) st.marks → (sealed_by why st ≡ st) × (sealed_count why st.marks ≡ 0)

-- those of which the rules are told by the tenants' bytes
abbrev pub AreNamed : Sealing → (List ℕ → Rules) → List Stream → Type 0
AreNamed which rules sts = All (λ st. IsNamed which (rules st.tenant) st) sts

-- ---- names of marks

abbrev name_of : (Mark → Option SealReason) → Mark → Option (StreamKey × SealReason)
name_of why m = option_map (λ reason. (m.stream, reason)) (seal_of why m)

-- only the reasons for the marks that there are count
names_agree : (why other : Mark → Option SealReason) (ms : List Mark) → All (λ m. why m ≡ other m) ms → names_of why ms ≡ names_of other ms
names_agree why other [] same = refl
names_agree why other (m ∷ ms) same =
    let here = All-head (λ (q : Mark). why q ≡ other q) m ms same in
    let rest = names_agree why other ms (All-tail (λ (q : Mark). why q ≡ other q) m ms same) in
    λ i. cons_option (option_map (λ reason. (m.stream, reason)) (cond (is_none m.reason) (here i) None)) (rest i)

-- where none is named, none is given a reason
none_left : (why : Mark → Option SealReason) (ms : List Mark) → names_of why ms ≡ [] → All (λ m. seal_of why m ≡ None) ms
none_left why [] none = All-nil (λ (m : Mark). seal_of why m ≡ None)
none_left why (m ∷ ms) none = by_cases (seal_of why m) refl (none_left why ms) none where
  by_cases : (o : Option SealReason) → seal_of why m ≡ o → (names_of why ms ≡ [] → All (λ q. seal_of why q ≡ None) ms) → cons_option (option_map (λ reason. (m.stream, reason)) o) (names_of why ms) ≡ [] → All (λ q. seal_of why q ≡ None) (m ∷ ms)
  by_cases None is left rest = All-cons (λ (q : Mark). seal_of why q ≡ None) m ms is (left rest)
  by_cases (Some reason) is left rest = absurd (cc)

-- why a mark of one part is sealed is not told by the other
why_left : Dues → (which : Sealing) (rules : List ℕ → Rules) (a b : State) → NoneMarked a.marks b.rows → All (λ m. why_of which rules (a.rows ++ b.rows) m ≡ why_of which rules a.rows m) a.marks
why_left dues (Due now) rules a b apart =
    All-weaker (λ (m : Mark). All (λ r. is_of_chunk m.stream m.chunk r ≡ false) b.rows) (λ m. why_of (Due now) rules (a.rows ++ b.rows) m ≡ why_of (Due now) rules a.rows m)
    (λ m none. (dues (rules m.stream.tenant) now m a.rows b.rows).0 none) a.marks apart
why_left dues Forced rules a b apart =
    All-weaker (λ (m : Mark). All (λ r. is_of_chunk m.stream m.chunk r ≡ false) b.rows) (λ m. why_of Forced rules (a.rows ++ b.rows) m ≡ why_of Forced rules a.rows m)
    (λ m none. refl) a.marks apart

why_right : Dues → (which : Sealing) (rules : List ℕ → Rules) (a b : State) → NoneMarked b.marks a.rows → All (λ m. why_of which rules (a.rows ++ b.rows) m ≡ why_of which rules b.rows m) b.marks
why_right dues (Due now) rules a b apart =
    All-weaker (λ (m : Mark). All (λ r. is_of_chunk m.stream m.chunk r ≡ false) a.rows) (λ m. why_of (Due now) rules (a.rows ++ b.rows) m ≡ why_of (Due now) rules b.rows m)
    (λ m none. (dues (rules m.stream.tenant) now m a.rows b.rows).1 none) b.marks apart
why_right dues Forced rules a b apart =
    All-weaker (λ (m : Mark). All (λ r. is_of_chunk m.stream m.chunk r ≡ false) a.rows) (λ m. why_of Forced rules (a.rows ++ b.rows) m ≡ why_of Forced rules b.rows m)
    (λ m none. refl) b.marks apart

-- ---- names of streams

seal_named : (s : StreamKey) (o : Option SealReason) (rest : List StreamSeal) → map name_in (seal_as s o ++ rest) ≡ named_as s o ++ map name_in rest
seal_named s None rest = refl
seal_named s (Some reason) rest = refl

-- the seals of the streams, one after another, are those of the whole
pub whole_named : Dues → (which : Sealing) (rules : List ℕ → Rules) (sts : List Stream) → AreDistinct sts → AreNamed which rules sts
    → map name_in (seals_among which rules sts) ≡ names_of (why_of which rules (whole sts).rows) (whole sts).marks
whole_named dues which rules [] distinct named = refl
whole_named dues which rules (st ∷ sts) distinct named =
    let a = part_of st in
    let b = whole sts in
    let why = why_of which rules (a.rows ++ b.rows) in
    let own = why_by which (rules st.tenant) a.rows in
    let here = All-head (λ (o : Stream). IsNamed which (rules o.tenant) o) st sts named in
    let mine : names_of why a.marks ≡ named_as (key_of st) (reason_of which (rules st.tenant) st.chunks) =
    names_agree why (why_of which rules a.rows) a.marks (why_left dues which rules a b (none_of_others st sts distinct.0))
    ∙ names_agree (why_of which rules a.rows) own a.marks (all_marks (key_of st) (λ m. why_of which rules a.rows m ≡ own m) (λ c. refl) st.chunks)
    ∙ here.names in
    let others : names_of why b.marks ≡ map name_in (seals_among which rules sts) =
    names_agree why (why_of which rules b.rows) b.marks (why_right dues which rules a b (none_of_mine st sts distinct.0))
    ∙ sym (whole_named dues which rules sts distinct.1 (All-tail (λ (o : Stream). IsNamed which (rules o.tenant) o) st sts named)) in
    seal_named (key_of st) (reason_of which (rules st.tenant) st.chunks) (seals_among which rules sts)
    ∙ (λ i. sym mine i ++ sym others i) ∙ sym (filter_map-append (name_of why) a.marks b.marks)

-- ---- how many there are

pub reason_told : (which : Sealing) (rules : Rules) (c : StreamContents) → is_some (reason_of which rules c) ≡ is_sealing which rules c
reason_told (Due now) rules c = refl
reason_told Forced rules c = by_cases (is_some c.memory.growing) where
  by_cases : (b : Bool) → is_some (cond b (Some seal_reason.Forced) None) ≡ b
  by_cases true = refl
  by_cases false = refl

-- no more than have an entry
pub seals_few : (which : Sealing) (rules : List ℕ → Rules) (sts : List Stream) → AreNamed which rules sts → length (seals_among which rules sts) ≤ length (filter (λ st. nat_lt 0 st.chunks.memory.next) sts)
seals_few which rules [] named = omega arith
seals_few which rules (st ∷ sts) named =
    let here = All-head (λ (o : Stream). IsNamed which (rules o.tenant) o) st sts named in
    by_cases (reason_of which (rules st.tenant) st.chunks) (nat_lt 0 st.chunks.memory.next)
    (λ some. lt-ltb 0 st.chunks.memory.next (here.begun (sym (reason_told which (rules st.tenant) st.chunks) ∙ some)))
    (seals_few which rules sts (All-tail (λ (o : Stream). IsNamed which (rules o.tenant) o) st sts named)) where
      rest : List StreamSeal
      rest = seals_among which rules sts

      begun : List Stream
      begun = filter (λ o. nat_lt 0 o.chunks.memory.next) sts

      by_cases : (o : Option SealReason) (b : Bool) → (is_some o ≡ true → b ≡ true) → length rest ≤ length begun → length (seal_as (key_of st) o ++ rest) ≤ length (cond b (st ∷ begun) begun)
      by_cases None true told few = omega (arith, few)
      by_cases None false told few = few
      by_cases (Some reason) true told few = omega (arith, few)
      by_cases (Some reason) false told few = absurd (true≢false (sym (told refl)))

-- ---- where there is none

reason_none : (o : Option SealReason) → is_some o ≡ false → o ≡ None
reason_none None none = refl
reason_none (Some reason) none = absurd (cc)

still_sealed : Still → (which : Sealing) (rules : Rules) (st : Stream) → IsNamed which rules st → is_sealing which rules st.chunks ≡ false → IsSealed which rules st st
still_sealed law which rules st named none =
    let why = why_by which rules (part_of st).rows in
    let left = none_left why (part_of st).marks
    (named.names ∙ ap (named_as (key_of st)) (reason_none (reason_of which rules st.chunks) (reason_told which rules st.chunks ∙ none))) in
    let still = law why (part_of st) left in
    record {
      tenant = refl;
      labels = refl;
      next = refl;
      claimed = refl;
      state = subst (λ v. IsSame (part_of st) v) (sym still.0) (same_refl (part_of st));
      counts = still.1 ∙ ap (λ b. cond b 1 0) (sym none);
      waiting = omega arith ∙ ap (λ b. claimable_count (key_of st) (part_of st) + cond b 1 0) (sym none);
    }

pub none_sealed : Still → (which : Sealing) (rules : List ℕ → Rules) (sts : List Stream) → AreNamed which rules sts → sealed_among which rules sts ≡ 0 → AreSealed which rules sts sts
none_sealed law which rules [] named none = tt
none_sealed law which rules (st ∷ sts) named none =
    by_cases (is_sealing which (rules st.tenant) st.chunks) refl (none_sealed law which rules sts (All-tail (λ (o : Stream). IsNamed which (rules o.tenant) o) st sts named)) (sym (sum_by-cons (λ (o : Stream). cond (is_sealing which (rules o.tenant) o.chunks) 1 0) st sts) ∙ none) where
      by_cases : (b : Bool) → is_sealing which (rules st.tenant) st.chunks ≡ b → (sealed_among which rules sts ≡ 0 → AreSealed which rules sts sts) → cond b 1 0 + sealed_among which rules sts ≡ 0 → AreSealed which rules (st ∷ sts) (st ∷ sts)
      by_cases true is rest none = absurd (omega (arith, none))
      by_cases false is rest none = (still_sealed law which (rules st.tenant) st (All-head (λ (o : Stream). IsNamed which (rules o.tenant) o) st sts named) is, rest (omega (arith, none)))

-- ---- one stream after another

module _ (which : Sealing) (rules : List ℕ → Rules) (items : List Stream) (i : ℕ) (st : Stream) (below : i < length items) (here : st ≡ get_or items i st) where
  next_items : drop i items ≡ st ∷ drop (i + 1) items
  next_items = drop_more items i st below ∙ ap (λ (o : Stream). o ∷ drop (i + 1) items) (sym here)

  pub seals_step : (so_far : List StreamSeal) (o : Option SealReason) → o ≡ reason_of which (rules st.tenant) st.chunks → seals_among which rules items ≡ so_far ++ seals_among which rules (drop i items)
      → seals_among which rules items ≡ (so_far ++ seal_as (key_of st) o) ++ seals_among which rules (drop (i + 1) items)
  seals_step so_far o is all =
      let rest = seals_among which rules (drop (i + 1) items) in
      all ∙ ap (λ l. so_far ++ seals_among which rules l) next_items ∙ ap (λ p. so_far ++ (seal_as (key_of st) p ++ rest)) (sym is)
      ∙ sym (append_assoc so_far (seal_as (key_of st) o) rest)

  pub ops_step : (shard : ℕ) (so_far : List Op) (waiting : ℕ) (b : Bool) → claimable_count (key_of st) (part_of st) ≡ waiting → is_sealing which (rules st.tenant) st.chunks ≡ b
      → ops_after shard which rules 0 items ≡ so_far ++ ops_after shard which rules i (drop i items)
      → ops_after shard which rules 0 items ≡ ((so_far ++ replicate waiting (op shard i)) ++ replicate (cond b 1 0) (op shard i)) ++ ops_after shard which rules (i + 1) (drop (i + 1) items)
  ops_step shard so_far waiting b count is all =
      let rest = ops_after shard which rules (i + 1) (drop (i + 1) items) in
      let waits = replicate waiting (op shard i) in
      let sealed = replicate (cond b 1 0) (op shard i) in
      all ∙ ap (λ l. so_far ++ ops_after shard which rules i l) next_items
      ∙ (λ j. so_far ++ (replicate (count j + cond (is j) 1 0) (op shard i) ++ rest))
      ∙ ap (λ l. so_far ++ (l ++ rest)) (sym (replicate-append-replicate waiting (cond b 1 0) (op shard i)))
      ∙ ap (λ l. so_far ++ l) (append_assoc waits sealed rest)
      ∙ sym (append_assoc so_far waits (sealed ++ rest))
      ∙ sym (append_assoc (so_far ++ waits) sealed rest)

  pub sealed_step : (count : ℕ) (b : Bool) → is_sealing which (rules st.tenant) st.chunks ≡ b → sealed_among which rules items ≡ count + sealed_among which rules (drop i items)
      → sealed_among which rules items ≡ (count + cond b 1 0) + sealed_among which rules (drop (i + 1) items)
  sealed_step count b is all =
      let one : Stream → ℕ = λ o. cond (is_sealing which (rules o.tenant) o.chunks) 1 0 in
      let split = ap (sum_by one) next_items ∙ sum_by-cons one st (drop (i + 1) items) in
      let mine : one st ≡ cond b 1 0 = ap {B = ℕ} (λ a. cond a 1 0) is in
      omega (arith, all, split, mine)

  pub named_step : AreNamed which rules (take i items) → IsNamed which (rules st.tenant) st → AreNamed which rules (take (i + 1) items)
  named_step named one =
      subst (AreNamed which rules) (sym (take_more items i st below ∙ ap (λ (o : Stream). take i items ++ o ∷ []) (sym here)))
      (All-push (λ (o : Stream). IsNamed which (rules o.tenant) o) (take i items) st named one)
