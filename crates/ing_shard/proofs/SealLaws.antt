-- Growing chunks of a shard are sealed stream by stream.
use Rattle.std.proofs.Common.{◌≡◌, ℕ, ◌+◌, ◌<◌, Bool, List, [], ◌∷◌, ◌++◌, length, map, cond, false, not, ◌&&◌, ◌==◌, Option, Some, refl, ap, sym, ◌∙◌, subst, arith, filter, replicate, append-nil, append_assoc, All, is_some}
use Rattle.std.proofs.lemmas.List.{length-append, length-map}
use Rattle.std.proofs.lemmas.List.Elements.{All-cons, All-head, All-nil, All-tail, All-weaker, filter-append, filter_agree}
use Rattle.std.proofs.lemmas.List.Sums.{sum_by-cons}
use Rattle.ing_labels.specs.Canonical.{canonical_of}
use Rattle.ing_rows.specs.declared.place.SealReason.{SealReason}
use Rattle.ing_rows.specs.declared.place.SealReason.TheVariants as reason
use Rattle.ing_rows.specs.declared.rules.Rules.{Rules}
use Rattle.ing_rows.specs.Rows.{StreamKey, Row, Mark, State, IsSame, empty_state, same_stream, is_block, is_of_chunk}
use Rattle.ing_rows.specs.Claims.{claimable_count, count_outside, is_claimable}
use Rattle.ing_rows.specs.Events.{due_count, sealed_count}
use Rattle.ing_rows.specs.Steps.{due_by, is_mark_of, seal_of, sealed_by, swept}
use Rattle.ing_rows.specs.Turns.{beside, IsMarked, NoneMarked, OneMarkEach}
use Rattle.ing_shard.specs.declared.sealing.Sealing.{Sealing}
use Rattle.ing_shard.specs.declared.sealing.Sealing.TheVariants.{Due, Forced}
use Rattle.ing_shard.specs.OneStream.{Stream}
use Rattle.ing_shard.specs.Sealing.{AreSealed, AreSealedTo, IsSealed, SealsOne, count_sealed, is_sealing, op, ops_after, ops_from, sealed_among, sealed_of, why_by, why_of}
use Rattle.ing_shard.specs.Streams.{key_of, part_of, slots_of, whole, AreDistinct, IsKept}
use Rattle.ing_shard.proofs.Alike.{same_refl, same_trans, beside_comm, beside_left, beside_right}
use Rattle.ing_shard.proofs.CountLaws.{filter_eq, filter_false, reordered}
use Rattle.ing_shard.proofs.Parts.{all_rows, all_marks}
use Rattle.ing_shard.proofs.PositionLaws.{same_flip}
use Rattle.ing_shard.proofs.WholeLaws.{IsOther, AreOthers, others_rows, others_marks}

-- ---- no chunk of a stream is another's

pub none_of_others : (st : Stream) (sts : List Stream) → AreOthers (key_of st) sts → NoneMarked (part_of st).marks (whole sts).rows
none_of_others st sts others =
    all_marks (key_of st) (λ m. All (λ r. is_of_chunk m.stream m.chunk r ≡ false) (whole sts).rows)
    (λ c. All-weaker (λ (r : Row). same_stream r.stream (key_of st) ≡ false) (λ (r : Row). is_of_chunk (key_of st) c.first r ≡ false)
    (λ r other. ap (λ b. b && (r.chunk == c.first)) other) (whole sts).rows (others_rows (key_of st) sts others)) st.chunks

pub none_of_mine : (st : Stream) (sts : List Stream) → AreOthers (key_of st) sts → NoneMarked (whole sts).marks (part_of st).rows
none_of_mine st sts others =
    let s = key_of st in
    All-weaker (λ (m : Mark). same_stream m.stream s ≡ false) (λ (m : Mark). All (λ r. is_of_chunk m.stream m.chunk r ≡ false) (part_of st).rows)
    (λ m other. all_rows s (λ r. is_of_chunk m.stream m.chunk r ≡ false)
    (λ first block place e. ap (λ b. b && (first == m.chunk)) (same_flip m.stream s other)) st.chunks)
    (whole sts).marks (others_marks s sts others)

-- ---- parts

abbrev pub Parts : Type 0
Parts = (why : Mark → Option SealReason) (a b : State) → NoneMarked a.marks b.rows → NoneMarked b.marks a.rows → sealed_by why (beside a b) ≡ beside (sealed_by why a) (sealed_by why b)

abbrev pub Counts : Type 0
Counts = (is_due : Mark → Bool) (marks more : List Mark) → due_count is_due (marks ++ more) ≡ due_count is_due marks + due_count is_due more

abbrev pub Sweeps : Type 0
Sweeps =
    (rules : List ℕ → Rules) (now : ℕ) (a b : State) → NoneMarked a.marks b.rows → NoneMarked b.marks a.rows
    → (swept rules now (beside a b) ≡ beside (swept rules now a) (swept rules now b))
    × (sealed_count (due_by rules now (a.rows ++ b.rows)) (a.marks ++ b.marks) ≡ sealed_count (due_by rules now a.rows) a.marks + sealed_count (due_by rules now b.rows) b.marks)

abbrev pub Reasons : Type 0
Reasons =
    (why other : Mark → Option SealReason) (st : State) → All (λ m. why m ≡ other m) st.marks → (sealed_by why st ≡ sealed_by other st) × (sealed_count why st.marks ≡ sealed_count other st.marks)

abbrev force : Mark → Option SealReason
force m = Some reason.Forced

apart : Parts → Counts → Sweeps → (which : Sealing) (rules : List ℕ → Rules) (a b : State) → NoneMarked a.marks b.rows → NoneMarked b.marks a.rows
    → (sealed_of which rules (beside a b) ≡ beside (sealed_of which rules a) (sealed_of which rules b))
    × (count_sealed which rules (beside a b) ≡ count_sealed which rules a + count_sealed which rules b)
apart parts counts sweeps (Due now) rules a b h k = sweeps rules now a b h k
apart parts counts sweeps Forced rules a b h k = (parts force a b h k, counts (λ m. is_some (seal_of force m)) a.marks b.marks)

-- a stream's part, by the rules of its tenant
part_sealed : Reasons → (which : Sealing) (rules : List ℕ → Rules) (st : Stream)
    → (sealed_by (why_by which (rules st.tenant) (part_of st).rows) (part_of st) ≡ sealed_of which rules (part_of st))
    × (sealed_count (why_by which (rules st.tenant) (part_of st).rows) (part_of st).marks ≡ count_sealed which rules (part_of st))
part_sealed reasons which rules st =
    reasons (why_by which (rules st.tenant) (part_of st).rows) (why_of which rules (part_of st).rows) (part_of st)
    (all_marks (key_of st) (λ m. why_by which (rules st.tenant) (part_of st).rows m ≡ why_of which rules (part_of st).rows m) (λ c. refl) st.chunks)

-- the streams' parts, once each is sealed, are the sealed whole
pub whole_sealed : Parts → Counts → Sweeps → Reasons → (which : Sealing) (rules : List ℕ → Rules) (sts news : List Stream) → AreDistinct sts → AreSealed which rules sts news
    → IsSame (whole news) (sealed_of which rules (whole sts)) × (count_sealed which rules (whole sts) ≡ sealed_among which rules sts)
whole_sealed parts counts sweeps reasons (Due now) rules [] [] distinct sealed = (same_refl empty_state, refl)
whole_sealed parts counts sweeps reasons Forced rules [] [] distinct sealed = (same_refl empty_state, refl)
whole_sealed parts counts sweeps reasons which rules [] (new ∷ news) distinct sealed = absurd sealed
whole_sealed parts counts sweeps reasons which rules (st ∷ sts) [] distinct sealed = absurd sealed
whole_sealed parts counts sweeps reasons which rules (st ∷ sts) (new ∷ news) distinct sealed =
    let one = sealed.0 in
    let rest = whole_sealed parts counts sweeps reasons which rules sts news distinct.1 sealed.1 in
    let split = apart parts counts sweeps which rules (part_of st) (whole sts) (none_of_others st sts distinct.0) (none_of_mine st sts distinct.0) in
    let own = part_sealed reasons which rules st in
    let mine : IsSame (part_of new) (sealed_of which rules (part_of st)) = subst (IsSame (part_of new)) own.0 one.state in
    let counted : count_sealed which rules (part_of st) ≡ cond (is_sealing which (rules st.tenant) st.chunks) 1 0 = sym own.1 ∙ one.counts in (
      subst (IsSame (beside (part_of new) (whole news))) (sym split.0)
          (same_trans (beside (part_of new) (whole news)) (beside (sealed_of which rules (part_of st)) (whole news)) (beside (sealed_of which rules (part_of st)) (sealed_of which rules (whole sts)))
          (beside_left (part_of new) (sealed_of which rules (part_of st)) (whole news) mine)
          (beside_right (sealed_of which rules (part_of st)) (whole news) (sealed_of which rules (whole sts)) rest.0)),
      split.1 ∙ (λ i. counted i + rest.1 i) ∙ sym (sum_by-cons (λ (o : Stream). cond (is_sealing which (rules o.tenant) o.chunks) 1 0) st sts),
    )

-- ---- what can be claimed

pub none_pass : {X : Type 0} (p : X → Bool) (xs : List X) → All (λ x. p x ≡ false) xs → filter p xs ≡ []
none_pass p xs h = filter_eq p (λ x. false) xs h ∙ filter_false xs

abbrev outside : StreamKey → ℕ → Row → Bool
outside s chunk r = is_of_chunk s chunk r && not (is_block r.place)

none_outside : (s : StreamKey) (chunk : ℕ) (rows : List Row) → All (λ r. same_stream r.stream s ≡ false) rows → filter (outside s chunk) rows ≡ []
none_outside s chunk rows others =
    none_pass (outside s chunk) rows (All-weaker (λ (r : Row). same_stream r.stream s ≡ false) (λ (r : Row). outside s chunk r ≡ false)
    (λ r other. ap (λ b. (b && (r.chunk == chunk)) && not (is_block r.place)) other) rows others)

none_claimable : (s : StreamKey) (st : State) (ms : List Mark) → All (λ m. same_stream m.stream s ≡ false) ms → filter (is_claimable s st) ms ≡ []
none_claimable s st ms others =
    none_pass (is_claimable s st) ms (All-weaker (λ (m : Mark). same_stream m.stream s ≡ false) (λ (m : Mark). is_claimable s st m ≡ false)
    (λ m other. ap (λ b. (b && is_some m.reason) && (count_outside s m.chunk st.rows == 0)) other) ms others)

abbrev pub HasNone : StreamKey → State → Type 0
HasNone s st = All (λ r. same_stream r.stream s ≡ false) st.rows × All (λ m. same_stream m.stream s ≡ false) st.marks

claims_left : (s : StreamKey) (a b : State) → HasNone s b → claimable_count s (beside a b) ≡ claimable_count s a
claims_left s a b none =
    let same : (m : Mark) → is_claimable s (beside a b) m ≡ is_claimable s a m =
    λ m. ap (λ l. (same_stream m.stream s && is_some m.reason) && (length l == 0))
    (filter-append (outside s m.chunk) a.rows b.rows ∙ ap (λ l. filter (outside s m.chunk) a.rows ++ l) (none_outside s m.chunk b.rows none.0) ∙ append-nil (filter (outside s m.chunk) a.rows)) in
    ap length (filter-append (is_claimable s (beside a b)) a.marks b.marks
    ∙ ap (λ l. filter (is_claimable s (beside a b)) a.marks ++ l) (none_claimable s (beside a b) b.marks none.1)
    ∙ append-nil (filter (is_claimable s (beside a b)) a.marks)
    ∙ filter_agree (is_claimable s (beside a b)) (is_claimable s a) same a.marks)

-- in whatever order the rows and marks stand
pub claims_same : (s : StreamKey) (a b : State) → IsSame a b → claimable_count s a ≡ claimable_count s b
claims_same s a b same =
    ap length (filter_agree (is_claimable s a) (is_claimable s b)
    (λ m. ap (λ n. (same_stream m.stream s && is_some m.reason) && (n == 0)) (reordered (outside s m.chunk) a.rows b.rows same.rows)) a.marks)
    ∙ reordered (is_claimable s b) a.marks b.marks same.marks

claims_right : (s : StreamKey) (a b : State) → HasNone s a → claimable_count s (beside a b) ≡ claimable_count s b
claims_right s a b none = claims_same s (beside a b) (beside b a) (beside_comm a b) ∙ claims_left s b a none

-- a stream has of the whole what it has of its part
abbrev pub ClaimsOwn : State → Stream → Type 0
ClaimsOwn st o = claimable_count (key_of o) (part_of o) ≡ claimable_count (key_of o) st

pub claims_apart : (sts : List Stream) → AreDistinct sts → All (ClaimsOwn (whole sts)) sts
claims_apart [] distinct = All-nil (ClaimsOwn empty_state)
claims_apart (st ∷ sts) distinct =
    All-cons (ClaimsOwn (whole (st ∷ sts))) st sts
    (sym (claims_left (key_of st) (part_of st) (whole sts) (others_rows (key_of st) sts distinct.0, others_marks (key_of st) sts distinct.0)))
    (later sts distinct.0 (claims_apart sts distinct.1)) where
      later : (os : List Stream) → AreOthers (key_of st) os → All (ClaimsOwn (whole sts)) os → All (ClaimsOwn (whole (st ∷ sts))) os
      later [] others own = All-nil (ClaimsOwn (whole (st ∷ sts)))
      later (o ∷ os) others own =
          let apart_from : same_stream (key_of st) (key_of o) ≡ false = same_flip (key_of o) (key_of st) (All-head (IsOther (key_of st)) o os others) in
          All-cons (ClaimsOwn (whole (st ∷ sts))) o os
          (All-head (ClaimsOwn (whole sts)) o os own
          ∙ sym (claims_right (key_of o) (part_of st) (whole sts) (
            all_rows (key_of st) (λ r. same_stream r.stream (key_of o) ≡ false) (λ first block place e. apart_from) st.chunks,
            all_marks (key_of st) (λ m. same_stream m.stream (key_of o) ≡ false) (λ c. apart_from) st.chunks,
          )))
          (later os (All-tail (IsOther (key_of st)) o os others) (All-tail (ClaimsOwn (whole sts)) o os own))

-- ---- operations

ops_told : (shard : ℕ) (which : Sealing) (rules : List ℕ → Rules) (number : ℕ) (sts news : List Stream) (st : State) → AreSealed which rules sts news → All (ClaimsOwn st) news
    → ops_after shard which rules number sts ≡ ops_from shard number (map key_of news) st
ops_told shard which rules number [] [] st sealed own = refl
ops_told shard which rules number [] (new ∷ news) st sealed own = absurd sealed
ops_told shard which rules number (old ∷ olds) [] st sealed own = absurd sealed
ops_told shard which rules number (old ∷ olds) (new ∷ news) st sealed own =
    let waiting = sym sealed.0.waiting ∙ All-head (ClaimsOwn st) new news own in
    let rest = ops_told shard which rules (number + 1) olds news st sealed.1 (All-tail (ClaimsOwn st) new news own) in
    λ i. replicate (waiting i) (op shard number) ++ rest i

pub ops_are : (shard : ℕ) (which : Sealing) (rules : List ℕ → Rules) (sts news : List Stream) → AreDistinct news → AreSealed which rules sts news
    → ops_after shard which rules 0 sts ≡ ops_from shard 0 (map key_of news) (whole news)
ops_are shard which rules sts news distinct sealed = ops_told shard which rules 0 sts news (whole news) sealed (claims_apart news distinct)

pub ops_same : (shard number : ℕ) (ss : List StreamKey) (a b : State) → IsSame a b → ops_from shard number ss a ≡ ops_from shard number ss b
ops_same shard number [] a b same = refl
ops_same shard number (s ∷ ss) a b same = λ i. replicate (claims_same s a b same i) (op shard number) ++ ops_same shard (number + 1) ss a b same i

-- ---- one stream after another

more_sealed : (which : Sealing) (rules : List ℕ → Rules) (done sealed : List Stream) (st now : Stream) → AreSealed which rules done sealed → IsSealed which (rules st.tenant) st now
    → AreSealed which rules (done ++ st ∷ []) (sealed ++ now ∷ [])
more_sealed which rules [] [] st now h one = (one, tt)
more_sealed which rules [] (x ∷ sealed) st now h one = absurd h
more_sealed which rules (d ∷ done) [] st now h one = absurd h
more_sealed which rules (d ∷ done) (x ∷ sealed) st now h one = (h.0, more_sealed which rules done sealed st now h.1 one)

-- what is the same of each is the same of all
map_sealed : {Y : Type 0} (f : Stream → Y) (which : Sealing) (rules : List ℕ → Rules) → ((own : Rules) (st now : Stream) → IsSealed which own st now → f now ≡ f st)
    → (sts news : List Stream) → AreSealed which rules sts news → map f news ≡ map f sts
map_sealed f which rules same [] [] h = refl
map_sealed f which rules same [] (new ∷ news) h = absurd h
map_sealed f which rules same (st ∷ sts) [] h = absurd h
map_sealed f which rules same (st ∷ sts) (new ∷ news) h = λ i. same (rules st.tenant) st new h.0 i ∷ map_sealed f which rules same sts news h.1 i

pub keys_sealed : (which : Sealing) (rules : List ℕ → Rules) (sts news : List Stream) → AreSealed which rules sts news → map key_of news ≡ map key_of sts
keys_sealed which rules = map_sealed key_of which rules (λ own st now h i. record { tenant = h.tenant i; name = canonical_of (h.labels i) })

pub slots_sealed : (which : Sealing) (rules : List ℕ → Rules) (sts news : List Stream) → AreSealed which rules sts news → map slots_of news ≡ map slots_of sts
slots_sealed which rules = map_sealed slots_of which rules (λ own st now h. h.claimed)

pub same_length : (which : Sealing) (rules : List ℕ → Rules) (done sealed : List Stream) → AreSealed which rules done sealed → length sealed ≡ length done
same_length which rules done sealed h = sym (length-map sealed key_of) ∙ ap length (keys_sealed which rules done sealed h) ∙ length-map done key_of

module _ (which : Sealing) (rules : List ℕ → Rules) (number : ℕ) (olds mids : List Stream) (to : AreSealedTo which rules number olds mids) where
  pub as_many : length mids ≡ length olds
  as_many =
      let same = same_length which rules to.done to.sealed to.each in
      let before = ap length to.was ∙ length-append to.done to.left in
      let after = ap length to.is ∙ length-append to.sealed to.left in
      omega (arith, same, before, after)

  pub one_further : (news : List Stream) → number < length olds
      → ((front : List Stream) (st : Stream) (back : List Stream) → mids ≡ front ++ st ∷ back → length front ≡ number → SealsOne which rules front st back news)
      → AreSealedTo which rules (number + 1) olds news
  one_further news below one = go to.left to.was to.is where
    go : (left : List Stream) → olds ≡ to.done ++ left → mids ≡ to.sealed ++ left → AreSealedTo which rules (number + 1) olds news
    go [] was is =
        let long = ap length was ∙ length-append to.done [] in
        let at = to.at in
        absurd (omega (arith, long, below, at))
    go (st ∷ back) was is =
        let at = to.at in
        let done = one to.sealed st back is (same_length which rules to.done to.sealed to.each ∙ at) in
        record {
          done = to.done ++ st ∷ [];
          left = back;
          sealed = to.sealed ++ done.now ∷ [];
          was = was ∙ sym (append_assoc to.done (st ∷ []) back);
          is = done.is ∙ sym (append_assoc to.sealed (done.now ∷ []) back);
          at = length-append to.done (st ∷ []) ∙ ap (λ n. n + 1) at;
          each = more_sealed which rules to.done to.sealed st done.now to.each done.sealed;
        }

-- ---- the order of rows and marks

abbrev pub MarkedBeside : Type 0
MarkedBeside = (a b : State) → All (λ m. All (λ k. is_mark_of m.stream m.chunk k ≡ false) b.marks) a.marks → IsMarked a → IsMarked b → IsMarked (beside a b)

pub whole_marked : IsMarked empty_state → MarkedBeside → (sts : List Stream) → AreDistinct sts → All IsKept sts → IsMarked (whole sts)
whole_marked empty law [] distinct kept = empty
whole_marked empty law (st ∷ sts) distinct kept =
    law (part_of st) (whole sts)
    (all_marks (key_of st) (λ m. All (λ k. is_mark_of m.stream m.chunk k ≡ false) (whole sts).marks)
    (λ c. All-weaker (λ (k : Mark). same_stream k.stream (key_of st) ≡ false) (λ (k : Mark). is_mark_of (key_of st) c.first k ≡ false)
    (λ k other. ap (λ b. b && (k.chunk == c.first)) other) (whole sts).marks (others_marks (key_of st) sts distinct.0)) st.chunks)
    (All-head IsKept st sts kept).marked
    (whole_marked empty law sts distinct.1 (All-tail IsKept st sts kept))

pub sealed_same : ((rules : List ℕ → Rules) (now : ℕ) (a b : State) → IsSame a b → OneMarkEach a.marks → IsSame (swept rules now a) (swept rules now b))
    → ((why : Mark → Option SealReason) (a b : State) → IsSame a b → OneMarkEach a.marks → IsSame (sealed_by why a) (sealed_by why b))
    → (which : Sealing) (rules : List ℕ → Rules) (a b : State) → IsSame a b → OneMarkEach a.marks → IsSame (sealed_of which rules a) (sealed_of which rules b)
sealed_same sweeps seals (Due now) rules a b same one = sweeps rules now a b same one
sealed_same sweeps seals Forced rules a b same one = seals force a b same one
