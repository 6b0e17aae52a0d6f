-- A shard's state as its streams' parts side by side.
use Rattle.std.proofs.Common.{◌≡◌, List, [], ◌∷◌, ◌++◌, length, true, false, ◌&&◌, None, ap, sym, ◌∙◌, All, is_none}
use Rattle.std.proofs.lemmas.List.Elements.{All-append, All-head, All-nil, All-tail, All-weaker}
use Rattle.ing_rows.specs.Rows.{StreamKey, Row, Mark, State, IsSame, empty_state, same_stream, live_streams}
use Rattle.ing_rows.specs.Facts.{facts_of}
use Rattle.ing_rows.specs.Sound.{IsSound}
use Rattle.ing_rows.specs.Steps.{is_growing}
use Rattle.ing_rows.specs.Turns.{beside}
use Rattle.ing_shard.specs.OneStream.{Stream}
use Rattle.ing_shard.specs.Streams.{key_of, part_of, whole, facts_kept, with_live, IsKept, AreDistinct}
use Rattle.ing_shard.proofs.Alike.{same_refl, same_trans, beside_right, beside_front}
use Rattle.ing_shard.proofs.Parts.{all_rows, all_marks}

-- one stream comes to the front
pub whole_front : (front : List Stream) (st : Stream) (back : List Stream) → IsSame (whole (front ++ st ∷ back)) (beside (part_of st) (whole (front ++ back)))
whole_front [] st back = same_refl (beside (part_of st) (whole back))
whole_front (f ∷ front) st back =
    same_trans (beside (part_of f) (whole (front ++ st ∷ back))) (beside (part_of f) (beside (part_of st) (whole (front ++ back)))) (beside (part_of st) (beside (part_of f) (whole (front ++ back))))
    (beside_right (part_of f) (whole (front ++ st ∷ back)) (beside (part_of st) (whole (front ++ back))) (whole_front front st back))
    (beside_front (part_of f) (part_of st) (whole (front ++ back)))

-- ---- other streams

abbrev pub IsOther : StreamKey → Stream → Type 0
IsOther s st = same_stream (key_of st) s ≡ false

abbrev pub AreOthers : StreamKey → List Stream → Type 0
AreOthers s sts = All (IsOther s) sts

pub others_rows : (s : StreamKey) (sts : List Stream) → AreOthers s sts → All (λ r. same_stream r.stream s ≡ false) (whole sts).rows
others_rows s [] h = All-nil (λ (r : Row). same_stream r.stream s ≡ false)
others_rows s (st ∷ sts) h =
    let here : IsOther s st = All-head (IsOther s) st sts h in
    All-append (λ (r : Row). same_stream r.stream s ≡ false) (part_of st).rows (whole sts).rows
    (all_rows (key_of st) (λ r. same_stream r.stream s ≡ false) (λ first block place e. here) st.chunks)
    (others_rows s sts (All-tail (IsOther s) st sts h))

pub others_marks : (s : StreamKey) (sts : List Stream) → AreOthers s sts → All (λ m. same_stream m.stream s ≡ false) (whole sts).marks
others_marks s [] h = All-nil (λ (m : Mark). same_stream m.stream s ≡ false)
others_marks s (st ∷ sts) h =
    let here : IsOther s st = All-head (IsOther s) st sts h in
    All-append (λ (m : Mark). same_stream m.stream s ≡ false) (part_of st).marks (whole sts).marks
    (all_marks (key_of st) (λ m. same_stream m.stream s ≡ false) (λ c. here) st.chunks)
    (others_marks s sts (All-tail (IsOther s) st sts h))

pub others_growing : (s : StreamKey) (ms : List Mark) → All (λ m. same_stream m.stream s ≡ false) ms → All (λ m. is_growing s m ≡ false) ms
others_growing s ms h = All-weaker (λ (m : Mark). same_stream m.stream s ≡ false) (λ (m : Mark). is_growing s m ≡ false) (λ m e. ap (λ b. b && is_none m.reason) e) ms h

-- ---- soundness

abbrev pub SoundBeside : Type 0
SoundBeside =
    (a b : State) → All (λ r. All (λ q. same_stream q.stream r.stream ≡ false) b.rows) a.rows
    → All (λ m. is_none m.reason ≡ true → All (λ k. is_growing m.stream k ≡ false) b.marks) a.marks → IsSound a → IsSound b → IsSound (beside a b)

pub whole_sound : SoundBeside → IsSound empty_state → (sts : List Stream) → AreDistinct sts → All IsKept sts → IsSound (whole sts)
whole_sound law empty [] distinct kept = empty
whole_sound law empty (st ∷ sts) distinct kept =
    let s = key_of st in
    let rows = others_rows s sts distinct.0 in
    let marks = others_growing s (whole sts).marks (others_marks s sts distinct.0) in
    law (part_of st) (whole sts)
    (all_rows s (λ r. All (λ q. same_stream q.stream r.stream ≡ false) (whole sts).rows) (λ first block place e. rows) st.chunks)
    (all_marks s (λ m. is_none m.reason ≡ true → All (λ k. is_growing m.stream k ≡ false) (whole sts).marks) (λ c h. marks) st.chunks)
    (All-head IsKept st sts kept).sound
    (whole_sound law empty sts distinct.1 (All-tail IsKept st sts kept))

-- ---- the facts of one of its streams

abbrev pub FactsGo : Type 0
FactsGo = (a b : State) (s : StreamKey) → IsSound a → IsSame a b → facts_of a.rows s ≡ facts_of b.rows s

abbrev pub FactsBeside : Type 0
FactsBeside =
    (a b : State) (s : StreamKey) → All (λ r. same_stream r.stream s ≡ false) b.rows
    → facts_of (a.rows ++ b.rows) s ≡ record (facts_of a.rows s) { live = length (live_streams (a.rows ++ b.rows) s.tenant) }

-- they are what is kept of it, with how many are live of its tenant's
pub whole_facts : FactsGo → FactsBeside → (front : List Stream) (st : Stream) (back : List Stream) → IsSound (whole (front ++ st ∷ back)) → IsKept st → AreOthers (key_of st) (front ++ back)
    → facts_of (whole (front ++ st ∷ back)).rows (key_of st) ≡ with_live (length (live_streams (whole (front ++ st ∷ back)).rows st.tenant)) (facts_kept st)
whole_facts go law front st back sound kept others =
    let s = key_of st in
    let part = part_of st in
    let rest = whole (front ++ back) in
    let all = whole (front ++ st ∷ back) in
    let moved : facts_of all.rows s ≡ facts_of (part.rows ++ rest.rows) s = go all (beside part rest) s sound (whole_front front st back) in
    let split : facts_of (part.rows ++ rest.rows) s ≡ record (facts_of part.rows s) { live = length (live_streams (part.rows ++ rest.rows) s.tenant) } = law part rest s (others_rows s (front ++ back) others) in
    moved ∙ split
    ∙ ap (λ n. with_live n (facts_of part.rows s)) (sym (ap (λ f. f.live) (moved ∙ split)))
    ∙ ap (with_live (length (live_streams all.rows st.tenant))) kept.facts

-- the facts of a stream that is not listed
pub unlisted_facts : FactsBeside → (s : StreamKey) (sts : List Stream) → AreOthers s sts
    → facts_of (whole sts).rows s ≡ record { count = 0; greatest = 0; last = None; is_live = false; live = length (live_streams (whole sts).rows s.tenant) }
unlisted_facts law s sts others = law empty_state (whole sts) s (others_rows s sts others)
