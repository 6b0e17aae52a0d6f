-- What a push to one stream does to the whole.
use Rattle.std.proofs.Common.{◌≡◌, ℕ, ◌<◌, ◌≤◌, Bool, List, ◌∷◌, ◌++◌, length, true, false, ap, ◌∙◌, subst, filter}
use Rattle.std.proofs.lemmas.List.Elements.{All-weaker}
use Rattle.ing_rows.specs.declared.entry.Entry.{Entry}
use Rattle.ing_rows.specs.declared.rules.Rules.{Rules}
use Rattle.ing_rows.specs.Rows.{StreamKey, Row, Mark, State, IsSame, same_stream, count_of}
use Rattle.ing_rows.specs.Sound.{IsSound}
use Rattle.ing_rows.specs.Steps.{is_growing, chunk_at, accepted_in_turn}
use Rattle.ing_rows.specs.Turns.{beside, IsOlder}
use Rattle.ing_shard.specs.OneStream.{Stream}
use Rattle.ing_shard.specs.Streams.{key_of, part_of, whole, IsKept}
use Rattle.ing_shard.proofs.Alike.{same_sym, same_trans, beside_left}
use Rattle.ing_shard.proofs.WholeLaws.{AreOthers, FactsBeside, whole_front, others_rows, others_marks, others_growing}

-- ---- what stands beside a stream

clash : {X : Type 0} (b : Bool) → b ≡ false → b ≡ true → X
clash b fails holds = absurd (cc)

others_older : (s : StreamKey) (first : ℕ) (sts : List Stream) → AreOthers s sts → IsOlder s first (whole sts)
others_older s first sts others =
    record {
      rows = All-weaker (λ (r : Row). same_stream r.stream s ≡ false) (λ (r : Row). same_stream r.stream s ≡ true → r.chunk < first) (λ r other. clash (same_stream r.stream s) other) (whole sts).rows (others_rows s sts others);
      marks = All-weaker (λ (m : Mark). same_stream m.stream s ≡ false) (λ (m : Mark). same_stream m.stream s ≡ true → m.chunk < first) (λ m other. clash (same_stream m.stream s) other) (whole sts).marks (others_marks s sts others);
      sealed = others_growing s (whole sts).marks (others_marks s sts others);
    }

-- accepting entries of one stream changes its part alone
pub accepted_whole : (rules : Rules) (now : ℕ) (es : List Entry)
    → FactsBeside
    → ((s : StreamKey) (n : ℕ) (mine others : State) → length (filter (is_growing s) mine.marks) ≤ 1 → chunk_at s n mine.marks ≤ n → IsOlder s (chunk_at s n mine.marks) others
    → accepted_in_turn n rules s now es (beside mine others) ≡ beside (accepted_in_turn n rules s now es mine) others)
    → ((s : StreamKey) (a b : State) → IsSound a → IsSame a b → IsSame (accepted_in_turn (count_of a.rows s) rules s now es a) (accepted_in_turn (count_of b.rows s) rules s now es b))
    → ((a b : State) → IsSound a → IsSame a b → IsSound b)
    → (front : List Stream) (st new : Stream) (back : List Stream) → IsSound (whole (front ++ st ∷ back)) → IsKept st → chunk_at (key_of st) st.chunks.memory.next (part_of st).marks ≤ st.chunks.memory.next → AreOthers (key_of st) (front ++ back)
    → IsSame (part_of new) (accepted_in_turn st.chunks.memory.next rules (key_of st) now es (part_of st))
    → IsSame (whole (front ++ new ∷ back)) (accepted_in_turn (count_of (whole (front ++ st ∷ back)).rows (key_of st)) rules (key_of st) now es (whole (front ++ st ∷ back)))
accepted_whole rules now es facts apart go keeps front st new back sound kept grows others same =
    let s = key_of st in
    let n = st.chunks.memory.next in
    let part = part_of st in
    let rest = whole (front ++ back) in
    let all = whole (front ++ st ∷ back) in
    let split = whole_front front st back in
    let taken : State = accepted_in_turn n rules s now es part in
    let counted : count_of (part.rows ++ rest.rows) s ≡ n = ap (λ f. f.count) (facts part rest s (others_rows s (front ++ back) others)) ∙ ap (λ f. f.count) kept.facts in
    let apart_now : accepted_in_turn n rules s now es (beside part rest) ≡ beside taken rest =
    apart s n part rest (kept.sound.one_growing s) grows (others_older s (chunk_at s n part.marks) (front ++ back) others) in
    let gone : IsSame (accepted_in_turn (count_of (part.rows ++ rest.rows) s) rules s now es (beside part rest)) (accepted_in_turn (count_of all.rows s) rules s now es all) =
    go s (beside part rest) all (keeps all (beside part rest) sound split) (same_sym all (beside part rest) split) in
    let here : IsSame (beside taken rest) (accepted_in_turn (count_of all.rows s) rules s now es all) =
    subst (λ x. IsSame x (accepted_in_turn (count_of all.rows s) rules s now es all)) apart_now
    (subst (λ k. IsSame (accepted_in_turn k rules s now es (beside part rest)) (accepted_in_turn (count_of all.rows s) rules s now es all)) counted gone) in
    same_trans (whole (front ++ new ∷ back)) (beside (part_of new) rest) (accepted_in_turn (count_of all.rows s) rules s now es all) (whole_front front new back)
    (same_trans (beside (part_of new) rest) (beside taken rest) (accepted_in_turn (count_of all.rows s) rules s now es all) (beside_left (part_of new) taken rest same) here)
