-- What was told of each shard, from one stream of a push to the next.
use Rattle.std.proofs.Common.{◌≡◌, ◌≢◌, ◌≤◌, Bool, ℕ, zero, suc, ◌+◌, List, [], ◌∷◌, ◌++◌, refl, sym, ap, subst, ◌∙◌, arith, Ok, Err, inl, inr, ⊎_elim}
use Rattle.std.specs.Prelude.{All, None, Option, Result, Some, false, is_some, slice_get, sum_by, true}
use Rattle.std.proofs.lemmas.List.Sums.{sum_by-append}
use Rattle.serde_json.specs.Data.{Data}
use Rattle.ing_labels.specs.Labels.{LabelMap, labels_of}
use Rattle.ing_labels.specs.declared.fault.LabelFault.{LabelFault}
use Rattle.ing_rows.specs.declared.entry.Entry.{Entry}
use Rattle.ing_limits.specs.Settings.{StoreSettings}
use Rattle.ing_limits.specs.Ranges.{rules_for}
use Rattle.ing_tally.specs.Books.{ShareState, no_book}
use Rattle.ing_node.specs.Tallies.{amount_at}
use Rattle.ing_commands.specs.PushCommands.{StreamEntries}
use Rattle.ing_node.specs.AnswerFaults.{IsCaused}
use Rattle.ing_node.specs.declared.query.AnswerFault.{AnswerFault}
use Rattle.ing_session.specs.QueryFault.TheVariants as queries
use Rattle.ing_node.specs.declared.query.AnswerFault.TheVariants.{Node, Query}
use Rattle.ing_session.specs.Faults.{limits_of}
use Rattle.ing_session.specs.Causes.{HaveCause}
use Rattle.ing_session.proofs.CausesLaws.{one_failure, same_count}
use Rattle.ing_lanes.proofs.HeldLaws.{same_or_other}
use Rattle.ing_node.specs.Diaries.{PusherState, notes_kept, with_notes}
use Rattle.ing_node.specs.Notes.{Note}
use Rattle.ing_lanes.specs.ByLane.{Entries, Measure, Told, Stays, Raises, PushesAs, PushesStream, PushesStreams, Failed, Weight, failed_of, told_as}

pub stays_refl : (a : Told) → Stays a a
stays_refl a = λ i. refl

pub stays_trans : (a b c : Told) → Stays a b → Stays b c → Stays a c
stays_trans a b c h k = λ i. k i ∙ h i

-- from what is the same
raises_from : (settings : StoreSettings) (shard n : ℕ) (notes : List Note) (a b c : Told) → Stays a b → Raises settings shard n notes a c → Raises settings shard n notes b c
raises_from settings shard n notes a b c same r = record {
  here = r.here ∙ ap (λ k. k + n) (sym (same (Entries shard)));
  others = λ i other. r.others i other ∙ sym (same (Entries i));
  which = λ wants weight. r.which wants weight ∙ ap (λ k. k + sum_by weight notes) (sym (same (Weight weight)));
  unsaid = λ none weight. r.unsaid none weight ∙ sym (same (Weight weight));
}

stays_from : (a b c : Told) → Stays a b → Stays a c → Stays b c
stays_from a b c same stays = λ i. stays i ∙ sym (same i)

module _ (logs : Bool) (settings : StoreSettings) (tenant : List ℕ) (now : ℕ) where
  as_from : (entries : List Entry) (a b c : Told) (reply : Data) (read : Result LabelMap LabelFault) → Stays a b → PushesAs logs settings tenant now entries a c reply read
      → PushesAs logs settings tenant now entries b c reply read
  as_from entries a b c reply (Err fault) same (told, left) = (told, stays_from a b c same left)
  as_from entries a b c reply (Ok labels) same (inl judged) =
      inl (record {
        verdicts = judged.verdicts;
        judged = judged.judged;
        few = judged.few;
        durable = judged.durable;
        lasts = judged.lasts;
        told = judged.told;
        raised = raises_from settings _ _ _ a b c same judged.raised;
      })
  as_from entries a b c reply (Ok labels) same (inr refused) =
      inr (record {
        why = refused.why;
        may_be = refused.may_be;
        no_memory = refused.no_memory;
        told = refused.told;
        left = stays_from a b c same refused.left;
      })

  stream_from : (s : StreamEntries) (a b c : Told) (reply : Data) → Stays a b → PushesStream logs settings tenant now s a c reply → PushesStream logs settings tenant now s b c reply
  stream_from s a b c reply same pushed = as_from s.entries a b c reply (labels_of (limits_of (rules_for settings tenant)) s.labels) same pushed

  pub streams_from : (ss : List StreamEntries) (replies : List Data) (a b c : Told) → Stays a b → PushesStreams logs settings tenant now ss replies a c → PushesStreams logs settings tenant now ss replies b c
  streams_from [] [] a b c same pushed = stays_from a b c same pushed
  streams_from [] (r ∷ rs) a b c same pushed = absurd pushed
  streams_from (s ∷ ss) [] a b c same pushed = absurd pushed
  streams_from (s ∷ ss) (r ∷ rs) a b c same (mid, this, others) = (mid, stream_from s a b mid r same this, others)

  -- one more stream
  pub streams_more : (ss : List StreamEntries) (replies : List Data) (s : StreamEntries) (reply : Data) (a b c : Told) → PushesStreams logs settings tenant now ss replies a b
      → PushesStream logs settings tenant now s b c reply → PushesStreams logs settings tenant now (ss ++ s ∷ []) (replies ++ reply ∷ []) a c
  streams_more [] [] s reply a b c same this = (c, stream_from s b a c reply (λ i. sym (same i)) this, λ i. refl)
  streams_more [] (r ∷ rs) s reply a b c before this = absurd before
  streams_more (x ∷ ss) [] s reply a b c before this = absurd before
  streams_more (x ∷ ss) (r ∷ rs) s reply a b c (mid, first, others) this = (mid, first, streams_more ss rs s reply mid b c others this)

-- ---- the shares of a pusher

-- a share that stays is of as much
pub amount_same : (old new : List ShareState) (i : ℕ) → slice_get new i ≡ slice_get old i → amount_at i new ≡ amount_at i old
amount_same [] [] i same = refl
amount_same [] (s ∷ ss) zero same = absurd cc
amount_same [] (s ∷ ss) (suc i) same = amount_same [] ss i same
amount_same (s ∷ ss) [] zero same = absurd cc
amount_same (s ∷ ss) [] (suc i) same = amount_same ss [] i same
amount_same (s ∷ ss) (t ∷ ts) zero same = let is : t ≡ s = cc in ap (λ (u : ShareState). u.amount) is
amount_same (s ∷ ss) (t ∷ ts) (suc i) same = amount_same ss ts i same

-- shares of nothing
none_there : (ss : List ShareState) → All (λ s. s.amount ≡ 0) ss → (i : ℕ) → amount_at i ss ≡ 0
none_there [] all i = refl
none_there (s ∷ ss) all zero = all 0 (record { book = no_book; amount = 0 }) (omega arith)
none_there (s ∷ ss) all (suc i) = none_there ss (λ k d below. all (suc k) d (omega (arith, below))) i

-- a pusher that was told of nothing
pub none_told : (p : PusherState) → All (λ s. s.amount ≡ 0) p.told → notes_kept p.diary ≡ [] → (measure : Measure) → told_as p measure ≡ 0
none_told p all empty (Entries i) = none_there p.told all i
none_told p all empty (Weight weight) = ap (sum_by weight) empty

-- ---- a diary

-- what is noted weighs as much more
pub notes_weigh : (d e : Option (List Note)) (more : List Note) (weight : Note → ℕ) → is_some d ≡ true → e ≡ with_notes more d
    → sum_by weight (notes_kept e) ≡ sum_by weight (notes_kept d) + sum_by weight more
notes_weigh None e more weight kept noted = absurd cc
notes_weigh (Some ns) e more weight kept noted = ap (λ o. sum_by weight (notes_kept o)) noted ∙ sum_by-append weight ns more

-- and nothing where none is kept
pub none_weighs : (d e : Option (List Note)) (more : List Note) (weight : Note → ℕ) → is_some d ≡ false → e ≡ with_notes more d
    → sum_by weight (notes_kept e) ≡ sum_by weight (notes_kept d)
none_weighs None e more weight kept noted = ap (λ o. sum_by weight (notes_kept o)) noted
none_weighs (Some ns) e more weight kept noted = absurd cc

weighs_more : (d e : Option (List Note)) (more : List Note) (weight : Note → ℕ) → e ≡ with_notes more d → sum_by weight (notes_kept d) ≤ sum_by weight (notes_kept e)
weighs_more None e more weight noted = let same = ap (λ o. sum_by weight (notes_kept o)) noted in omega (arith, same)
weighs_more (Some ns) e more weight noted = let all = ap (λ o. sum_by weight (notes_kept o)) noted ∙ sum_by-append weight ns more in omega (arith, all)

-- one share rises, and the others stay
amounts_rise : (old new : List ShareState) (shard n : ℕ) → amount_at shard new ≡ amount_at shard old + n → ((i : ℕ) → i ≢ shard → slice_get new i ≡ slice_get old i)
    → (i : ℕ) → amount_at i old ≤ amount_at i new
amounts_rise old new shard n here others i =
    ⊎_elim
    (λ same. subst (λ j. amount_at j old ≤ amount_at j new) (sym same) (omega (arith, here)))
    (λ other. (let same = amount_same old new i (others i other) in omega (arith, same)))
    (same_or_other i shard)

-- so does all that a pusher was told
pub told_rises : (p q : PusherState) (shard n : ℕ) (more : List Note) → amount_at shard q.told ≡ amount_at shard p.told + n → ((i : ℕ) → i ≢ shard → slice_get q.told i ≡ slice_get p.told i)
    → q.diary ≡ with_notes more p.diary → (measure : Measure) → told_as p measure ≤ told_as q measure
told_rises p q shard n more here others noted (Entries i) = amounts_rise p.told q.told shard n here others i
told_rises p q shard n more here others noted (Weight weight) = weighs_more p.diary q.diary more weight noted

-- a query that was not answered
pub failed_causes : (T : Type 0) (before after : ℕ) (fault : AnswerFault) → IsCaused {T = T} before after (Err fault) → HaveCause before after (failed_of (Failed fault))
failed_causes T before after (Node fault) counted = same_count before after counted
failed_causes T before after (Query queries.NoMemory) counted = same_count before after counted
failed_causes T before after (Query (queries.StoreFault key)) counted = one_failure before after counted.0 counted.1
failed_causes T before after (Query (queries.BadObject key)) counted = same_count before after counted
