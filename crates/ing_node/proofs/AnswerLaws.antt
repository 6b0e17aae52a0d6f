-- What is wanted of several snapshots stands for what is wanted of the rows of their shards.
use Rattle.std.proofs.Common.{◌≡◌, ◌∙◌, List, [], ◌∷◌, ◌++◌, ℕ, Bool, ap, filter, length, map, refl, subst, sym}
use Rattle.std.specs.Prelude.{All, IsPermutation}
use Rattle.std.specs.List.{flat_map}
use Rattle.std.proofs.lemmas.List.Concat.{flat_map-cons}
use Rattle.std.proofs.lemmas.List.Elements.{All-head, All-tail}
use Rattle.std.proofs.lemmas.List.Sorted.{IsPermutation-refl, IsPermutation-append_comm}
use Rattle.ing_labels.specs.Selectors.{Match}
use Rattle.ing_rows.specs.Rows.{Row, StreamKey}
use Rattle.ing_rows.specs.declared.order.Order.{Order}
use Rattle.ing_diary.specs.Found.{Found}
use Rattle.ing_diary.specs.Questions.{Question}
use Rattle.ing_diary.specs.Snapshot.{Snapshot}
use Rattle.ing_diary.specs.PartAnswers.{StandFor}
use Rattle.ing_diary.specs.Parts.{found_at, wanted, within}
use Rattle.ing_diary.specs.Answers.{wanted_in}
use Rattle.ing_begun.specs.Picked.{Picks}
use Rattle.ing_node.specs.Queries.{IsAskedOf, wanted_of}

-- what is wanted of a snapshot stands for what is wanted of its shard's rows
pub one_stands : {R : Type 0} (tenant : List ℕ) (ms : List Match) (q : Question) (s : Snapshot R) (asked : IsAskedOf tenant ms q s) (picked : StreamKey → Bool) → Picks tenant ms picked
    → StandFor q.order q.limit (wanted s) (wanted_of picked q asked.rows)
one_stands tenant ms q s asked picked picks =
    let all = map found_at (filter (λ (r : Row). picked r.stream) asked.rows) in
    subst (λ o. StandFor o q.limit (wanted s) (within q all)) asked.order
    (subst (λ n. StandFor s.best.order n (wanted s) (within q all)) asked.limit
    (subst (λ l. StandFor s.best.order s.best.limit (wanted s) l) (λ i. filter (λ f. asked.range f i) all) (asked.has picked picks).stand))

-- the rows of the shards of several snapshots
pub record RowsOf {R : Type 0} (tenant : List ℕ) (ms : List Match) (q : Question) (ss : List (Snapshot R)) : Type 0 where
  pub shards : List (List Row)
  pub counts : map (λ s. s.front) ss ≡ map length shards
  pub stand : (picked : StreamKey → Bool) → Picks tenant ms picked → StandFor q.order q.limit (wanted_in ss) (flat_map (wanted_of picked q) shards)

module _ (alike : (order : Order) (limit : ℕ) (some all : List Found) → IsPermutation some all → StandFor order limit some all)
    (through : (order : Order) (limit : ℕ) (some mid all : List Found) → StandFor order limit some mid → StandFor order limit mid all → StandFor order limit some all)
    (beside : (order : Order) (limit : ℕ) (some all others : List Found) → StandFor order limit some all → StandFor order limit (some ++ others) (all ++ others)) where
  -- some stand for all, and others for others
  both_stand : (order : Order) (limit : ℕ) (a all b others : List Found) → StandFor order limit a all → StandFor order limit b others → StandFor order limit (a ++ b) (all ++ others)
  both_stand order limit a all b others one other =
      through order limit (a ++ b) (all ++ b) (all ++ others) (beside order limit a all b one)
      (through order limit (all ++ b) (b ++ all) (all ++ others) (alike order limit (all ++ b) (b ++ all) (IsPermutation-append_comm all b))
      (through order limit (b ++ all) (others ++ all) (all ++ others) (beside order limit b others all other)
      (alike order limit (others ++ all) (all ++ others) (IsPermutation-append_comm others all))))

  pub rows_of : {R : Type 0} (tenant : List ℕ) (ms : List Match) (q : Question) (ss : List (Snapshot R)) → All (IsAskedOf tenant ms q) ss → RowsOf tenant ms q ss
  rows_of tenant ms q [] asked = record {
    shards = [];
    counts = refl;
    stand = λ picked picks. alike q.order q.limit [] [] (IsPermutation-refl []);
  }
  rows_of {R = R} tenant ms q (s ∷ ss) asked =
      let one = All-head (λ (x : Snapshot R). IsAskedOf tenant ms q x) s ss asked in
      let rest = rows_of tenant ms q ss (All-tail (λ (x : Snapshot R). IsAskedOf tenant ms q x) s ss asked) in
      record {
        shards = one.rows ∷ rest.shards;
        counts = ap (λ n. n ∷ map (λ (x : Snapshot R). x.front) ss) one.count ∙ ap (λ ns. length one.rows ∷ ns) rest.counts;
        stand = λ picked picks.
            subst (λ l. StandFor q.order q.limit l (flat_map (wanted_of picked q) (one.rows ∷ rest.shards))) (sym (flat_map-cons wanted s ss))
            (subst (λ l. StandFor q.order q.limit (wanted s ++ wanted_in ss) l) (sym (flat_map-cons (wanted_of picked q) one.rows rest.shards))
            (both_stand q.order q.limit (wanted s) (wanted_of picked q one.rows) (wanted_in ss) (flat_map (wanted_of picked q) rest.shards)
            (one_stands tenant ms q s one picked picks) (rest.stand picked picks)));
      }
