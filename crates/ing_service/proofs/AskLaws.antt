-- What is wanted of the snapshots of shards stands for what is wanted of their rows.
use Rattle.std.proofs.Common.{◌≡◌, ◌∙◌, List, [], ◌∷◌, ◌++◌, ℕ, Bool, ap, filter, map, refl, subst, sym}
use Rattle.std.specs.Prelude.{IsPermutation}
use Rattle.std.proofs.lemmas.List.{map-append}
use Rattle.std.proofs.lemmas.List.Elements.{filter-append}
use Rattle.std.proofs.lemmas.List.Concat.{flat_map-cons}
use Rattle.std.proofs.lemmas.List.Sorted.{IsPermutation-refl, IsPermutation-append_comm}
use Rattle.ing_labels.specs.Selectors.{Match}
use Rattle.ing_rows.specs.Rows.{Row, StreamKey}
use Rattle.ing_rows.specs.declared.order.Order.{Order}
use Rattle.ing_query.specs.Found.{Found}
use Rattle.ing_query.specs.Questions.{Question}
use Rattle.ing_query.specs.Snapshot.{Snapshot}
use Rattle.ing_query.specs.PartAnswers.{IsAnswer, StandFor}
use Rattle.ing_query.specs.Parts.{found_at, is_within, wanted, within}
use Rattle.ing_query.specs.Answers.{wanted_in}
use Rattle.ing_durable.specs.Picked.{Picks}
use Rattle.ing_commands.specs.QueryCommands.{QueryCommand}
use Rattle.ing_session.specs.Selecting.{question_of}
use Rattle.ing_service.specs.Queries.{IsFound}
use Rattle.ing_service.specs.ByShards.{fronts_of, rows_of}
use Rattle.ing_service.specs.Held.{ShardHeld}
use Rattle.ing_service.specs.Snapshots.{AreAsked, IsAsked}

module _ {R : Type 0} (tenant : List ℕ) (ms : List Match) (q : Question) where
  pub one_asked : (snapshots : List (Snapshot R)) (shards : List ShardHeld) (snapshot : Snapshot R) (shard : ShardHeld) → AreAsked tenant ms q snapshots shards → IsAsked tenant ms q snapshot shard
      → AreAsked tenant ms q (snapshots ++ snapshot ∷ []) (shards ++ shard ∷ [])
  one_asked [] [] snapshot shard so_far this = (this, tt)
  one_asked (s ∷ ss) (h ∷ hs) snapshot shard so_far this = (so_far.0, one_asked ss hs snapshot shard so_far.1 this)
  one_asked [] (h ∷ hs) snapshot shard so_far this = absurd so_far
  one_asked (s ∷ ss) [] snapshot shard so_far this = absurd so_far

  pub fronts_are : (snapshots : List (Snapshot R)) (shards : List ShardHeld) → AreAsked tenant ms q snapshots shards → map (λ (s : Snapshot R). s.front) snapshots ≡ fronts_of shards
  fronts_are [] [] are = refl
  fronts_are (s ∷ ss) (h ∷ hs) are = λ i. (are.0.front i) ∷ (fronts_are ss hs are.1 i)
  fronts_are [] (h ∷ hs) are = absurd are
  fronts_are (s ∷ ss) [] are = absurd are

-- what is wanted of rows whose streams are picked
abbrev wanted_of : (StreamKey → Bool) → Question → List Row → List Found
wanted_of picked q rows = within q (map found_at (filter (λ (r : Row). picked r.stream) rows))

both_wanted : (picked : StreamKey → Bool) (q : Question) (rows others : List Row) → wanted_of picked q (rows ++ others) ≡ wanted_of picked q rows ++ wanted_of picked q others
both_wanted picked q rows others =
    let p = λ (r : Row). picked r.stream in
    ap (λ l. within q (map found_at l)) (filter-append p rows others)
    ∙ ap (within q) (map-append found_at (filter p rows) (filter p others))
    ∙ filter-append (is_within q) (map found_at (filter p rows)) (map found_at (filter p others))

one_stands : {R : Type 0} (tenant : List ℕ) (ms : List Match) (q : Question) (s : Snapshot R) (shard : ShardHeld) → IsAsked tenant ms q s shard → (picked : StreamKey → Bool) → Picks tenant ms picked
    → StandFor q.order q.limit (wanted s) (wanted_of picked q shard.state.rows)
one_stands tenant ms q s shard asked picked picks =
    let all = map found_at (filter (λ (r : Row). picked r.stream) shard.state.rows) in
    subst (λ o. StandFor o q.limit (wanted s) (within q all)) asked.order
    (subst (λ n. StandFor s.best.order n (wanted s) (within q all)) asked.limit
    (subst (λ l. StandFor s.best.order s.best.limit (wanted s) l) (λ i. filter (λ f. asked.range f i) all) (asked.rows picked picks).stand))

module _ (alike : (order : Order) (limit : ℕ) (some all : List Found) → IsPermutation some all → StandFor order limit some all)
    (through : (order : Order) (limit : ℕ) (some mid all : List Found) → StandFor order limit some mid → StandFor order limit mid all → StandFor order limit some all)
    (beside : (order : Order) (limit : ℕ) (some all others : List Found) → StandFor order limit some all → StandFor order limit (some ++ others) (all ++ others)) where
  -- some stand for all, and others for others
  both_stand : (order : Order) (limit : ℕ) (a all b others : List Found) → StandFor order limit a all → StandFor order limit b others → StandFor order limit (a ++ b) (all ++ others)
  both_stand order limit a all b others one other =
      through order limit (a ++ b) (all ++ b) (all ++ others) (beside order limit a all b one)
      (through order limit (all ++ b) (b ++ all) (all ++ others) (alike order limit (all ++ b) (b ++ all) (IsPermutation-append_comm all b))
      (through order limit (b ++ all) (others ++ all) (all ++ others) (beside order limit b others all other)
      (alike order limit (others ++ all) (all ++ others) (IsPermutation-append_comm others all))))

  all_stand : {R : Type 0} (tenant : List ℕ) (ms : List Match) (q : Question) (ss : List (Snapshot R)) (shards : List ShardHeld) → AreAsked tenant ms q ss shards → (picked : StreamKey → Bool)
      → Picks tenant ms picked → StandFor q.order q.limit (wanted_in ss) (wanted_of picked q (rows_of shards))
  all_stand tenant ms q [] [] are picked picks = alike q.order q.limit [] [] (IsPermutation-refl [])
  all_stand tenant ms q (s ∷ ss) (h ∷ hs) are picked picks =
      subst (λ l. StandFor q.order q.limit l (wanted_of picked q (rows_of (h ∷ hs)))) (sym (flat_map-cons wanted s ss))
      (subst (λ l. StandFor q.order q.limit (wanted s ++ wanted_in ss) l)
      (sym (ap (wanted_of picked q) (flat_map-cons (λ (x : ShardHeld). x.state.rows) h hs) ∙ both_wanted picked q h.state.rows (rows_of hs)))
      (both_stand q.order q.limit (wanted s) (wanted_of picked q h.state.rows) (wanted_in ss) (wanted_of picked q (rows_of hs))
      (one_stands tenant ms q s h are.0 picked picks) (all_stand tenant ms q ss hs are.1 picked picks)))
  all_stand tenant ms q [] (h ∷ hs) are picked picks = absurd are
  all_stand tenant ms q (s ∷ ss) [] are picked picks = absurd are

  -- the answer from the snapshots is that of the rows
  pub is_found : {R : Type 0} (answered : (order : Order) (limit : ℕ) (some all answer : List Found) → StandFor order limit some all → IsAnswer order limit some answer → IsAnswer order limit all answer)
      (query : QueryCommand) (ms : List Match) (ss : List (Snapshot R)) (shards : List ShardHeld) → AreAsked query.tenant ms (question_of query) ss shards
      → (found : List Found) → IsAnswer query.order query.limit (wanted_in ss) found → (picked : StreamKey → Bool) → Picks query.tenant ms picked
      → IsFound query (filter (λ (r : Row). picked r.stream) (rows_of shards)) found
  is_found answered query ms ss shards are found answer picked picks =
      let q = question_of query in
      let all = map found_at (filter (λ (r : Row). picked r.stream) (rows_of shards)) in
      record {
        all = all;
        same = IsPermutation-refl all;
        answer = answered q.order q.limit (wanted_in ss) (wanted_of picked q (rows_of shards)) found (all_stand query.tenant ms q ss shards are picked picks) answer;
      }
