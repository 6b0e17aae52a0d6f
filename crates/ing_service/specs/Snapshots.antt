-- Snapshots of shards, one of each, for one question.
use Rattle.std.specs.Prelude.{◌≡◌, ⊤, ℕ, Bool, List, [], ◌∷◌, filter, length}
use Rattle.ing_labels.specs.Selectors.{Match}
use Rattle.ing_query.specs.Questions.{Question}
use Rattle.ing_query.specs.Snapshot.{Snapshot}
use Rattle.ing_query.specs.Parts.{HasRangeOf, HasRows}
use Rattle.ing_rows.specs.Rows.{Row, StreamKey}
use Rattle.ing_durable.specs.Picked.{Picks}
use Rattle.ing_service.specs.Held.{ShardHeld}

-- It was made for this question, and has exactly the rows of the shard's streams that are picked, as far as an answer may have them.
pub record IsAsked {R : Type 0} (tenant : List ℕ) (ms : List Match) (q : Question) (snapshot : Snapshot R) (shard : ShardHeld) : Type 0 where
  pub front : snapshot.front ≡ length shard.state.rows
  pub range : HasRangeOf q snapshot
  pub order : snapshot.best.order ≡ q.order
  pub limit : snapshot.best.limit ≡ q.limit
  pub rows : (picked : StreamKey → Bool) → Picks tenant ms picked → HasRows (filter (λ (r : Row). picked r.stream) shard.state.rows) snapshot

abbrev pub AreAsked : {R : Type 0} → List ℕ → List Match → Question → List (Snapshot R) → List ShardHeld → Type 0
AreAsked tenant ms q [] [] = ⊤
AreAsked tenant ms q (snapshot ∷ snapshots) (shard ∷ shards) = IsAsked tenant ms q snapshot shard × AreAsked tenant ms q snapshots shards
AreAsked tenant ms q [] (shard ∷ shards) = ⊥
AreAsked tenant ms q (snapshot ∷ snapshots) [] = ⊥
