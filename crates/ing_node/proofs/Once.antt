-- What stands in the snapshots of several shards stands once.
use Rattle.std.proofs.Common.{◌≡◌, ◌≢◌, ◌+◌, ◌<◌, ◌≤◌, ◌==◌, ℕ, Bool, true, false, cond, ◌&&◌, bytes_eq, List, [], ◌∷◌, ◌++◌, length, length-append, append-nil, filter, refl, ap, subst, ◌∙◌, arith}
use Rattle.std.specs.Prelude.{All}
use Rattle.std.proofs.lemmas.Bool.Decides.{nat_tests}
use Rattle.std.proofs.lemmas.Grind.{flat_map-append}
use Rattle.std.proofs.lemmas.List.Elements.{All-append, All-head, All-tail, All-weaker, filter-append}
use Rattle.std.proofs.lemmas.Slice.Eq.{bytes_eq-Decides}
use Rattle.ing_diary.specs.Found.{Found}
use Rattle.ing_diary.specs.Snapshot.{Snapshot}
use Rattle.ing_diary.specs.PartAnswers.{StandApart, is_at}
use Rattle.ing_diary.specs.Parts.{standing}
use Rattle.ing_diary.specs.Answers.{standing_in}
use Rattle.ing_rows.specs.Placement.{shard_of}
use Rattle.ing_node.specs.Queries.{AreBelow}

pub standing_push : {R : Type 0} (ss : List (Snapshot R)) (s : Snapshot R) → standing_in (ss ++ s ∷ []) ≡ standing_in ss ++ standing s
standing_push ss s = flat_map-append standing ss (s ∷ []) ∙ ap (λ l. standing_in ss ++ l) (append-nil (standing s))

first_true : (a b : Bool) → (a && b) ≡ true → a ≡ true
first_true true b h = refl
first_true false b h = h

-- where nothing of this name can stand, nothing stands at a number of it
none_at : (Q : List ℕ → Type 0) (name : List ℕ) (number : ℕ) → (Q name → ⊥) → (found : List Found) → All (λ f. Q f.name) found → length (filter (is_at name number) found) ≡ 0
none_at Q name number never [] all = refl
none_at Q name number never (f ∷ found) all = by (is_at name number f) refl (none_at Q name number never found (All-tail (λ (x : Found). Q x.name) f found all)) where
  by : (b : Bool) → is_at name number f ≡ b → length (filter (is_at name number) found) ≡ 0 → length (cond b (f ∷ filter (is_at name number) found) (filter (is_at name number) found)) ≡ 0
  by true is rest =
      let same : f.name ≡ name = (bytes_eq-Decides f.name name).0 (first_true (bytes_eq f.name name) (f.number == number) is) in
      absurd (never (subst Q same (All-head (λ (x : Found). Q x.name) f found all)))
  by false is rest = rest

-- what stands in the snapshot of the next shard is of other streams than what stands in those before
pub once_more : (shards : ℕ) (tenant : List ℕ) (place : ℕ) (found more : List Found) → StandApart found → AreBelow shards tenant place found → StandApart more
    → All (λ f. shard_of tenant f.name shards ≡ place) more → StandApart (found ++ more) × AreBelow shards tenant (place + 1) (found ++ more)
once_more shards tenant place found more apart below own here = (all_apart, all_below) where
  all_below : AreBelow shards tenant (place + 1) (found ++ more)
  all_below =
      All-append (λ (f : Found). shard_of tenant f.name shards < place + 1) found more
      (All-weaker (λ (f : Found). shard_of tenant f.name shards < place) (λ f. shard_of tenant f.name shards < place + 1) (λ f h. omega (arith, h)) found below)
      (All-weaker (λ (f : Found). shard_of tenant f.name shards ≡ place) (λ f. shard_of tenant f.name shards < place + 1) (λ f h. omega (arith, h)) more here)

  all_apart : StandApart (found ++ more)
  all_apart name number =
      let count : length (filter (is_at name number) (found ++ more)) ≡ length (filter (is_at name number) found) + length (filter (is_at name number) more) =
      ap length (filter-append (is_at name number) found more) ∙ length-append (filter (is_at name number) found) (filter (is_at name number) more) in
      by (shard_of tenant name shards == place) refl count (apart name number) (own name number) where
        by : (b : Bool) → (shard_of tenant name shards == place) ≡ b
            → length (filter (is_at name number) (found ++ more)) ≡ length (filter (is_at name number) found) + length (filter (is_at name number) more)
            → length (filter (is_at name number) found) ≤ 1 → length (filter (is_at name number) more) ≤ 1 → length (filter (is_at name number) (found ++ more)) ≤ 1
        by true is count one other =
            let at = shard_of tenant name shards in
            let same : at ≡ place = grind (arith, nat_tests) in
            let none = none_at (λ n. shard_of tenant n shards < place) name number (λ less. omega (arith, less, same)) found below in
            omega (arith, count, none, other)
        by false is count one other =
            let at = shard_of tenant name shards in
            let apart_from : at ≢ place = grind (arith, nat_tests) in
            let none = none_at (λ n. shard_of tenant n shards ≡ place) name number apart_from more here in
            omega (arith, count, none, one)
