-- Entries of a range of stamps, as they are and as a query gives them.
use Rattle.std.proofs.Common.{◌≡◌, refl, ℕ, List, [], ◌∷◌, ◌++◌, map, filter, cond, ◌&&◌, Bool, true, false, ap, sym, ◌∙◌, subst, append-nil, append_assoc}
use Rattle.std.specs.Prelude.{IsPermutation}
use Rattle.std.proofs.lemmas.List.{flat_map_more, map-append}
use Rattle.std.proofs.lemmas.List.Elements.{filter-append}
use Rattle.std.proofs.lemmas.List.Sorted.{IsPermutation-append_comm, IsPermutation-append_right}
use Rattle.ing_chunk.specs.declared.numbered.Numbered.{Numbered}
use Rattle.ing_chunk.specs.Chunks.{ChunkContents, entries_of, entries_of_all, is_between}
use Rattle.ing_parts.specs.declared.snapshot.Part.{Part}
use Rattle.ing_parts.specs.declared.found.Found.{Found}
use Rattle.ing_parts.specs.declared.snapshot.Snapshot.{Snapshot}
use Rattle.ing_parts.specs.Answers.{AreSomeOf, Offers, StandFor}
use Rattle.ing_parts.specs.Parts.{Adds, asked, found_between, found_of, found_in, found_among, is_behind, is_within, standing, wanted, within}
use Rattle.ing_parts.specs.Questions.{Question, question_view}
use Rattle.ing_parts.proofs.Reordered.{filter_reordered}
use Rattle.ing_parts.proofs.SomeLaws.{some_alike, some_behind, some_beside, some_first, some_pass, some_still, some_through}
use Rattle.ing_parts.proofs.StandLaws.{stand_alike, stand_beside, stand_still, stand_through}

-- what is wanted of entries is what is found of those of its stamps, as far as it stands behind the cursor
within_step : (q : Question) (name : List ℕ) (e : Numbered) (es : List Numbered) (t : Bool) → within q (map (found_of name) es) ≡ filter (is_behind q.order q.after) (map (found_of name) (filter (is_between q.start q.end) es))
    → cond (t && is_behind q.order q.after (found_of name e)) (found_of name e ∷ within q (map (found_of name) es)) (within q (map (found_of name) es))
    ≡ filter (is_behind q.order q.after) (map (found_of name) (cond t (e ∷ filter (is_between q.start q.end) es) (filter (is_between q.start q.end) es)))
within_step q name e es true h = ap (λ l. cond (is_behind q.order q.after (found_of name e)) (found_of name e ∷ l) l) h
within_step q name e es false h = h

pub within_of : (q : Question) (name : List ℕ) (es : List Numbered) → within q (map (found_of name) es) ≡ filter (is_behind q.order q.after) (map (found_of name) (filter (is_between q.start q.end) es))
within_of q name [] = refl
within_of q name (e ∷ es) = within_step q name e es (is_between q.start q.end e) (within_of q name es)

-- nothing is wanted where no entry has a stamp that is wanted
pub missed : (q : Question) (name : List ℕ) (es : List Numbered) → filter (is_between q.start q.end) es ≡ [] → within q (map (found_of name) es) ≡ []
missed q name es none = within_of q name es ∙ ap (λ l. filter (is_behind q.order q.after) (map (found_of name) l)) none

-- one more part
pub found_more : {R : Type 0} (ps : List (Part R)) (p : Part R) → found_among (ps ++ p ∷ []) ≡ found_among ps ++ found_in p
found_more ps p = sym (flat_map_more found_in [] ps p)

pub within_more : {R : Type 0} (q : Question) (ps : List (Part R)) (p : Part R) → within q (found_among (ps ++ p ∷ [])) ≡ within q (found_among ps) ++ within q (found_in p)
within_more q ps p = ap (within q) (found_more ps p) ∙ filter-append _ (found_among ps) (found_in p)

-- ---- what is added to a snapshot

-- nothing, where nothing of it is wanted
pub adds_none : {R : Type 0} (name : List ℕ) (es : List Numbered) (s : Snapshot R) → filter (is_between s.question.start s.question.end) es ≡ [] → Adds (map (found_of name) es) s s
adds_none name es s none = record {
  front = refl;
  question = refl;
  order = refl;
  limit = refl;
  drawn = some_first (standing s) (map (found_of name) es);
  kept = some_first s.best.held (within (asked s) (map (found_of name) es));
  stand = subst (StandFor s.best.order s.best.limit (wanted s)) (sym (append-nil (wanted s)) ∙ ap (λ l. wanted s ++ l) (sym (missed (asked s) name es none))) (stand_still s.best.order s.best.limit (wanted s));
}

-- a part
pub adds_part : {R : Type 0} (p : Part R) (old new : Snapshot R) → new.front ≡ old.front → new.question ≡ old.question → new.best ≡ old.best → new.parts.items ≡ old.parts.items ++ p ∷ [] → Adds (found_in p) old new
adds_part p old new front question best parts =
    let more : wanted new ≡ wanted old ++ within (asked old) (found_in p) =
    (λ i. (best i).held ++ within (question_view (question i)) (found_among (parts i)))
    ∙ ap (λ l. old.best.held ++ l) (within_more (asked old) old.parts.items p)
    ∙ sym (append_assoc old.best.held (within (asked old) (found_among old.parts.items)) (within (asked old) (found_in p))) in
    let all : standing new ≡ standing old ++ found_in p =
    (λ i. (best i).held ++ found_among (parts i))
    ∙ ap (λ l. old.best.held ++ l) (found_more old.parts.items p)
    ∙ sym (append_assoc old.best.held (found_among old.parts.items) (found_in p)) in
    record {
      front = front;
      question = question;
      order = ap (λ b. b.order) best;
      limit = ap (λ b. b.limit) best;
      drawn = subst (AreSomeOf (standing new)) all (some_still (standing new));
      kept = subst (λ b. AreSomeOf b.held (old.best.held ++ within (asked old) (found_in p))) (sym best) (some_first old.best.held (within (asked old) (found_in p)));
      stand = subst (StandFor old.best.order old.best.limit (wanted new)) more (stand_still old.best.order old.best.limit (wanted new));
    }

-- behind others, two lists change places
aside : (us xs ys : List Found) → IsPermutation ((us ++ xs) ++ ys) ((us ++ ys) ++ xs)
aside us xs ys =
    subst (λ l. IsPermutation l ((us ++ ys) ++ xs)) (sym (append_assoc us xs ys))
    (subst (λ l. IsPermutation (us ++ (xs ++ ys)) l) (sym (append_assoc us ys xs)) (IsPermutation-append_right us (xs ++ ys) (ys ++ xs) (IsPermutation-append_comm xs ys)))

-- what is offered to those that it keeps
pub adds_offered : {R : Type 0} (name : List ℕ) (es : List Numbered) (old new : Snapshot R) → new.front ≡ old.front → new.question ≡ old.question → new.parts.items ≡ old.parts.items → Offers (found_between name (asked old) es) old.best new.best → Adds (map (found_of name) es) old new
adds_offered name es old new front question parts h =
    let o = old.best.order in
    let n = old.best.limit in
    let all = found_between name (asked old) es in
    let there = within (asked old) (found_among old.parts.items) in
    let beside : StandFor o n (new.best.held ++ there) ((old.best.held ++ all) ++ there) = stand_beside o n new.best.held (old.best.held ++ all) there h.stand in
    let same : IsPermutation ((old.best.held ++ all) ++ there) ((old.best.held ++ there) ++ all) = aside old.best.held all there in
    let is : new.best.held ++ there ≡ wanted new = λ i. new.best.held ++ within (question_view (sym question i)) (found_among (sym parts i)) in
    let among = found_among old.parts.items in
    let found = map (found_of name) es in
    let drawn : AreSomeOf (new.best.held ++ among) ((old.best.held ++ among) ++ found) =
    some_through (new.best.held ++ among) ((old.best.held ++ all) ++ among) ((old.best.held ++ among) ++ found)
    (some_beside new.best.held (old.best.held ++ all) among h.drawn)
    (some_through ((old.best.held ++ all) ++ among) ((old.best.held ++ among) ++ all) ((old.best.held ++ among) ++ found)
    (some_alike ((old.best.held ++ all) ++ among) ((old.best.held ++ among) ++ all) (aside old.best.held all among))
    (some_behind (old.best.held ++ among) all found (some_pass (is_within (asked old)) found))) in
    record {
      front = front;
      question = question;
      order = h.order;
      limit = h.limit;
      drawn = subst (λ l. AreSomeOf (new.best.held ++ found_among l) (standing old ++ found)) (sym parts) drawn;
      kept = h.drawn;
      stand = subst (λ l. StandFor o n l (wanted old ++ all)) is
          (stand_through o n (new.best.held ++ there) ((old.best.held ++ all) ++ there) (wanted old ++ all) beside (stand_alike o n ((old.best.held ++ all) ++ there) ((old.best.held ++ there) ++ all) same));
    }

-- one addition after another
pub adds_nothing : {R : Type 0} (s : Snapshot R) → Adds [] s s
adds_nothing s = record {
  front = refl;
  question = refl;
  order = refl;
  limit = refl;
  drawn = some_first (standing s) [];
  kept = some_first s.best.held [];
  stand = subst (StandFor s.best.order s.best.limit (wanted s)) (sym (append-nil (wanted s))) (stand_still s.best.order s.best.limit (wanted s));
}

pub adds_both : {R : Type 0} (a b : List Found) (old mid new : Snapshot R) → Adds a old mid → Adds b mid new → Adds (a ++ b) old new
adds_both a b old mid new h k =
    let o = old.best.order in
    let n = old.best.limit in
    let here = within (asked old) a in
    let there = within (asked old) b in
    let later : StandFor o n (wanted new) (wanted mid ++ there) =
    subst (λ l. StandFor o n (wanted new) (wanted mid ++ l)) (λ i. within (question_view (h.question i)) b)
    (subst (λ m. StandFor o m (wanted new) (wanted mid ++ within (asked mid) b)) h.limit (subst (λ q. StandFor q mid.best.limit (wanted new) (wanted mid ++ within (asked mid) b)) h.order k.stand)) in
    let sooner : StandFor o n (wanted mid ++ there) ((wanted old ++ here) ++ there) = stand_beside o n (wanted mid) (wanted old ++ here) there h.stand in
    let all : (us : List Found) → (us ++ here) ++ there ≡ us ++ within (asked old) (a ++ b) =
    λ us. append_assoc us here there ∙ ap (λ l. us ++ l) (sym (filter-append _ a b)) in
    let last : AreSomeOf new.best.held (mid.best.held ++ there) = subst (λ l. AreSomeOf new.best.held (mid.best.held ++ l)) (λ i. within (question_view (h.question i)) b) k.kept in
    record {
      front = k.front ∙ h.front;
      question = k.question ∙ h.question;
      order = k.order ∙ h.order;
      limit = k.limit ∙ h.limit;
      drawn = subst (AreSomeOf (standing new)) (append_assoc (standing old) a b) (some_through (standing new) (standing mid ++ b) ((standing old ++ a) ++ b) k.drawn (some_beside (standing mid) (standing old ++ a) b h.drawn));
      kept = subst (AreSomeOf new.best.held) (all old.best.held) (some_through new.best.held (mid.best.held ++ there) ((old.best.held ++ here) ++ there) last (some_beside mid.best.held (old.best.held ++ here) there h.kept));
      stand = subst (StandFor o n (wanted new)) (all (wanted old)) (stand_through o n (wanted new) (wanted mid ++ there) ((wanted old ++ here) ++ there) later sooner);
    }

-- the same entries in another order
pub adds_alike : {R : Type 0} (a b : List Found) (old new : Snapshot R) → IsPermutation a b → Adds a old new → Adds b old new
adds_alike a b old new same h =
    let o = old.best.order in
    let n = old.best.limit in
    let here = within (asked old) a in
    let there = within (asked old) b in
    let ranged : (us : List Found) → IsPermutation (us ++ here) (us ++ there) = λ us. IsPermutation-append_right us here there (filter_reordered (is_within (asked old)) a b same) in
    record {
      front = h.front;
      question = h.question;
      order = h.order;
      limit = h.limit;
      drawn = some_through (standing new) (standing old ++ a) (standing old ++ b) h.drawn (some_alike (standing old ++ a) (standing old ++ b) (IsPermutation-append_right (standing old) a b same));
      kept = some_through new.best.held (old.best.held ++ here) (old.best.held ++ there) h.kept (some_alike (old.best.held ++ here) (old.best.held ++ there) (ranged old.best.held));
      stand = stand_through o n (wanted new) (wanted old ++ here) (wanted old ++ there) h.stand (stand_alike o n (wanted old ++ here) (wanted old ++ there) (ranged (wanted old)));
    }

-- the entries of chunks, one chunk more
pub entries_of_all-more : (cs : List ChunkContents) (c : ChunkContents) → entries_of_all (cs ++ c ∷ []) ≡ entries_of_all cs ++ entries_of c
entries_of_all-more [] c = append-nil (entries_of c)
entries_of_all-more (x ∷ cs) c = ap (λ l. entries_of x ++ l) (entries_of_all-more cs c) ∙ sym (append_assoc (entries_of x) (entries_of_all cs) (entries_of c))

-- these entries behind those that were added before them
pub adds_next : {R : Type 0} (name : List ℕ) (xs more all : List Numbered) (old mid new : Snapshot R) → all ≡ xs ++ more → Adds (map (found_of name) xs) old mid → Adds (map (found_of name) more) mid new → Adds (map (found_of name) all) old new
adds_next name xs more all old mid new is h k =
    subst (λ (l : List Found). Adds l old new) (sym (map-append (found_of name) xs more) ∙ sym (ap (map (found_of name)) is)) (adds_both (map (found_of name) xs) (map (found_of name) more) old mid new h k)

-- and these before them
pub adds_previous : {R : Type 0} (name : List ℕ) (xs more all : List Numbered) (old mid new : Snapshot R) → all ≡ more ++ xs → Adds (map (found_of name) xs) old mid → Adds (map (found_of name) more) mid new → Adds (map (found_of name) all) old new
adds_previous name xs more all old mid new is h k =
    let x = map (found_of name) xs in
    let y = map (found_of name) more in
    subst (λ (l : List Found). Adds l old new) (sym (map-append (found_of name) more xs) ∙ sym (ap (map (found_of name)) is)) (adds_alike (x ++ y) (y ++ x) old new (IsPermutation-append_comm x y) (adds_both x y old mid new h k))
