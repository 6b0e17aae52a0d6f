-- The streams that a tenant's label index lists.
use Rattle.std.proofs.Common.{◌≡◌, ℕ, ◌+◌, ◌<◌, Bool, List, [], ◌∷◌, ◌++◌, length, map, cond, true, false, ◌&&◌, refl, ap, sym, ◌∙◌, append-nil, arith, filter, All, IfOk, Result, Ok, Err, bytes_eq}
use Rattle.std.specs.List.{enumerate_from}
use Rattle.std.proofs.lemmas.List.{map-append}
use Rattle.std.proofs.lemmas.List.Elements.{All-cons, All-head, All-nil, All-tail, All-weaker, filter-append}
use Rattle.ing_labels.specs.Labels.{IsLabelSet}
use Rattle.ing_labels.specs.Selectors.{Match, selects}
use Rattle.ing_postings.specs.declared.postings.Listed.{Listed}
use Rattle.ing_postings.specs.Streams.{numbers_of, selected}
use Rattle.ing_rows.specs.Rows.{StreamKey}
use Rattle.ing_shard.specs.OneStream.{Stream}
use Rattle.ing_shard.specs.Picked.{Picks, numbers_of_picked}
use Rattle.ing_shard.specs.Streams.{key_of, listed_of}
use Rattle.ing_shard.specs.Tenants.{listed_as}

-- the streams that are counted from k
abbrev pub of_tenant : List ℕ → ℕ × Stream → Bool
of_tenant t e = bytes_eq e.1.tenant t

abbrev pub as_listed : ℕ × Stream → Listed
as_listed e = listed_as e.0 e.1.labels

abbrev pub listed_from : List ℕ → ℕ → List Stream → List Listed
listed_from t k sts = map as_listed (filter (of_tenant t) (enumerate_from k sts))

-- ---- one more stream

enumerate_from-push : (k : ℕ) (sts : List Stream) (st : Stream) → enumerate_from k (sts ++ st ∷ []) ≡ enumerate_from k sts ++ (k + length sts, st) ∷ []
enumerate_from-push k [] st = let e : k ≡ k + 0 = omega arith in ap (λ i. (i, st) ∷ []) e
enumerate_from-push k (o ∷ sts) st =
    let e : k + 1 + length sts ≡ k + length (o ∷ sts) = omega arith in
    ap (λ es. (k, o) ∷ es) (enumerate_from-push (k + 1) sts st) ∙ ap (λ i. (k, o) ∷ (enumerate_from (k + 1) sts ++ (i, st) ∷ [])) e

one_listed : (b : Bool) (e : ℕ × Stream) (before : List Listed) → before ++ map as_listed (cond b (e ∷ []) []) ≡ cond b (before ++ as_listed e ∷ []) (before ++ [])
one_listed true e before = refl
one_listed false e before = refl

-- it is the tenant's last, or none of the tenant's
pub listed_more : (t : List ℕ) (sts : List Stream) (st : Stream) → listed_of t (sts ++ st ∷ []) ≡ cond (bytes_eq st.tenant t) (listed_of t sts ++ listed_as (length sts) st.labels ∷ []) (listed_of t sts)
listed_more t sts st =
    let zero_more : 0 + length sts ≡ length sts = omega arith in
    let last : ℕ × Stream = (length sts, st) in
    ap (λ es. map as_listed (filter (of_tenant t) es)) (enumerate_from-push 0 sts st ∙ ap (λ i. enumerate_from 0 sts ++ (i, st) ∷ []) zero_more)
    ∙ ap (map as_listed) (filter-append (of_tenant t) (enumerate_from 0 sts) (last ∷ []))
    ∙ map-append as_listed (filter (of_tenant t) (enumerate_from 0 sts)) (filter (of_tenant t) (last ∷ []))
    ∙ one_listed (bytes_eq st.tenant t) last (listed_of t sts)
    ∙ ap (λ l. cond (bytes_eq st.tenant t) (listed_of t sts ++ as_listed last ∷ []) l) (append-nil (listed_of t sts))

-- ---- a stream in the place of another, with its tenant and labels

same_from : (t : List ℕ) (k : ℕ) (front : List Stream) (st now : Stream) (back : List Stream) → now.tenant ≡ st.tenant → now.labels ≡ st.labels → listed_from t k (front ++ now ∷ back) ≡ listed_from t k (front ++ st ∷ back)
same_from t k [] st now back tenant labels =
    let rest = filter (of_tenant t) (enumerate_from (k + 1) back) in
    let both : (b : Bool) → map as_listed (cond b ((k, now) ∷ rest) rest) ≡ map as_listed (cond b ((k, st) ∷ rest) rest) = λ b.
    elim b as (λ c. map as_listed (cond c ((k, now) ∷ rest) rest) ≡ map as_listed (cond c ((k, st) ∷ rest) rest)) [
      | true ↦ ap (λ m. listed_as k m ∷ map as_listed rest) labels
      | false ↦ refl
    ] in
    both (bytes_eq now.tenant t) ∙ ap (λ id. map as_listed (cond (bytes_eq id t) ((k, st) ∷ rest) rest)) tenant
same_from t k (f ∷ front) st now back tenant labels =
    let news = filter (of_tenant t) (enumerate_from (k + 1) (front ++ now ∷ back)) in
    let olds = filter (of_tenant t) (enumerate_from (k + 1) (front ++ st ∷ back)) in
    let rest : map as_listed news ≡ map as_listed olds = same_from t (k + 1) front st now back tenant labels in
    elim (bytes_eq f.tenant t) as (λ b. map as_listed (cond b ((k, f) ∷ news) news) ≡ map as_listed (cond b ((k, f) ∷ olds) olds)) [
      | true ↦ ap (λ l. as_listed (k, f) ∷ l) rest
      | false ↦ rest
    ]

pub listed_same : (t : List ℕ) (front : List Stream) (st now : Stream) (back : List Stream) → now.tenant ≡ st.tenant → now.labels ≡ st.labels → listed_of t (front ++ now ∷ back) ≡ listed_of t (front ++ st ∷ back)
listed_same t front st now back tenant labels = same_from t 0 front st now back tenant labels

-- ---- the numbers

below_from : (t : List ℕ) (k : ℕ) (sts : List Stream) → All (λ s. s.number < k + length sts) (listed_from t k sts)
below_from t k [] = All-nil (λ s. s.number < k + 0)
below_from t k (st ∷ sts) =
    let Below : Listed → Type 0 = λ s. s.number < k + length (st ∷ sts) in
    let others = filter (of_tenant t) (enumerate_from (k + 1) sts) in
    let rest : All Below (map as_listed others) = All-weaker (λ s. s.number < k + 1 + length sts) Below (λ s h. omega arith) (map as_listed others) (below_from t (k + 1) sts) in
    elim (bytes_eq st.tenant t) as (λ b. All Below (map as_listed (cond b ((k, st) ∷ others) others))) [
      | true ↦ All-cons Below (listed_as k st.labels) (map as_listed others) (omega arith) rest
      | false ↦ rest
    ]

-- the next number is above all
pub listed_below : (t : List ℕ) (sts : List Stream) → All (λ s. s.number < length sts) (listed_of t sts)
listed_below t sts = All-weaker (λ s. s.number < 0 + length sts) (λ s. s.number < length sts) (λ s h. omega arith) (listed_of t sts) (below_from t 0 sts)

abbrev picked_from : (StreamKey → Bool) → ℕ → List StreamKey → List (ℕ × StreamKey)
picked_from picked k keys = filter (λ e. picked e.1) (enumerate_from k keys)

numbers_from : (t : List ℕ) (ms : List Match) (picked : StreamKey → Bool) → Picks t ms picked → (k : ℕ) (sts : List Stream) → All (λ st. IsLabelSet st.labels) sts
    → numbers_of (selected ms (listed_from t k sts)) ≡ map (λ e. e.0) (picked_from picked k (map key_of sts))
numbers_from t ms picked picks k [] labelled = refl
numbers_from t ms picked picks k (st ∷ sts) labelled =
    let others = filter (of_tenant t) (enumerate_from (k + 1) sts) in
    let listed = selected ms (map as_listed others) in
    let keys = picked_from picked (k + 1) (map key_of sts) in
    let mine = selects ms st.labels in
    let rest : numbers_of listed ≡ map (λ e. e.0) keys = numbers_from t ms picked picks (k + 1) sts (All-tail (λ (o : Stream). IsLabelSet o.labels) st sts labelled) in
    let selecting : numbers_of (cond mine (listed_as k st.labels ∷ listed) listed) ≡ map (λ e. e.0) (cond mine ((k, key_of st) ∷ keys) keys) =
    elim mine as (λ b. numbers_of (cond b (listed_as k st.labels ∷ listed) listed) ≡ map (λ e. e.0) (cond b ((k, key_of st) ∷ keys) keys)) [
      | true ↦ ap (λ ns. k ∷ ns) rest
      | false ↦ rest
    ] in
    let choosing : numbers_of (selected ms (listed_from t k (st ∷ sts))) ≡ map (λ e. e.0) (cond (bytes_eq st.tenant t && mine) ((k, key_of st) ∷ keys) keys) =
    elim (bytes_eq st.tenant t) as (λ b. numbers_of (selected ms (map as_listed (cond b ((k, st) ∷ others) others))) ≡ map (λ e. e.0) (cond (b && mine) ((k, key_of st) ∷ keys) keys)) [
      | true ↦ selecting
      | false ↦ rest
    ] in
    choosing ∙ ap (λ b. map (λ e. e.0) (cond b ((k, key_of st) ∷ keys) keys)) (sym (picks st.tenant st.labels (All-head (λ (o : Stream). IsLabelSet o.labels) st sts labelled)))

-- what is selected among the tenant's streams is picked among all
pub numbers_picked : (t : List ℕ) (ms : List Match) (picked : StreamKey → Bool) (sts : List Stream) → Picks t ms picked → All (λ st. IsLabelSet st.labels) sts
    → numbers_of (selected ms (listed_of t sts)) ≡ numbers_of_picked picked (map key_of sts)
numbers_picked t ms picked sts picks labelled = numbers_from t ms picked picks 0 sts labelled

-- what follows of what is returned
pub if_ok_then : {T E : Type 0} (r : Result T E) (P Q : T → Type 0) → ((x : T) → P x → Q x) → IfOk r P → IfOk r Q
if_ok_then (Ok x) P Q f h = f x h
if_ok_then (Err e) P Q f h = tt
