-- What is found of each tenant after one tenant's streams are written over.
use Rattle.std.proofs.Common.{◌≡◌, ℕ, Bool, List, cond, true, false, [], ◌∷◌, ◌++◌, ◌&&◌, Some, None, refl, ap, sym, ◌∙◌, bytes_eq, is_some, OnErr, OnOk, Result, Ok, Err}
use Rattle.std.specs.Map.{update}
use Rattle.std.specs.Option.{option_map_or}
use Rattle.std.specs.BTreeMap.{get_by_text}
use Rattle.std.proofs.lemmas.Slice.Eq.{bytes_eq-Decides}
use Rattle.ing_shard.specs.declared.tenants.TenantStreams.{TenantStreams}
use Rattle.ing_shard.specs.declared.tenants.Tenants.{Tenants}
use Rattle.ing_postings.specs.declared.postings.Listed.{Listed}
use Rattle.ing_shard.specs.Names.{find_in}
use Rattle.ing_shard.specs.Tenants.{find_of, is_known, kept_of, posted_of}
use Rattle.ing_rows.specs.Gauges.{no_gauges}

-- what holds holds after an error
pub always_on_err : {T E P : Type 0} (r : Result T E) → P → OnErr r P
always_on_err (Ok x) p = tt
always_on_err (Err e) p = p

pub always_on_ok : {T E P : Type 0} (r : Result T E) → P → OnOk r P
always_on_ok (Ok x) p = p
always_on_ok (Err e) p = tt

-- what follows after an error, and after none
pub on_err_then : {T E P Q : Type 0} (r : Result T E) → (P → Q) → OnErr r P → OnErr r Q
on_err_then (Ok x) f p = tt
on_err_then (Err e) f p = f p

pub on_ok_then : {T E P Q : Type 0} (r : Result T E) → (P → Q) → OnOk r P → OnOk r Q
on_ok_then (Ok x) f p = f p
on_ok_then (Err e) f p = tt

-- what is the same at equal bytes
at_case : {X : Type 0} (f : List ℕ → X) (t u : List ℕ) (b : Bool) → (b ≡ true → t ≡ u) → cond b (f t) (f u) ≡ f u
at_case f t u true same = ap f (same refl)
at_case f t u false same = refl

pub same_at : {X : Type 0} (f : List ℕ → X) (t u : List ℕ) → cond (bytes_eq t u) (f t) (f u) ≡ f u
same_at f t u = at_case f t u (bytes_eq t u) (bytes_eq-Decides t u).0

cond_map : {X Y : Type 0} (f : X → Y) (b : Bool) (x y : X) → f (cond b x y) ≡ cond b (f x) (f y)
cond_map f true x y = refl
cond_map f false x y = refl

cond_same : {X : Type 0} (b : Bool) (x : X) → cond b x x ≡ x
cond_same true x = refl
cond_same false x = refl

both_cond : {X : Type 0} (b c : Bool) (x y : X) → cond b (cond c x y) y ≡ cond (b && c) x y
both_cond true c x y = refl
both_cond false c x y = refl

-- what is the same under a test
same_under : {X Y : Type 0} (b : Bool) (f : X → Y) (x y : X) (z : Y) → cond b x y ≡ y → cond b (f x) z ≡ cond b (f y) z
same_under true f x y z e = ap f e
same_under false f x y z e = refl

-- the tenants, where this one's streams are now these
abbrev pub Writes : List ℕ → TenantStreams → Tenants → Tenants → Type 0
Writes id w old new = (t : List ℕ) → get_by_text new.by_id t ≡ update bytes_eq (get_by_text old.by_id) id (Some w) t

module _ (id : List ℕ) (w : TenantStreams) (old new : Tenants) (writes : Writes id w old new) where
  pub kept_written : (t : List ℕ) → kept_of new t ≡ cond (bytes_eq id t) w.kept (kept_of old t)
  kept_written t = ap (λ o. option_map_or (λ s. s.kept) o no_gauges) (writes t) ∙ cond_map (λ o. option_map_or (λ (s : TenantStreams). s.kept) o no_gauges) (bytes_eq id t) (Some w) (get_by_text old.by_id t)

  find_written : (t n : List ℕ) → find_of new t n ≡ cond (bytes_eq id t) (find_in w.by_name n) (find_of old t n)
  find_written t n =
      ap (λ o. option_map_or (λ s. find_in s.by_name n) o None) (writes t)
      ∙ cond_map (λ o. option_map_or (λ (s : TenantStreams). find_in s.by_name n) o None) (bytes_eq id t) (Some w) (get_by_text old.by_id t)

  pub known_written : (t : List ℕ) → is_known new t ≡ cond (bytes_eq id t) true (is_known old t)
  known_written t = ap is_some (writes t) ∙ cond_map is_some (bytes_eq id t) (Some w) (get_by_text old.by_id t)

  -- a tenant that was listed is listed
  pub known_stays : (t : List ℕ) → is_known old t ≡ true → is_known new t ≡ true
  known_stays t known = known_written t ∙ ap (cond (bytes_eq id t) true) known ∙ cond_same (bytes_eq id t) true

  pub known_same : is_known old id ≡ true → (t : List ℕ) → is_known new t ≡ is_known old t
  known_same known t = known_written t ∙ ap (λ k. cond (bytes_eq id t) k (is_known old t)) (sym known) ∙ same_at (is_known old) id t

  posted_written : (t : List ℕ) → posted_of new t ≡ cond (bytes_eq id t) w.postings (posted_of old t)
  posted_written t = ap (λ o. option_map_or (λ s. s.postings) o []) (writes t) ∙ cond_map (λ o. option_map_or (λ (s : TenantStreams). s.postings) o []) (bytes_eq id t) (Some w) (get_by_text old.by_id t)

  -- the same streams by their labels
  pub posted_stays : w.postings ≡ posted_of old id → (t : List ℕ) → posted_of new t ≡ posted_of old t
  posted_stays same t = posted_written t ∙ ap (λ k. cond (bytes_eq id t) k (posted_of old t)) same ∙ same_at (posted_of old) id t

  -- and one more
  pub posted_more : (s : Listed) → w.postings ≡ posted_of old id ++ s ∷ [] → (t : List ℕ) → posted_of new t ≡ cond (bytes_eq id t) (posted_of old t ++ s ∷ []) (posted_of old t)
  posted_more s more t =
      posted_written t
      ∙ ap (λ k. cond (bytes_eq id t) k (posted_of old t)) more
      ∙ same_under (bytes_eq id t) (λ l. l ++ s ∷ []) (posted_of old id) (posted_of old t) (posted_of old t) (same_at (posted_of old) id t)

  -- the same sums
  pub kept_stays : w.kept ≡ kept_of old id → (t : List ℕ) → kept_of new t ≡ kept_of old t
  kept_stays same t = kept_written t ∙ ap (λ k. cond (bytes_eq id t) k (kept_of old t)) same ∙ same_at (kept_of old) id t

  -- the same streams
  pub find_stays : ((n : List ℕ) → find_in w.by_name n ≡ find_of old id n) → (t n : List ℕ) → find_of new t n ≡ find_of old t n
  find_stays same t n = find_written t n ∙ ap (λ k. cond (bytes_eq id t) k (find_of old t n)) (same n) ∙ same_at (λ u. find_of old u n) id t

  -- one more stream
  pub find_more : (name : List ℕ) (number : ℕ) → ((n : List ℕ) → find_in w.by_name n ≡ update bytes_eq (find_of old id) name (Some number) n)
      → (t n : List ℕ) → find_of new t n ≡ cond (bytes_eq id t && bytes_eq name n) (Some number) (find_of old t n)
  find_more name number more t n =
      find_written t n
      ∙ ap (λ k. cond (bytes_eq id t) k (find_of old t n)) (more n)
      ∙ same_under (bytes_eq id t) (λ o. cond (bytes_eq name n) (Some number) o) (find_of old id n) (find_of old t n) (find_of old t n) (same_at (λ u. find_of old u n) id t)
      ∙ both_cond (bytes_eq id t) (bytes_eq name n) (Some number) (find_of old t n)
