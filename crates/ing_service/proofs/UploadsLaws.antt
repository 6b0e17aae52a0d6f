-- What is noted of uploads, by the places of chunks.
use Rattle.std.proofs.Common.{None, Ok, Err, ◌≡◌, ◌∙◌, ℕ, zero, suc, ◌+◌, ◌-◌, ◌<◌, ◌≤◌, List, [], ◌∷◌, ◌++◌, length, get_or, set, take, drop, map, ap, arith, refl, sym, subst}
use Rattle.std.specs.List.{AllZip}
use Rattle.std.specs.Prelude.{Option, Result, IfSome, IfOk}
use Rattle.std.proofs.lemmas.List.{drop-append-le, drop_more, length-drop, take_all, take_more}
use Rattle.ing_durable.specs.Flights.{Flown}
use Rattle.ing_durable.specs.Flushed.{Flushed}
use Rattle.ing_store.specs.declared.fault.StoreFault.{StoreFault}
use Rattle.ing_service.specs.Ends.{AreNotedOf, IsUploadOf}

module _ {X Y : Type 0} (P : X → Y → Type 0) where
  pub zip_push : (xs : List X) (ys : List Y) (x : X) (y : Y) → AllZip P xs ys → P x y → AllZip P (xs ++ x ∷ []) (ys ++ y ∷ [])
  zip_push [] [] x y so_far this = (this, tt)
  zip_push (a ∷ xs) (b ∷ ys) x y so_far this = (so_far.0, zip_push xs ys x y so_far.1 this)
  zip_push [] (b ∷ ys) x y so_far this = absurd so_far
  zip_push (a ∷ xs) [] x y so_far this = absurd so_far

  pub zip_set : (xs : List X) (ys : List Y) (i : ℕ) (y : Y) → i < length ys → AllZip P xs ys → ((d : X) → P (get_or xs i d) y) → AllZip P xs (set ys i y)
  zip_set [] [] i y lt all this = absurd (omega (arith, lt))
  zip_set (x ∷ xs) (z ∷ ys) zero y lt all this = (this x, all.1)
  zip_set (x ∷ xs) (z ∷ ys) (suc i) y lt all this = (all.0, zip_set xs ys i y (omega (arith, lt)) all.1 this)
  zip_set [] (z ∷ ys) i y lt all this = absurd all
  zip_set (x ∷ xs) [] i y lt all this = absurd all

  pub zip_at : (xs : List X) (ys : List Y) (i : ℕ) (d : X) (e : Y) → i < length ys → AllZip P xs ys → P (get_or xs i d) (get_or ys i e)
  zip_at [] [] i d e lt all = absurd (omega (arith, lt))
  zip_at (x ∷ xs) (y ∷ ys) zero d e lt all = all.0
  zip_at (x ∷ xs) (y ∷ ys) (suc i) d e lt all = zip_at xs ys i d e (omega (arith, lt)) all.1
  zip_at [] (y ∷ ys) i d e lt all = absurd all
  zip_at (x ∷ xs) [] i d e lt all = absurd all

  pub zip_long : (xs : List X) (ys : List Y) → AllZip P xs ys → length xs ≡ length ys
  zip_long [] [] all = refl
  zip_long (x ∷ xs) (y ∷ ys) all = ap suc (zip_long xs ys all.1)
  zip_long [] (y ∷ ys) all = absurd all
  zip_long (x ∷ xs) [] all = absurd all

  none_over : (ys : List Y) (y : Y) → AllZip P [] (ys ++ y ∷ []) → ⊥
  none_over [] y all = all
  none_over (z ∷ ys) y all = all

  none_under : (xs : List X) (x : X) → AllZip P (xs ++ x ∷ []) [] → ⊥
  none_under [] x all = all
  none_under (z ∷ xs) x all = all

  -- the last of both
  pub zip_pop : (xs : List X) (ys : List Y) (x : X) (y : Y) → AllZip P (xs ++ x ∷ []) (ys ++ y ∷ []) → AllZip P xs ys × P x y
  zip_pop [] [] x y all = (tt, all.0)
  zip_pop [] (b ∷ ys) x y all = absurd (none_over ys y all.1)
  zip_pop (a ∷ xs) [] x y all = absurd (none_under xs x all.1)
  zip_pop (a ∷ xs) (b ∷ ys) x y all = (let rest = zip_pop xs ys x y all.1 in ((all.0, rest.0), rest.1))

  -- of the last elements of a list, as many as there are of the other
  pub zip_last : (xs left : List X) (x : X) (ys less : List Y) (y : Y) (n m n' m' : ℕ) → xs ≡ left ++ x ∷ [] → ys ≡ less ++ y ∷ [] → n' + 1 ≡ n → m' + 1 ≡ m → n' ≡ length left
      → AllZip P (drop (n - m) xs) ys → AllZip P (drop (n' - m') left) less × P x y
  zip_last xs left x ys less y n m n' m' is are one other long all =
      let same : n - m ≡ n' - m' = omega (arith, one, other) in
      zip_pop (drop (n' - m') left) less x y
      (subst (λ l. AllZip P l (less ++ y ∷ [])) (drop-append-le (n' - m') left (x ∷ []) (omega (arith, long)))
      (subst (AllZip P (drop (n' - m') (left ++ x ∷ []))) are
      (subst (λ l. AllZip P (drop (n' - m') l) ys) is
      (subst (λ k. AllZip P (drop k xs) ys) same all))))

-- of what a list is made to
pub zip_made : {W X Y : Type 0} (P : X → Y → Type 0) (f : W → X) (ws : List W) (ys : List Y) → AllZip P (map f ws) ys → AllZip (λ w y. P (f w) y) ws ys
zip_made P f [] [] all = tt
zip_made P f [] (y ∷ ys) all = absurd all
zip_made P f (w ∷ ws) [] all = absurd all
zip_made P f (w ∷ ws) (y ∷ ys) all = (all.0, zip_made P f ws ys all.1)

-- what stands at a place of lists that are the same from there on
pub same_here : {X : Type 0} (xs ys : List X) (i : ℕ) (d : X) → drop i xs ≡ drop i ys → i < length xs → i < length ys → get_or xs i d ≡ get_or ys i d
same_here xs ys i d same here there = ap (λ l. get_or l 0 d) (sym (drop_more xs i d here) ∙ same ∙ drop_more ys i d there)

-- a place more where nothing is noted
pub unnoted_more : {R : Type 0} (bytes name : R → List ℕ) (chunks : List Flown) (i : ℕ) (noted : List (Option (Result (Flushed R) StoreFault))) → i < length chunks → AreNotedOf bytes name (take i chunks) noted
    → AreNotedOf bytes name (take (i + 1) chunks) (noted ++ None ∷ [])
unnoted_more bytes name [] i noted lt so_far = absurd (omega (arith, lt))
unnoted_more bytes name (x ∷ chunks) i noted lt so_far =
    subst (λ l. AreNotedOf bytes name l (noted ++ None ∷ [])) (sym (take_more (x ∷ chunks) i x lt))
    (zip_push (λ f noted. IfSome noted (λ outcome. IfOk outcome (IsUploadOf bytes name f))) (take i (x ∷ chunks)) noted (get_or (x ∷ chunks) i x) None so_far tt)

-- of the last elements of a list, as many as there are of another
pub last_of : {X Y : Type 0} (P : X → Y → Type 0) (xs : List X) (ys : List Y) (first n m : ℕ) → first ≤ n → n ≡ length xs → m ≡ length ys → AllZip P (take (n - first) (drop first xs)) ys
    → (m ≤ n) × (m ≡ n - first) × AllZip P (drop (n - m) xs) ys
last_of P xs ys first n m few all are zipped =
    let rest = length-drop first xs in
    let whole : take (n - first) (drop first xs) ≡ drop first xs = take_all (n - first) (drop first xs) (omega (arith, rest, all)) in
    let zip = subst (λ l. AllZip P l ys) whole zipped in
    let long = zip_long P (drop first xs) ys zip in
    let same : first ≡ n - m = omega (arith, rest, all, are, long, few) in
    (omega (arith, rest, all, are, long), omega (arith, rest, all, are, long), subst (λ k. AllZip P (drop k xs) ys) same zip)

-- what is said of what a list is made to is said of the list
pub ok_made : {W X Y T E : Type 0} (P : X → Y → Type 0) (f : W → X) (ws : List W) (xs : List X) (items : T → List Y) → xs ≡ map f ws → (r : Result T E) → IfOk r (λ all. AllZip P xs (items all))
    → IfOk r (λ all. AllZip (λ w y. P (f w) y) ws (items all))
ok_made P f ws xs items same (Err e) said = tt
ok_made P f ws xs items same (Ok all) said = zip_made P f ws (items all) (subst (λ l. AllZip P l (items all)) same said)
