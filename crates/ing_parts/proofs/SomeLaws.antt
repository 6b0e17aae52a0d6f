-- Some of all entries, none invented and none doubled.
use Rattle.std.proofs.Common.{Bool, true, false, cond, List, [], ◌∷◌, ◌++◌, filter, append_assoc, append-nil, sym, subst}
use Rattle.std.specs.Prelude.{All, IsPermutation}
use Rattle.std.specs.List.{Contains}
use Rattle.std.proofs.lemmas.List.Elements.{All-contains, All-contains_itself, All-weaker, Contains-append_left}
use Rattle.std.proofs.lemmas.List.Sorted.{Contains-permutation, IsPermutation-refl, IsPermutation-trans, IsPermutation-cons, IsPermutation-middle, IsPermutation-append_comm, IsPermutation-append_left, IsPermutation-append_right}
use Rattle.ing_parts.specs.declared.found.Found.{Found}
use Rattle.ing_parts.specs.Answers.{AreSomeOf}

-- a rearrangement is of them
pub some_alike : (xs ys : List Found) → IsPermutation xs ys → AreSomeOf xs ys
some_alike xs ys same = record { others = []; same = subst (λ l. IsPermutation l ys) (sym (append-nil xs)) same }

pub some_still : (xs : List Found) → AreSomeOf xs xs
some_still xs = some_alike xs xs (IsPermutation-refl xs)

-- what stands before others is of all of them
pub some_first : (xs more : List Found) → AreSomeOf xs (xs ++ more)
some_first xs more = record { others = more; same = IsPermutation-refl (xs ++ more) }

-- some of some
pub some_through : (xs ys zs : List Found) → AreSomeOf xs ys → AreSomeOf ys zs → AreSomeOf xs zs
some_through xs ys zs a b = record {
  others = a.others ++ b.others;
  same =
      subst (λ l. IsPermutation l zs) (append_assoc xs a.others b.others)
      (IsPermutation-trans ((xs ++ a.others) ++ b.others) (ys ++ b.others) zs (IsPermutation-append_left b.others (xs ++ a.others) ys a.same) b.same);
}

-- side by side with others, which stand behind or before them
pub some_beside : (xs ys us : List Found) → AreSomeOf xs ys → AreSomeOf (xs ++ us) (ys ++ us)
some_beside xs ys us a = record {
  others = a.others;
  same =
      IsPermutation-trans ((xs ++ us) ++ a.others) ((xs ++ a.others) ++ us) (ys ++ us)
      (subst (λ l. IsPermutation l ((xs ++ a.others) ++ us)) (sym (append_assoc xs us a.others))
      (subst (λ l. IsPermutation (xs ++ (us ++ a.others)) l) (sym (append_assoc xs a.others us)) (IsPermutation-append_right xs (us ++ a.others) (a.others ++ us) (IsPermutation-append_comm us a.others))))
      (IsPermutation-append_left us (xs ++ a.others) ys a.same);
}

pub some_behind : (us xs ys : List Found) → AreSomeOf xs ys → AreSomeOf (us ++ xs) (us ++ ys)
some_behind us xs ys a = record {
  others = a.others;
  same = subst (λ l. IsPermutation l (us ++ ys)) (sym (append_assoc us xs a.others)) (IsPermutation-append_right us (xs ++ a.others) ys a.same);
}

-- what holds of each of all holds of each of some
pub some_have : (P : Found → Type 0) (xs ys : List Found) → AreSomeOf xs ys → All P ys → All P xs
some_have P xs ys a all = All-weaker (Contains xs) P (λ f of. All-contains P ys f all (Contains-permutation (xs ++ a.others) ys f a.same (Contains-append_left xs a.others f of))) xs (All-contains_itself xs)

-- those that pass a test are of all
module _ (test : Found → Bool) where
  abbrev failing : List Found → List Found
  failing [] = []
  failing (f ∷ fs) = cond (test f) (failing fs) (f ∷ failing fs)

  apart : (fs : List Found) → IsPermutation (filter test fs ++ failing fs) fs
  apart [] = IsPermutation-refl []
  apart (f ∷ fs) = step (test f) (apart fs) where
    step : (b : Bool) → IsPermutation (filter test fs ++ failing fs) fs → IsPermutation (cond b (f ∷ filter test fs) (filter test fs) ++ cond b (failing fs) (f ∷ failing fs)) (f ∷ fs)
    step true rest = IsPermutation-cons f (filter test fs ++ failing fs) fs rest
    step false rest =
        IsPermutation-trans (filter test fs ++ f ∷ failing fs) (f ∷ (filter test fs ++ failing fs)) (f ∷ fs) (IsPermutation-middle (filter test fs) f (failing fs))
        (IsPermutation-cons f (filter test fs ++ failing fs) fs rest)

  pub some_pass : (fs : List Found) → AreSomeOf (filter test fs) fs
  some_pass fs = record { others = failing fs; same = apart fs }
