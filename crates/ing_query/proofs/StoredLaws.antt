-- Stored parts: which need not be read, and what is known of one that is.
use Rattle.std.proofs.Common.{◌≡◌, ℕ, ◌≤◌, ◌<◌, ◌⊎◌, inl, inr, Bool, true, false, not, ◌&&◌, cond, nat_le, nat_lt, List, [], ◌∷◌, Ok, refl, ap, sym, ◌∙◌, subst, arith}
use Rattle.std.specs.Prelude.{Result, Err, IfErr}
use Rattle.std.specs.Result.{IsErrAnd}
use Rattle.std.specs.List.{Contains}
use Rattle.std.proofs.lemmas.List.Elements.{Contains-append_left, Contains-append_right, Contains-push}
use Rattle.std.proofs.lemmas.Bool.{le-ltb, lt-leb}
use Rattle.ing_chunk.specs.declared.numbered.Numbered.{Numbered}
use Rattle.ing_chunk.specs.Chunks.{least_of, greatest_of}
use Rattle.ing_parts.specs.Listings.{Listed}
use Rattle.ing_parts.specs.declared.found.Found.{Found}
use Rattle.ing_parts.specs.Parts.{found_between, found_of, is_behind}
use Rattle.ing_parts.specs.Questions.{Question}
use Rattle.ing_query.specs.declared.fault.QueryFault.{QueryFault}
use Rattle.ing_query.specs.declared.fault.QueryFault.TheVariants.{NoMemory, StoreFault, BadObject}
use Rattle.ing_query.specs.Fetched.{BadIs, KeyIs, NotBad, WasBad, WasBadIn}

outside : (a b : Bool) → b ≡ false → (a && b) ≡ false
outside true b h = h
outside false b h = refl

module _ (name : List ℕ) (q : Question) where
  -- the entries of one and of more, where it is known whether the one has a stamp that is wanted
  one_more : Numbered → List Numbered → Bool → List Found
  one_more e es t = cond (t && is_behind q.order q.after (found_of name e)) (found_of name e ∷ found_between name q es) (found_between name q es)

  -- all stamps are at the end of the range or later
  pub none_late : (es : List Numbered) → q.end ≤ least_of es → found_between name q es ≡ []
  unfolding one_more
  none_late [] h = refl
  none_late (e ∷ es) h =
      let late : nat_lt e.entry.stamp q.end ≡ false = le-ltb e.entry.stamp q.end (omega arith) in
      ap (one_more e es) (outside (nat_le q.start e.entry.stamp) (nat_lt e.entry.stamp q.end) late) ∙ none_late es (omega arith)

  -- all stamps are before the range
  pub none_early : (es : List Numbered) → greatest_of es < q.start → found_between name q es ≡ []
  unfolding one_more
  none_early [] h = refl
  none_early (e ∷ es) h =
      let early : nat_le q.start e.entry.stamp ≡ false = lt-leb q.start e.entry.stamp (omega arith) in
      ap (λ b. one_more e es (b && nat_lt e.entry.stamp q.end)) early ∙ none_early es (omega arith)

pub holds : (b : Bool) → not b ≡ false → b ≡ true
holds true h = refl
holds false h = absurd (cc)

-- a key of one kind is of a wider kind
pub key_is_of : (P Q : List ℕ → Type 0) → ((k : List ℕ) → P k → Q k) → (fault : QueryFault) → KeyIs P fault → KeyIs Q fault
key_is_of P Q wider NoMemory h = tt
key_is_of P Q wider (StoreFault key) h = wider key h
key_is_of P Q wider (BadObject key) h = wider key h

-- a fault that is handed on
pub err_keeps : {T : Type 0} (P : QueryFault → Type 0) (fault : QueryFault) (r : Result T QueryFault) → P fault → IsErrAnd r (λ e. e ≡ fault) → IfErr r P
err_keeps P fault (Ok x) h is = tt
err_keeps P fault (Err e) h is = subst P (sym is) h

-- a fault that is no bad object has none of any kind
pub bad_of_none : (P : List ℕ → Type 0) (fault : QueryFault) → NotBad fault → BadIs P fault
bad_of_none P NoMemory h = tt
bad_of_none P (StoreFault key) h = tt
bad_of_none P (BadObject key) h = absurd h

-- a bad object of what is listed is one of a kind that has it
pub bad_is_of : (P : Listed → Type 0) (listed : Listed) → P listed → (fault : QueryFault) → KeyIs (λ k. k ≡ listed.key) fault → BadIs (λ k. WasBad listed) fault → BadIs (WasBadIn P) fault
bad_is_of P listed of NoMemory key bad = tt
bad_is_of P listed of (StoreFault k) key bad = tt
bad_is_of P listed of (BadObject k) key bad = (listed, of, key, bad)

-- a bad object of one kind is of a wider kind
pub bad_wider : (P Q : Listed → Type 0) → ((l : Listed) → P l → Q l) → (fault : QueryFault) → BadIs (WasBadIn P) fault → BadIs (WasBadIn Q) fault
bad_wider P Q wider NoMemory h = tt
bad_wider P Q wider (StoreFault key) h = tt
bad_wider P Q wider (BadObject key) h = (h.0, wider h.0 h.1, h.2, h.3)

module _ {X : Type 0} where
  pub first_contained : (k : X) (ks : List X) → Contains (k ∷ ks) k
  first_contained k ks = Contains-append_left (k ∷ []) ks k (Contains-push [] k)

  pub later_contained : (k : X) (ks : List X) (q : X) → Contains ks q → Contains (k ∷ ks) q
  later_contained k ks q h = Contains-append_right (k ∷ []) ks q h
