-- What is found by name after a name is taken in or out.
use Rattle.std.proofs.Common.{◌≡◌, ℕ, Bool, List, Option, Some, None, true, false, refl, ap, cond, sym, ◌∙◌, bytes_eq, is_some, is_eq, nat_cmp, Ordering, Less, Equal, Greater}
use Rattle.std.specs.Option.{option_map_or, option_or}
use Rattle.std.specs.Cmp.{nat_cmp_is}
use Rattle.std.specs.BTreeMap as tree
use Rattle.std.specs.BTreeMap.{get_by_text}
use Rattle.std.specs.Map.{update}
use Rattle.std.proofs.lemmas.Map.Lookups.{exact_unsigned}
use Rattle.std.proofs.lemmas.Slice.Eq.{bytes_eq-Decides}
use Rattle.ing_labels.specs.Canonical.{canonical_of}
use Rattle.ing_shard.specs.declared.names.Named.{Named}
use Rattle.ing_shard.specs.declared.names.StreamNames.{StreamNames}
use Rattle.ing_shard.specs.Names.{name_hash, number_if_named, find_hashed, find_in}

-- ---- when numbers are the same

is_Equal : (o : Ordering) → is_eq o ≡ true → o ≡ Equal
is_Equal Less e = cc
is_Equal Equal e = refl
is_Equal Greater e = cc

same_number : (a b : ℕ) → is_eq (nat_cmp a b) ≡ true → a ≡ b
same_number a b e = exact_unsigned a b (is_Equal (nat_cmp a b) e)

number_itself : (a : ℕ) → is_eq (nat_cmp a a) ≡ true
number_itself a = ap is_eq (sym (nat_cmp_is a a Equal refl))

-- one name has one hash
same_hash : (name n : List ℕ) → bytes_eq name n ≡ true → is_eq (nat_cmp (name_hash name) (name_hash n)) ≡ true
same_hash name n same =
    ap (λ k. is_eq (nat_cmp (name_hash name) (name_hash k))) (sym ((bytes_eq-Decides name n).0 same))
    ∙ number_itself (name_hash name)

-- ---- of what is found in each of the maps

first_none : (h o : Option ℕ) → option_or h o ≡ None → h ≡ None
first_none None o e = refl
first_none (Some x) o e = e

not_some : {X : Type 0} (o : Option X) → is_some o ≡ false → o ≡ None
not_some None e = refl
not_some (Some x) e = cc

test_from_some : (b : Bool) (x : ℕ) → is_some (cond b (Some x) None) ≡ true → b ≡ true
test_from_some true x e = refl
test_from_some false x e = e

-- a name that is not found is not kept under its hash
pub not_hashed : (names : StreamNames) (n : List ℕ) → find_in names n ≡ None → find_hashed names n ≡ None
unfolding find_in
not_hashed names n none = first_none (find_hashed names n) (get_by_text names.others n) none

-- ---- a change in the ordered map

other_case : (b : Bool) (x h o : Option ℕ) → (b ≡ true → h ≡ None) → option_or h (cond b x o) ≡ cond b x (option_or h o)
other_case true x h o none = ap (λ k. option_or k x) (none refl)
other_case false x h o none = refl

-- a name that is not kept under its hash is written over in the ordered map
pub other_written : (name : List ℕ) (x : Option ℕ) (old new : StreamNames) → new.by_hash ≡ old.by_hash → find_hashed old name ≡ None
    → ((n : List ℕ) → get_by_text new.others n ≡ update bytes_eq (get_by_text old.others) name x n)
    → (n : List ℕ) → find_in new n ≡ cond (bytes_eq name n) x (find_in old n)
unfolding find_in
other_written name x old new same none writes n =
    ap (λ m. option_or (option_map_or (number_if_named n) (tree.get nat_cmp m (name_hash n)) None) (get_by_text new.others n)) same
    ∙ ap (option_or (find_hashed old n)) (writes n)
    ∙ other_case (bytes_eq name n) x (find_hashed old n) (get_by_text old.others n) (λ e. ap (find_hashed old) (sym ((bytes_eq-Decides name n).0 e)) ∙ none)

-- ---- a change under a hash

added_case : (e b : Bool) (number : ℕ) (f : Named → Option ℕ) (named : Named) (g : Option Named) (o : Option ℕ)
    → f named ≡ cond e (Some number) None → (b ≡ true → g ≡ None) → (e ≡ true → b ≡ true)
    → option_or (option_map_or f (cond b (Some named) g) None) o ≡ cond e (Some number) (option_or (option_map_or f g None) o)
added_case true true number f named g o is free hashed = ap (λ k. option_or k o) is
added_case true false number f named g o is free hashed = let no : false ≡ true = hashed refl in cc
added_case false true number f named g o is free hashed =
    ap (λ k. option_or k o) is ∙ ap (λ k. option_or (option_map_or f k None) o) (sym (free refl))
added_case false false number f named g o is free hashed = refl

-- a stream is written under a hash that no other has
pub hashed_added : (name : List ℕ) (named : Named) (old new : StreamNames) (hash : ℕ) → canonical_of named.labels ≡ name → hash ≡ name_hash name → new.others ≡ old.others
    → is_some (tree.get nat_cmp old.by_hash hash) ≡ false
    → tree.Updates nat_cmp old.by_hash new.by_hash hash (Some named)
    → (n : List ℕ) → find_in new n ≡ cond (bytes_eq name n) (Some named.number) (find_in old n)
unfolding find_in
hashed_added name named old new hash of_name hashed same free writes n =
    ap (λ m. option_or (find_hashed new n) (get_by_text m n)) same
    ∙ ap (λ g. option_or (option_map_or (number_if_named n) g None) (get_by_text old.others n)) (writes.0 (name_hash n))
    ∙ added_case (bytes_eq name n) (is_eq (nat_cmp hash (name_hash n))) named.number (number_if_named n) named
    (tree.get nat_cmp old.by_hash (name_hash n)) (get_by_text old.others n)
    (ap (λ bs. cond (bytes_eq bs n) (Some named.number) None) of_name)
    (λ e. ap (tree.get nat_cmp old.by_hash) (sym (same_number hash (name_hash n) e)) ∙ not_some (tree.get nat_cmp old.by_hash hash) free)
    (λ e. ap (λ h. is_eq (nat_cmp h (name_hash n))) hashed ∙ same_hash name n e)

-- the name is not kept under its hash, and every other name is found as before
pub record IsOut (name : List ℕ) (old new : StreamNames) : Type 0 where
  pub others : new.others ≡ old.others
  pub none : find_hashed new name ≡ None
  pub stay : (n : List ℕ) → bytes_eq name n ≡ false → find_in new n ≡ find_in old n

-- what has one name has no other
of_another : (name n : List ℕ) (g : Option Named) → is_some (option_map_or (number_if_named name) g None) ≡ true → bytes_eq name n ≡ false → option_map_or (number_if_named n) g None ≡ None
of_another name n None found apart = refl
of_another name n (Some named) found apart =
    let same : canonical_of named.labels ≡ name = (bytes_eq-Decides (canonical_of named.labels) name).0 (test_from_some (bytes_eq (canonical_of named.labels) name) named.number found) in
    ap (λ bs. cond (bytes_eq bs n) (Some named.number) None) same
    ∙ ap (λ b. cond b (Some named.number) None) apart

gone_case : (b : Bool) (f : Named → Option ℕ) (g : Option Named) → (b ≡ true → option_map_or f g None ≡ None) → option_map_or f (cond b None g) None ≡ option_map_or f g None
gone_case true f g none = sym (none refl)
gone_case false f g none = refl

-- what is kept under a hash by this name is taken out
pub hashed_out : (name : List ℕ) (old new : StreamNames) (hash : ℕ) → hash ≡ name_hash name → new.others ≡ old.others
    → is_some (find_hashed old name) ≡ true
    → tree.Updates nat_cmp old.by_hash new.by_hash hash None
    → IsOut name old new
unfolding find_in
hashed_out name old new hash hashed same found writes = record {
  others = same;
  none = ap (λ h. option_map_or (number_if_named name) (tree.get nat_cmp new.by_hash h) None) (sym hashed) ∙ ap (λ g. option_map_or (number_if_named name) g None) writes.1;
  stay = λ n apart.
      ap (λ m. option_or (find_hashed new n) (get_by_text m n)) same
      ∙ ap (λ g. option_or (option_map_or (number_if_named n) g None) (get_by_text old.others n)) (writes.0 (name_hash n))
      ∙ ap (λ h. option_or h (get_by_text old.others n)) (gone_case (is_eq (nat_cmp hash (name_hash n))) (number_if_named n) (tree.get nat_cmp old.by_hash (name_hash n))
      (λ e. ap (λ k. option_map_or (number_if_named n) (tree.get nat_cmp old.by_hash k) None) (sym (same_number hash (name_hash n) e) ∙ hashed)
      ∙ of_another name n (tree.get nat_cmp old.by_hash (name_hash name)) found apart));
}

-- nothing is kept under its hash by this name
pub nothing_out : (name : List ℕ) (names : StreamNames) → is_some (find_hashed names name) ≡ false → IsOut name names names
nothing_out name names none = record {
  others = refl;
  none = not_some (find_hashed names name) none;
  stay = λ n apart. refl;
}

out_case : (b : Bool) (x y : Option ℕ) → (b ≡ false → x ≡ y) → cond b None x ≡ cond b None y
out_case true x y same = refl
out_case false x y same = same refl

-- a name is taken out of both maps
pub both_out : (name : List ℕ) (old mid new : StreamNames) → IsOut name old mid → new.by_hash ≡ mid.by_hash
    → ((n : List ℕ) → get_by_text new.others n ≡ update bytes_eq (get_by_text mid.others) name None n)
    → (n : List ℕ) → find_in new n ≡ cond (bytes_eq name n) None (find_in old n)
both_out name old mid new out same writes n =
    other_written name None mid new same out.none writes n
    ∙ out_case (bytes_eq name n) (find_in mid n) (find_in old n) (out.stay n)
