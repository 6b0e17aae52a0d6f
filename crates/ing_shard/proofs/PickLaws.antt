-- Whether a stream is picked by its labels, told by their canonical name.
use Rattle.std.proofs.Common.{◌≡◌, Bool, true, false, ◌&&◌, ℕ, List, ap, sym, refl, ◌∙◌, bytes_eq}
use Rattle.ing_labels.specs.Labels.{LabelMap, IsLabelSet}
use Rattle.ing_labels.specs.Canonical.{CanonicalNamesAreExact, canonical_of}
use Rattle.ing_labels.specs.CanonicalTests.{CanonicalNamesAreDecided, is_canonical}
use Rattle.ing_rows.specs.Rows.{StreamKey}
use Rattle.ing_shard.specs.Contents.{stream_of}

module _ (decided : CanonicalNamesAreDecided) (exact : CanonicalNamesAreExact) (tenant : List ℕ) (holds : LabelMap → Bool) where
  -- it holds of the labels of this canonical name
  matches : (name : List ℕ) (b : Bool) → is_canonical name ≡ b → Bool
  matches name true is = holds (decided.only name is).0
  matches name false is = false

  matches_labels : (m : LabelMap) → IsLabelSet m → (b : Bool) (is : is_canonical (canonical_of m) ≡ b) → matches (canonical_of m) b is ≡ holds m
  unfolding matches
  matches_labels m set true is =
      let named = decided.only (canonical_of m) is in
      ap holds (sym ((exact m named.0 set.names named.1.names).0 named.2))
  matches_labels m set false is = let no : true ≡ false = sym (decided.each m set) ∙ is in absurd cc

  pub there_is : (picked : StreamKey → Bool) × ((t : List ℕ) (m : LabelMap) → IsLabelSet m → picked (stream_of t m) ≡ (bytes_eq t tenant && holds m))
  there_is = (
    λ s. bytes_eq s.tenant tenant && matches s.name (is_canonical s.name) refl,
    λ t m set. ap (λ b. bytes_eq t tenant && b) (matches_labels m set (is_canonical (canonical_of m)) refl),
  )
