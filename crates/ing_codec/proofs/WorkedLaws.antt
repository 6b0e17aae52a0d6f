-- The worked chunk, both ways.
use Rattle.std.proofs.Common.{◌≡◌, ℕ, zero, suc, Bool, true, false, ◌&&◌, List, [], ◌∷◌, codes, Ok, refl, sym, ap, ◌∙◌, arith}
use Rattle.std.specs.Prelude.{nat_lt}
use Rattle.std.specs.List.{list_all}
use Rattle.std.specs.Str.{is_utf8, IsAscii}
use Rattle.std.proofs.lemmas.Str.{is_utf8-from_IsUtf8, IsUtf8-from_ascii}
use Rattle.ing_labels.specs.CanonicalTests.{is_canonical}
use Rattle.ing_chunk.specs.Chunks.{AreInOrder}
use Rattle.ing_codec.specs.Fields.{is_name}
use Rattle.ing_codec.specs.declared.version.Version.TheVariants.{First, Second}
use Rattle.ing_codec.specs.ChunkObjects.{IsObject, chunk_text, text_in}
use Rattle.ing_codec.specs.ChunkReading.{numbered, read_chunk}
use Rattle.ing_codec.specs.WorkedObjects.{worked_chunk, worked_bytes, worked_bytes_of_first}
use Rattle.ing_codec.proofs.ChunkLaws.{text_again}
use Rattle.ing_codec.proofs.TextLaws.{is_less}
use Rattle.ing_codec.proofs.Order.{in_order_more}

pub written : chunk_text worked_chunk ≡ worked_bytes
unfolding text_in
written = refl

pub of_first : text_in First worked_chunk ≡ worked_bytes_of_first
unfolding text_in
of_first = refl

canonical : is_canonical (codes "{a=\"1\"}") ≡ true
unfolding is_canonical
canonical = refl

both : (a b : Bool) → (a && b) ≡ true → (a ≡ true) × (b ≡ true)
both true b h = (refl, h)
both false b h = absurd cc

small_first : (b : ℕ) (bs : List ℕ) → list_all (λ n. nat_lt n 128) (b ∷ bs) ≡ true → (nat_lt b 128 ≡ true) × (list_all (λ n. nat_lt n 128) bs ≡ true)
small_first b bs h = both (nat_lt b 128) (list_all (λ n. nat_lt n 128) bs) h

are_ascii : (bs : List ℕ) → list_all (λ n. nat_lt n 128) bs ≡ true → IsAscii bs
are_ascii [] h i = omega arith
are_ascii (b ∷ bs) h zero = is_less b 128 (small_first b bs h).0
are_ascii (b ∷ bs) h (suc i) = are_ascii bs (small_first b bs h).1 i

ascii_utf8 : (bs : List ℕ) → list_all (λ n. nat_lt n 128) bs ≡ true → is_utf8 bs ≡ true
ascii_utf8 bs h = is_utf8-from_IsUtf8 bs (IsUtf8-from_ascii bs (are_ascii bs h))

name_utf8 : is_name (codes "{a=\"1\"}") ≡ true
name_utf8 = rw (ascii_utf8 (codes "{a=\"1\"}") refl, canonical) refl

in_order : AreInOrder (numbered 1 3 (codes "yz") ∷ numbered 0 5 (codes "x") ∷ [])
in_order = in_order_more (numbered 1 3 (codes "yz") ∷ []) (numbered 0 5 (codes "x")) (λ k d low high. absurd (omega arith)) refl

is_object : IsObject worked_chunk
is_object = record {
  tenant = refl;
  name = name_utf8;
  numbered = record {
    name_length = omega arith;
    some = λ e. absurd cc;
    parts = (
      record {
        some = λ e. absurd cc;
        within = (record { low = omega arith; high = omega arith; line = omega arith }, (record { low = omega arith; high = omega arith; line = omega arith }, tt));
        apart = (refl, (refl, tt));
      },
      tt,
    );
    last = omega arith;
    few = omega arith;
  };
  blocks = (record { in_order = in_order; entries = (record { stamp = omega arith; utf8 = ascii_utf8 (codes "yz") refl }, (record { stamp = omega arith; utf8 = ascii_utf8 (codes "x") refl }, tt)) }, tt);
}

pub read : read_chunk worked_bytes ≡ Ok worked_chunk
read = ap read_chunk (sym written) ∙ text_again Second worked_chunk is_object

pub read_of_first : read_chunk worked_bytes_of_first ≡ Ok worked_chunk
read_of_first = ap read_chunk (sym of_first) ∙ text_again First worked_chunk is_object
