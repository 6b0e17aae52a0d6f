-- Which texts are UTF-8, tenant ids and canonical names.
use Rattle.std.proofs.Common.{◌≡◌, ℕ, zero, suc, ◌<◌, Bool, true, false, cond, ◌&&◌, List, [], ◌∷◌, Ok, Err, refl, ap, ◌∙◌, arith}
use Rattle.std.specs.Str.{IsUtf8, IsAscii, is_utf8}
use Rattle.std.specs.List.{list_all}
use Rattle.std.proofs.lemmas.Str.{IsUtf8-from_is_utf8, is_utf8-from_IsUtf8, IsUtf8-from_ascii}
use Rattle.std.proofs.lemmas.Bool.Decides.{nat_tests}
use Rattle.ing_rows.specs.Texts.{is_tenant, is_tenant_byte}
use Rattle.ing_labels.specs.Labels.{LabelMap, IsLabelSet}
use Rattle.ing_labels.specs.Canonical.{canonical_of}
use Rattle.ing_labels.specs.CanonicalTests.{is_canonical, CanonicalNamesAreDecided}
use Rattle.ing_codec.specs.declared.fault.CodecFault.{CodecFault}
use Rattle.ing_codec.specs.declared.fault.CodecFault.TheVariants.{BadField}
use Rattle.ing_codec.specs.Fields.{utf8_at, is_name}

pub utf8_read : (at : ℕ) (bs : List ℕ) → IsUtf8 bs → utf8_at at bs ≡ Ok bs
utf8_read at bs h = rw (is_utf8-from_IsUtf8 bs h) refl

not_utf8 : (bs : List ℕ) (b : Bool) → is_utf8 bs ≡ b → (IsUtf8 bs → b ≡ true) → (b ≡ true → IsUtf8 bs) → (IsUtf8 bs → b ≡ false) → b ≡ false
not_utf8 bs false e f g h = refl
not_utf8 bs true e f g h = h (g refl)

pub utf8_refused : (at : ℕ) (bs : List ℕ) → (IsUtf8 bs → is_utf8 bs ≡ false) → utf8_at at bs ≡ Err (BadField at)
utf8_refused at bs h = rw (not_utf8 bs (is_utf8 bs) refl (is_utf8-from_IsUtf8 bs) (IsUtf8-from_is_utf8 bs) h) refl

-- what a text that was refused says of its bytes
utf8_not_so : (at : ℕ) (b : Bool) (bs : List ℕ) (f : CodecFault) → cond b (Ok bs) (Err (BadField at)) ≡ Err f → (b ≡ false) × (f ≡ BadField at)
utf8_not_so at true bs f e = absurd cc
utf8_not_so at false bs f e = (refl, cc)

and_left : (a b : Bool) → (a && b) ≡ true → a ≡ true
and_left true b h = refl
and_left false b h = h

and_right : (a b : Bool) → (a && b) ≡ true → b ≡ true
and_right true b h = h
and_right false b h = absurd cc

byte_ascii : (c : ℕ) → is_tenant_byte c ≡ true → c < 128
byte_ascii c h = grind (arith, nat_tests)

all_bytes : (bs : List ℕ) → is_tenant bs ≡ true → list_all is_tenant_byte bs ≡ true
all_bytes bs h = and_right _ _ (and_left _ _ (and_left _ _ h))

each_ascii : (bs : List ℕ) → list_all is_tenant_byte bs ≡ true → IsAscii bs
each_ascii [] h i = omega arith
each_ascii (b ∷ bs) h zero = byte_ascii b (and_left _ _ h)
each_ascii (b ∷ bs) h (suc i) = each_ascii bs (and_right _ _ h) i

tenant_utf8 : (bs : List ℕ) (b : Bool) → is_tenant bs ≡ b → is_utf8 bs ≡ false → b ≡ false
tenant_utf8 bs false e h = refl
tenant_utf8 bs true e h = absurd (let t : is_utf8 bs ≡ true = is_utf8-from_IsUtf8 bs (IsUtf8-from_ascii bs (each_ascii bs (all_bytes bs e))) in cc)

pub no_tenant : (at : ℕ) (bs : List ℕ) (f : CodecFault) → utf8_at at bs ≡ Err f → cond (is_tenant bs) (Ok bs) (Err (BadField at)) ≡ Err f
no_tenant at bs f e =
    let p = utf8_not_so at (is_utf8 bs) bs f e in
    rw (tenant_utf8 bs (is_tenant bs) refl p.0, p.1) refl

-- the canonical name of labels is a name
pub named : (t : List ℕ) (m : LabelMap) → CanonicalNamesAreDecided → IsLabelSet m → IsUtf8 t → t ≡ canonical_of m → is_name t ≡ true
named t m decided labels u e =
    let utf8 : is_utf8 t ≡ true = is_utf8-from_IsUtf8 t u in
    let canonical : is_canonical t ≡ true = ap is_canonical e ∙ decided.each m labels in
    rw (utf8, canonical) refl
