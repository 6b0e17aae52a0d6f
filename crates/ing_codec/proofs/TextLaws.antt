-- The fields with texts, and what each object begins with: read as they were written, and written as they were read.
use Rattle.std.proofs.Common.{◌≡◌, ◌⊎◌, inl, inr, ℕ, ◌+◌, ◌^◌, ◌<◌, ◌≤◌, Bool, true, false, cond, ◌&&◌, ◌||◌, List, [], ◌∷◌, ◌++◌, length, codes, Ok, Err, refl, sym, ap, subst, ◌∙◌, append_assoc, arith}
use Rattle.std.specs.Prelude.{⊤, ◌==◌, nat_lt, nat_le, bytes_eq}
use Rattle.std.specs.Int.{w32, w64, to_be_bytes}
use Rattle.std.specs.Str.{is_utf8}
use Rattle.std.specs.List.{list_all}
use Rattle.std.proofs.lemmas.Bool.Decides.{nat_tests}
use Rattle.std.proofs.lemmas.Slice.Eq.{bytes_eq-Decides}
use Rattle.ing_refusals.specs.Results.{◌>>=◌}
use Rattle.ing_rows.specs.Texts.{is_tenant, is_tenant_byte}
use Rattle.ing_codec.specs.declared.fault.CodecFault.TheVariants.{BadMagic, BadVersion, BadField}
use Rattle.ing_chunk.specs.Parts.{max_line}
use Rattle.ing_codec.specs.declared.version.Version.{Version}
use Rattle.ing_codec.specs.declared.version.Version.TheVariants.{First, Second}
use Rattle.ing_codec.specs.Versions.{version_byte}
use Rattle.ing_codec.specs.Fields.{Rest, known_version, meta_text, read_known_version, read_meta, read_owner, read_bytes, read_number, read_byte, read_magic, read_version, read_tenant, read_name, read_line, read_stamp, read_first, read_front, short_text, long_text, front_text, is_name}
use Rattle.ing_codec.specs.ChunkReading.{read_chunk_front}
use Rattle.ing_codec.proofs.Binds.{bind_ok, passed, not_stopped, ok_is}
use Rattle.ing_codec.proofs.FieldLaws.{IsBytes, Takes, then_takes, rest, Again, bytes_take, bytes_again, wide32, wide64, number_takes, number_again, byte_takes}

same_bytes : (a b : List ℕ) → bytes_eq a b ≡ true → a ≡ b
same_bytes a b h = (bytes_eq-Decides a b).0 h

eq_bytes : (a : List ℕ) → bytes_eq a a ≡ true
eq_bytes a = (bytes_eq-Decides a a).1 refl

-- ---- tests of numbers

pub nat_eq_true : (a b : ℕ) → (a == b) ≡ true → a ≡ b
nat_eq_true a b h = grind (arith, nat_tests)

pub not_more : (a b : ℕ) → nat_lt a b ≡ false → b ≤ a
not_more a b h = grind (arith, nat_tests)

pub is_less : (a b : ℕ) → nat_lt a b ≡ true → a < b
is_less a b h = grind (arith, nat_tests)

pub less : (a b : ℕ) → a < b → nat_lt a b ≡ true
less a b h = grind (arith, nat_tests)

pub at_most : (a b : ℕ) → nat_le a b ≡ true → a ≤ b
at_most a b h = grind (arith, nat_tests)

pub not_above : (a b : ℕ) → a ≤ b → nat_le a b ≡ true
not_above a b h = grind (arith, nat_tests)

by_length : (n : ℕ) (a b c : Bool) → ((((nat_lt 0 n && nat_le n 150) && a) && b) && c) ≡ true → ((n == 0) || nat_lt 150 n) ≡ false
by_length n a b c h = grind (arith, nat_tests)

-- ---- the letters and the version

magic_takes : (letters : List ℕ) (r after : Rest) → IsBytes r.bytes → read_magic letters r ≡ Ok after → Takes r letters after
unfolding read_magic
magic_takes letters r after fits e =
    let m = bind_ok (read_bytes 4 r) (λ m. cond (bytes_eq m.0 letters) (Ok m.1) (Err BadMagic)) after e in
    let g = passed (bytes_eq m.0.0 letters) BadMagic (Ok m.0.1) after m.2 in
    let t = bytes_take 4 r m.0 fits m.1 in
    let same : m.0.0 ≡ letters = same_bytes m.0.0 letters g.0 in
    subst (λ (y : Rest). Takes r letters y) (ok_is m.0.1 after g.1) (subst (λ (l : List ℕ). Takes r l m.0.1) same t.0)

magic_again : (letters : List ℕ) → length letters ≡ 4 → (at : ℕ) (more : List ℕ) → (after : ℕ) × (read_magic letters (rest at (letters ++ more)) ≡ Ok (rest after more))
unfolding read_magic
magic_again letters len at more =
    let b = bytes_again letters 4 len at more in
    (b.0, rw (b.1, eq_bytes letters) refl)

version_takes : (version : ℕ) (r after : Rest) → IsBytes r.bytes → read_version version r ≡ Ok after → Takes r (version ∷ []) after
unfolding read_version
version_takes version r after fits e =
    let v = bind_ok (read_byte r) (λ v. cond (v.0 == version) (Ok v.1) (Err BadVersion)) after e in
    let g = passed (v.0.0 == version) BadVersion (Ok v.0.1) after v.2 in
    let t = byte_takes r v.0 fits v.1 in
    let same : v.0.0 ≡ version = nat_eq_true v.0.0 version g.0 in
    subst (λ (y : Rest). Takes r (version ∷ []) y) (ok_is v.0.1 after g.1) (subst (λ (n : ℕ). Takes r (n ∷ []) v.0.1) same t)

-- a number is equal to itself
nat_eq_self : (n : ℕ) → (n == n) ≡ true
nat_eq_self n = grind (arith, nat_tests)

version_again : (version at : ℕ) (more : List ℕ) → (after : ℕ) × (read_version version (rest at (version ∷ more)) ≡ Ok (rest after more))
unfolding read_version
version_again version at more = (at + 1, rw (nat_eq_self version) refl)

-- which of two it is
one_of_two : (one two : Bool) (r : Rest) (v : Version × Rest) → cond one (Ok (First, r)) (cond two (Ok (Second, r)) (Err BadVersion)) ≡ Ok v
    → ((one ≡ true) × ((First, r) ≡ v)) ⊎ ((two ≡ true) × ((Second, r) ≡ v))
one_of_two true two r v e = inl (refl, ok_is (First, r) v e)
one_of_two false true r v e = inr (refl, ok_is (Second, r) v e)
one_of_two false false r v e = absurd cc

known_is : (byte : ℕ) (r : Rest) (v : Version × Rest) → known_version byte r ≡ Ok v → (byte ≡ version_byte v.0) × (r ≡ v.1)
known_is byte r v e = of_case (one_of_two (byte == 1) (byte == 2) r v e) where
  of_case : (((byte == 1) ≡ true) × ((First, r) ≡ v)) ⊎ (((byte == 2) ≡ true) × ((Second, r) ≡ v)) → (byte ≡ version_byte v.0) × (r ≡ v.1)
  of_case (inl is) = subst (λ (y : Version × Rest). (byte ≡ version_byte y.0) × (r ≡ y.1)) is.1 (nat_eq_true byte 1 is.0, refl)
  of_case (inr is) = subst (λ (y : Version × Rest). (byte ≡ version_byte y.0) × (r ≡ y.1)) is.1 (nat_eq_true byte 2 is.0, refl)

pub known_takes : (r : Rest) (v : Version × Rest) → IsBytes r.bytes → read_known_version r ≡ Ok v → Takes r (version_byte v.0 ∷ []) v.1
unfolding read_known_version
known_takes r v fits e =
    let b = bind_ok (read_byte r) (λ b. known_version b.0 b.1) v e in
    let is = known_is b.0.0 b.0.1 v b.2 in
    let t = byte_takes r b.0 fits b.1 in
    subst (λ (y : Rest). Takes r (version_byte v.0 ∷ []) y) is.1 (subst (λ (n : ℕ). Takes r (n ∷ []) b.0.1) is.0 t)

pub known_again : (v : Version) → Again read_known_version (version_byte v ∷ []) v
unfolding read_known_version
known_again First at more = (at + 1, refl)
known_again Second at more = (at + 1, refl)

-- ---- what stands behind a line

pub meta_takes : (v : Version) (r : Rest) (x : ⊤ × Rest) → IsBytes r.bytes → read_meta v r ≡ Ok x → Takes r (meta_text v) x.1
unfolding read_meta
meta_takes First r x fits e = subst (λ (y : ⊤ × Rest). Takes r [] y.1) (ok_is (tt, r) x e) (record { parts = refl; fits = fits })
meta_takes Second r x fits e =
    let n = bind_ok (read_byte r) (λ n. cond (n.0 == 0) (Ok (tt, n.1)) (Err (BadField r.at))) x e in
    let g = passed (n.0.0 == 0) (BadField r.at) (Ok (tt, n.0.1)) x n.2 in
    let t = byte_takes r n.0 fits n.1 in
    let none : n.0.0 ≡ 0 = nat_eq_true n.0.0 0 g.0 in
    subst (λ (y : ⊤ × Rest). Takes r (0 ∷ []) y.1) (ok_is (tt, n.0.1) x g.1) (subst (λ (k : ℕ). Takes r (k ∷ []) n.0.1) none t)

pub meta_again : (v : Version) → Again (read_meta v) (meta_text v) tt
unfolding read_meta
meta_again First at more = (at, refl)
meta_again Second at more = (at + 1, refl)

-- ---- texts

tenant_length : (t : List ℕ) → is_tenant t ≡ true → ((length t == 0) || nat_lt 150 (length t)) ≡ false
tenant_length t h = by_length (length t) (list_all is_tenant_byte t) _ _ h

pub tenant_takes : (r : Rest) (x : List ℕ × Rest) → IsBytes r.bytes → read_tenant r ≡ Ok x → Takes r (short_text x.0) x.1 × (is_tenant x.0 ≡ true)
unfolding read_tenant
tenant_takes r x fits e =
    let n = bind_ok (read_byte r) (λ n. cond ((n.0 == 0) || nat_lt 150 n.0) (Err (BadField r.at)) (read_bytes n.0 n.1 >>= λ t. cond (is_tenant t.0) (Ok t) (Err (BadField n.1.at)))) x e in
    let g = not_stopped ((n.0.0 == 0) || nat_lt 150 n.0.0) (BadField r.at) (read_bytes n.0.0 n.0.1 >>= λ t. cond (is_tenant t.0) (Ok t) (Err (BadField n.0.1.at))) x n.2 in
    let t = bind_ok (read_bytes n.0.0 n.0.1) (λ t. cond (is_tenant t.0) (Ok t) (Err (BadField n.0.1.at))) x g.1 in
    let p = passed (is_tenant t.0.0) (BadField n.0.1.at) (Ok t.0) x t.2 in
    let one = byte_takes r n.0 fits n.1 in
    let two = bytes_take n.0.0 n.0.1 t.0 one.fits t.1 in
    let both : Takes r (n.0.0 ∷ t.0.0) t.0.1 = then_takes r (n.0.0 ∷ []) n.0.1 t.0.0 t.0.1 one two.0 in
    let made : Takes r (short_text t.0.0) t.0.1 = subst (λ (k : ℕ). Takes r (k ∷ t.0.0) t.0.1) (sym two.1) both in
    subst (λ (y : List ℕ × Rest). Takes r (short_text y.0) y.1 × (is_tenant y.0 ≡ true)) (ok_is t.0 x p.1) (made, p.0)

pub tenant_again : (t : List ℕ) → is_tenant t ≡ true → Again read_tenant (short_text t) t
unfolding read_tenant
tenant_again t h at more =
    let b = bytes_again t (length t) refl (at + 1) more in
    (b.0, rw (tenant_length t h, b.1, h) refl)

pub name_takes : (r : Rest) (x : List ℕ × Rest) → IsBytes r.bytes → read_name r ≡ Ok x → Takes r (long_text x.0) x.1 × (is_name x.0 ≡ true) × (length x.0 < 2 ^ 32)
unfolding read_name
name_takes r x fits e =
    let n = bind_ok (read_number w32 r) (λ n. read_bytes n.0 n.1 >>= λ t. cond (is_name t.0) (Ok t) (Err (BadField n.1.at))) x e in
    let t = bind_ok (read_bytes n.0.0 n.0.1) (λ t. cond (is_name t.0) (Ok t) (Err (BadField n.0.1.at))) x n.2 in
    let p = passed (is_name t.0.0) (BadField n.0.1.at) (Ok t.0) x t.2 in
    let one = number_takes w32 (2 ^ 32) wide32 r n.0 fits n.1 in
    let two = bytes_take n.0.0 n.0.1 t.0 one.0.fits t.1 in
    let both = then_takes r (to_be_bytes w32 n.0.0) n.0.1 t.0.0 t.0.1 one.0 two.0 in
    let made : Takes r (long_text t.0.0) t.0.1 = subst (λ (k : ℕ). Takes r (to_be_bytes w32 k ++ t.0.0) t.0.1) (sym two.1) both in
    let short : length t.0.0 < 2 ^ 32 = omega (arith, two.1, one.1) in
    subst (λ (y : List ℕ × Rest). Takes r (long_text y.0) y.1 × (is_name y.0 ≡ true) × (length y.0 < 2 ^ 32)) (ok_is t.0 x p.1) (made, p.0, short)

regroup : (a b more : List ℕ) (at : ℕ) → rest at ((a ++ b) ++ more) ≡ rest at (a ++ (b ++ more))
regroup a b more at = ap (rest at) (append_assoc a b more)

pub name_again : (t : List ℕ) → is_name t ≡ true → length t < 2 ^ 32 → Again read_name (long_text t) t
unfolding read_name
name_again t h lt at more =
    let n = number_again w32 (2 ^ 32) wide32 (length t) lt at (t ++ more) in
    let b = bytes_again t (length t) refl n.0 more in
    (b.0, ap read_name (regroup (to_be_bytes w32 (length t)) t more at) ∙ rw (n.1, b.1, h) refl)

pub line_takes : (r : Rest) (x : List ℕ × Rest) → IsBytes r.bytes → read_line r ≡ Ok x → Takes r (long_text x.0) x.1 × (is_utf8 x.0 ≡ true) × (length x.0 ≤ max_line)
unfolding read_line
line_takes r x fits e =
    let n = bind_ok (read_number w32 r) (λ n. cond (nat_lt max_line n.0) (Err (BadField r.at)) (read_bytes n.0 n.1 >>= λ t. cond (is_utf8 t.0) (Ok t) (Err (BadField n.1.at)))) x e in
    let g = not_stopped (nat_lt max_line n.0.0) (BadField r.at) (read_bytes n.0.0 n.0.1 >>= λ t. cond (is_utf8 t.0) (Ok t) (Err (BadField n.0.1.at))) x n.2 in
    let t = bind_ok (read_bytes n.0.0 n.0.1) (λ t. cond (is_utf8 t.0) (Ok t) (Err (BadField n.0.1.at))) x g.1 in
    let p = passed (is_utf8 t.0.0) (BadField n.0.1.at) (Ok t.0) x t.2 in
    let one = number_takes w32 (2 ^ 32) wide32 r n.0 fits n.1 in
    let two = bytes_take n.0.0 n.0.1 t.0 one.0.fits t.1 in
    let both = then_takes r (to_be_bytes w32 n.0.0) n.0.1 t.0.0 t.0.1 one.0 two.0 in
    let made : Takes r (long_text t.0.0) t.0.1 = subst (λ (k : ℕ). Takes r (to_be_bytes w32 k ++ t.0.0) t.0.1) (sym two.1) both in
    let short : length t.0.0 ≤ max_line = omega (arith, two.1, not_more max_line n.0.0 g.0) in
    subst (λ (y : List ℕ × Rest). Takes r (long_text y.0) y.1 × (is_utf8 y.0 ≡ true) × (length y.0 ≤ max_line)) (ok_is t.0 x p.1) (made, p.0, short)

pub line_again : (t : List ℕ) → is_utf8 t ≡ true → length t ≤ max_line → Again read_line (long_text t) t
unfolding read_line
line_again t h le at more =
    let n = number_again w32 (2 ^ 32) wide32 (length t) (omega arith) at (t ++ more) in
    let b = bytes_again t (length t) refl n.0 more in
    let short : nat_lt max_line (length t) ≡ false = grind (arith, nat_tests) in
    (b.0, ap read_line (regroup (to_be_bytes w32 (length t)) t more at) ∙ rw (n.1, short, b.1, h) refl)

-- ---- numbers with a bound

pub stamp_takes : (r : Rest) (x : ℕ × Rest) → IsBytes r.bytes → read_stamp r ≡ Ok x → Takes r (to_be_bytes w64 x.0) x.1 × (x.0 < 2 ^ 63)
unfolding read_stamp
stamp_takes r x fits e =
    let n = bind_ok (read_number w64 r) (λ n. cond (nat_lt n.0 (2 ^ 63)) (Ok n) (Err (BadField r.at))) x e in
    let p = passed (nat_lt n.0.0 (2 ^ 63)) (BadField r.at) (Ok n.0) x n.2 in
    let one = number_takes w64 (2 ^ 64) wide64 r n.0 fits n.1 in
    subst (λ (y : ℕ × Rest). Takes r (to_be_bytes w64 y.0) y.1 × (y.0 < 2 ^ 63)) (ok_is n.0 x p.1) (one.0, is_less n.0.0 (2 ^ 63) p.0)

pub stamp_again : (n : ℕ) → n < 2 ^ 63 → Again read_stamp (to_be_bytes w64 n) n
unfolding read_stamp
stamp_again n lt at more =
    let b = number_again w64 (2 ^ 64) wide64 n (omega arith) at more in
    (b.0, rw (b.1, less n (2 ^ 63) lt) refl)

pub first_takes : (r : Rest) (x : ℕ × Rest) → IsBytes r.bytes → read_first r ≡ Ok x → Takes r (to_be_bytes w64 x.0) x.1 × (x.0 ≤ 2 ^ 62)
unfolding read_first
first_takes r x fits e =
    let n = bind_ok (read_number w64 r) (λ n. cond (nat_le n.0 (2 ^ 62)) (Ok n) (Err (BadField r.at))) x e in
    let p = passed (nat_le n.0.0 (2 ^ 62)) (BadField r.at) (Ok n.0) x n.2 in
    let one = number_takes w64 (2 ^ 64) wide64 r n.0 fits n.1 in
    subst (λ (y : ℕ × Rest). Takes r (to_be_bytes w64 y.0) y.1 × (y.0 ≤ 2 ^ 62)) (ok_is n.0 x p.1) (one.0, at_most n.0.0 (2 ^ 62) p.0)

pub first_again : (n : ℕ) → n ≤ 2 ^ 62 → Again read_first (to_be_bytes w64 n) n
unfolding read_first
first_again n le at more =
    let b = number_again w64 (2 ^ 64) wide64 n (omega arith) at more in
    (b.0, rw (b.1, not_above n (2 ^ 62) le) refl)

-- ---- what each object begins with

-- a tenant and a name were read of this text
pub record OwnerRead (text : List ℕ → List ℕ → List ℕ) (r : Rest) (x : List ℕ × List ℕ × Rest) : Type 0 where
  pub takes : Takes r (text x.0 x.1) x.2
  pub tenant : is_tenant x.0 ≡ true
  pub name : is_name x.1 ≡ true
  pub length : length x.1 < 2 ^ 32

abbrev pub owner_text : List ℕ → List ℕ → List ℕ
owner_text tenant name = short_text tenant ++ long_text name

pub owner_takes : (r : Rest) (x : List ℕ × List ℕ × Rest) → IsBytes r.bytes → read_owner r ≡ Ok x → OwnerRead owner_text r x
unfolding read_owner
owner_takes r x fits e =
    let t = bind_ok (read_tenant r) (λ t. read_name t.1 >>= λ n. Ok (t.0, n.0, n.1)) x e in
    let n = bind_ok (read_name t.0.1) (λ n. Ok (t.0.0, n.0, n.1)) x t.2 in
    let t1 = tenant_takes r t.0 fits t.1 in
    let n1 = name_takes t.0.1 n.0 t1.0.fits n.1 in
    let tn = then_takes r (short_text t.0.0) t.0.1 (long_text n.0.0) n.0.1 t1.0 n1.0 in
    subst (λ (y : List ℕ × List ℕ × Rest). OwnerRead owner_text r y) (ok_is (t.0.0, n.0.0, n.0.1) x n.2) (record { takes = tn; tenant = t1.1; name = n1.1; length = n1.2 })

pub owner_again : (tenant name : List ℕ) → is_tenant tenant ≡ true → is_name name ≡ true → length name < 2 ^ 32 → (at : ℕ) (more : List ℕ)
    → (after : ℕ) × (read_owner (rest at (owner_text tenant name ++ more)) ≡ Ok (tenant, name, rest after more))
unfolding read_owner
owner_again tenant name ht hn lt at more =
    let t = tenant_again tenant ht at (long_text name ++ more) in
    let n = name_again name hn lt t.0 more in
    let regrouped : owner_text tenant name ++ more ≡ short_text tenant ++ (long_text name ++ more) = append_assoc (short_text tenant) (long_text name) more in
    (n.0, ap (λ (b : List ℕ). read_owner (rest at b)) regrouped ∙ rw (t.1, n.1) refl)

-- letters and a version, whichever way it was read, before that
pub front_made : (letters : List ℕ) (version : ℕ) (r m v : Rest) (x : List ℕ × List ℕ × Rest) → Takes r letters m → Takes m (version ∷ []) v → OwnerRead owner_text v x → OwnerRead (front_text letters version) r x
front_made letters version r m v x m1 v1 o =
    let vo = then_takes m (version ∷ []) v (owner_text x.0 x.1) x.2 v1 o.takes in
    record {
      takes = then_takes r letters m (version ∷ owner_text x.0 x.1) x.2 m1 vo;
      tenant = o.tenant;
      name = o.name;
      length = o.length;
    }

pub front_takes : (letters : List ℕ) (version : ℕ) (r : Rest) (x : List ℕ × List ℕ × Rest) → IsBytes r.bytes → read_front letters version r ≡ Ok x → OwnerRead (front_text letters version) r x
unfolding read_front
front_takes letters version r x fits e =
    let m = bind_ok (read_magic letters r) (λ m. read_version version m >>= λ v. read_owner v) x e in
    let v = bind_ok (read_version version m.0) (λ v. read_owner v) x m.2 in
    let m1 = magic_takes letters r m.0 fits m.1 in
    let v1 = version_takes version m.0 v.0 m1.fits v.1 in
    front_made letters version r m.0 v.0 x m1 v1 (owner_takes v.0 x v1.fits v.2)

pub front_again : (letters : List ℕ) (version : ℕ) (tenant name : List ℕ) → length letters ≡ 4 → is_tenant tenant ≡ true → is_name name ≡ true → length name < 2 ^ 32 → (at : ℕ) (more : List ℕ)
    → (after : ℕ) × (read_front letters version (rest at (front_text letters version tenant name ++ more)) ≡ Ok (tenant, name, rest after more))
unfolding read_front
front_again letters version tenant name len ht hn lt at more =
    let m = magic_again letters len at (version ∷ (owner_text tenant name ++ more)) in
    let v = version_again version m.0 (owner_text tenant name ++ more) in
    let o = owner_again tenant name ht hn lt v.0 more in
    let regrouped : front_text letters version tenant name ++ more ≡ letters ++ (version ∷ (owner_text tenant name ++ more)) = append_assoc letters (version ∷ owner_text tenant name) more in
    (o.0, ap (λ (b : List ℕ). read_front letters version (rest at b)) regrouped ∙ rw (m.1, v.1, o.1) refl)

-- of a chunk, in its version
pub chunk_front_takes : (r : Rest) (x : Version × (List ℕ × List ℕ × Rest)) → IsBytes r.bytes → read_chunk_front r ≡ Ok x → OwnerRead (front_text (codes "INGC") (version_byte x.0)) r x.1
unfolding read_chunk_front
chunk_front_takes r x fits e =
    let m = bind_ok (read_magic (codes "INGC") r) (λ m. read_known_version m >>= λ v. read_owner v.1 >>= λ o. Ok (v.0, o)) x e in
    let v = bind_ok (read_known_version m.0) (λ v. read_owner v.1 >>= λ o. Ok (v.0, o)) x m.2 in
    let o = bind_ok (read_owner v.0.1) (λ o. Ok (v.0.0, o)) x v.2 in
    let m1 = magic_takes (codes "INGC") r m.0 fits m.1 in
    let v1 = known_takes m.0 v.0 m1.fits v.1 in
    let made = front_made (codes "INGC") (version_byte v.0.0) r m.0 v.0.1 o.0 m1 v1 (owner_takes v.0.1 o.0 v1.fits o.1) in
    subst (λ (y : Version × (List ℕ × List ℕ × Rest)). OwnerRead (front_text (codes "INGC") (version_byte y.0)) r y.1) (ok_is (v.0.0, o.0) x o.2) made

pub chunk_front_again : (version : Version) (tenant name : List ℕ) → is_tenant tenant ≡ true → is_name name ≡ true → length name < 2 ^ 32 → (at : ℕ) (more : List ℕ)
    → (after : ℕ) × (read_chunk_front (rest at (front_text (codes "INGC") (version_byte version) tenant name ++ more)) ≡ Ok (version, (tenant, name, rest after more)))
unfolding read_chunk_front
chunk_front_again version tenant name ht hn lt at more =
    let m = magic_again (codes "INGC") refl at (version_byte version ∷ (owner_text tenant name ++ more)) in
    let v = known_again version m.0 (owner_text tenant name ++ more) in
    let o = owner_again tenant name ht hn lt v.0 more in
    let regrouped : front_text (codes "INGC") (version_byte version) tenant name ++ more ≡ codes "INGC" ++ (version_byte version ∷ (owner_text tenant name ++ more)) = append_assoc (codes "INGC") (version_byte version ∷ owner_text tenant name) more in
    (o.0, ap (λ (b : List ℕ). read_chunk_front (rest at b)) regrouped ∙ rw (m.1, v.1, o.1) refl)
