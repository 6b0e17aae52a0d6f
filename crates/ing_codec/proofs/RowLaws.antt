-- Rows: read as they were written, and written as they were read.
use Rattle.std.proofs.Common.{◌≡◌, ℕ, ◌+◌, ◌*◌, ◌^◌, ◌<◌, ◌≤◌, true, cond, not, ◌&&◌, List, [], ◌++◌, codes, Ok, Err, refl, ap, subst, ◌∙◌, append_assoc, arith}
use Rattle.std.specs.Prelude.{◌==◌, nat_le}
use Rattle.std.specs.Int.{w32, w64, to_be_bytes}
use Rattle.std.proofs.lemmas.Bool.Decides.{nat_tests}
use Rattle.std.proofs.lemmas.List.{append-nil}
use Rattle.ing_refusals.specs.Results.{◌>>=◌}
use Rattle.ing_codec.specs.declared.index_row.Extent.{Extent}
use Rattle.ing_codec.specs.declared.fault.CodecFault.TheVariants.{BadField}
use Rattle.ing_codec.specs.Fields.{Rest, whole, read_number, read_bytes, read_stamp, read_first, read_front, front_text, row_version}
use Rattle.ing_codec.specs.ChunkReading.{ended}
use Rattle.ing_codec.specs.RowObjects.{RowObject, row_object, IsExtent, IsRow, extent, extent_text, row_text, read_count, read_size, read_greatest, read_extent, read_row}
use Rattle.ing_codec.proofs.Binds.{bind_ok, passed, ok_is}
use Rattle.ing_codec.proofs.FieldLaws.{IsBytes, Takes, then_takes, rest, Again, bytes_take, bytes_again, wide32, wide64, number_takes, number_again}
use Rattle.ing_codec.proofs.TextLaws.{at_most, not_above, stamp_takes, stamp_again, first_takes, first_again, front_takes, front_again}
use Rattle.ing_codec.proofs.ChunkLaws.{nothing_left}

-- ---- the fields of a row

count_means : (first n : ℕ) → (not (n == 0) && nat_le (first + n) (2 ^ 62)) ≡ true → (0 < n) × (first + n ≤ 2 ^ 62)
count_means first n h = (grind (arith, nat_tests), grind (arith, nat_tests))

count_holds : (first n : ℕ) → 0 < n → first + n ≤ 2 ^ 62 → (not (n == 0) && nat_le (first + n) (2 ^ 62)) ≡ true
count_holds first n some last = grind (arith, nat_tests)

count_takes : (first : ℕ) (r : Rest) (x : ℕ × Rest) → IsBytes r.bytes → read_count first r ≡ Ok x → Takes r (to_be_bytes w32 x.0) x.1 × (x.0 < 2 ^ 32) × (0 < x.0) × (first + x.0 ≤ 2 ^ 62)
unfolding read_count
count_takes first r x fits e =
    let n = bind_ok (read_number w32 r) (λ n. cond (not (n.0 == 0) && nat_le (first + n.0) (2 ^ 62)) (Ok n) (Err (BadField r.at))) x e in
    let p = passed (not (n.0.0 == 0) && nat_le (first + n.0.0) (2 ^ 62)) (BadField r.at) (Ok n.0) x n.2 in
    let one = number_takes w32 (2 ^ 32) wide32 r n.0 fits n.1 in
    let means = count_means first n.0.0 p.0 in
    subst (λ (y : ℕ × Rest). Takes r (to_be_bytes w32 y.0) y.1 × (y.0 < 2 ^ 32) × (0 < y.0) × (first + y.0 ≤ 2 ^ 62)) (ok_is n.0 x p.1) (one.0, one.1, means.0, means.1)

count_again : (first n : ℕ) → n < 2 ^ 32 → 0 < n → first + n ≤ 2 ^ 62 → Again (read_count first) (to_be_bytes w32 n) n
unfolding read_count
count_again first n lt some last at more =
    let b = number_again w32 (2 ^ 32) wide32 n lt at more in
    (b.0, rw (b.1, count_holds first n some last) refl)

size_takes : (count : ℕ) (r : Rest) (x : ℕ × Rest) → IsBytes r.bytes → read_size count r ≡ Ok x → Takes r (to_be_bytes w64 x.0) x.1 × (x.0 < 2 ^ 64) × (count * 16 ≤ x.0)
unfolding read_size
size_takes count r x fits e =
    let n = bind_ok (read_number w64 r) (λ n. cond (nat_le (count * 16) n.0) (Ok n) (Err (BadField r.at))) x e in
    let p = passed (nat_le (count * 16) n.0.0) (BadField r.at) (Ok n.0) x n.2 in
    let one = number_takes w64 (2 ^ 64) wide64 r n.0 fits n.1 in
    subst (λ (y : ℕ × Rest). Takes r (to_be_bytes w64 y.0) y.1 × (y.0 < 2 ^ 64) × (count * 16 ≤ y.0)) (ok_is n.0 x p.1) (one.0, one.1, at_most (count * 16) n.0.0 p.0)

size_again : (count n : ℕ) → n < 2 ^ 64 → count * 16 ≤ n → Again (read_size count) (to_be_bytes w64 n) n
unfolding read_size
size_again count n lt le at more =
    let b = number_again w64 (2 ^ 64) wide64 n lt at more in
    (b.0, rw (b.1, not_above (count * 16) n le) refl)

greatest_takes : (least : ℕ) (r : Rest) (x : ℕ × Rest) → IsBytes r.bytes → read_greatest least r ≡ Ok x → Takes r (to_be_bytes w64 x.0) x.1 × (x.0 < 2 ^ 63) × (least ≤ x.0)
unfolding read_greatest
greatest_takes least r x fits e =
    let n = bind_ok (read_stamp r) (λ n. cond (nat_le least n.0) (Ok n) (Err (BadField r.at))) x e in
    let p = passed (nat_le least n.0.0) (BadField r.at) (Ok n.0) x n.2 in
    let one = stamp_takes r n.0 fits n.1 in
    subst (λ (y : ℕ × Rest). Takes r (to_be_bytes w64 y.0) y.1 × (y.0 < 2 ^ 63) × (least ≤ y.0)) (ok_is n.0 x p.1) (one.0, one.1, at_most least n.0.0 p.0)

greatest_again : (least n : ℕ) → n < 2 ^ 63 → least ≤ n → Again (read_greatest least) (to_be_bytes w64 n) n
unfolding read_greatest
greatest_again least n lt le at more =
    let b = stamp_again n lt at more in
    (b.0, rw (b.1, not_above least n le) refl)

-- ---- the numbers, the size and the stamps together

pub record ExtentRead (r : Rest) (x : Extent × Rest) : Type 0 where
  pub first : ℕ × Rest
  pub count : ℕ × Rest
  pub size : ℕ × Rest
  pub least : ℕ × Rest
  pub greatest : ℕ × Rest
  pub first_read : read_first r ≡ Ok first
  pub count_read : read_count first.0 first.1 ≡ Ok count
  pub size_read : read_size count.0 count.1 ≡ Ok size
  pub least_read : read_stamp size.1 ≡ Ok least
  pub greatest_read : read_greatest least.0 least.1 ≡ Ok greatest
  pub is : (extent first.0 count.0 size.0 least.0 greatest.0, greatest.1) ≡ x

extent_read : (r : Rest) (x : Extent × Rest) → read_extent r ≡ Ok x → ExtentRead r x
unfolding read_extent
extent_read r x e =
    let f = bind_ok (read_first r) (λ f. read_count f.0 f.1 >>= λ c. read_size c.0 c.1 >>= λ s. read_stamp s.1 >>= λ l. read_greatest l.0 l.1 >>= λ g. Ok (extent f.0 c.0 s.0 l.0 g.0, g.1)) x e in
    let c = bind_ok (read_count f.0.0 f.0.1) (λ c. read_size c.0 c.1 >>= λ s. read_stamp s.1 >>= λ l. read_greatest l.0 l.1 >>= λ g. Ok (extent f.0.0 c.0 s.0 l.0 g.0, g.1)) x f.2 in
    let s = bind_ok (read_size c.0.0 c.0.1) (λ s. read_stamp s.1 >>= λ l. read_greatest l.0 l.1 >>= λ g. Ok (extent f.0.0 c.0.0 s.0 l.0 g.0, g.1)) x c.2 in
    let l = bind_ok (read_stamp s.0.1) (λ l. read_greatest l.0 l.1 >>= λ g. Ok (extent f.0.0 c.0.0 s.0.0 l.0 g.0, g.1)) x s.2 in
    let g = bind_ok (read_greatest l.0.0 l.0.1) (λ g. Ok (extent f.0.0 c.0.0 s.0.0 l.0.0 g.0, g.1)) x l.2 in
    record {
      first = f.0;
      count = c.0;
      size = s.0;
      least = l.0;
      greatest = g.0;
      first_read = f.1;
      count_read = c.1;
      size_read = s.1;
      least_read = l.1;
      greatest_read = g.1;
      is = ok_is (extent f.0.0 c.0.0 s.0.0 l.0.0 g.0.0, g.0.1) x g.2;
    }

pub extent_takes : (r : Rest) (x : Extent × Rest) → IsBytes r.bytes → read_extent r ≡ Ok x → Takes r (extent_text x.0) x.1 × IsExtent x.0
extent_takes r x fits e =
    let read = extent_read r x e in
    let ft = first_takes r read.first fits read.first_read in
    let ct = count_takes read.first.0 read.first.1 read.count ft.0.fits read.count_read in
    let st = size_takes read.count.0 read.count.1 read.size ct.0.fits read.size_read in
    let lt = stamp_takes read.size.1 read.least st.0.fits read.least_read in
    let gt = greatest_takes read.least.0 read.least.1 read.greatest lt.0.fits read.greatest_read in
    let lg = then_takes read.size.1 (to_be_bytes w64 read.least.0) read.least.1 (to_be_bytes w64 read.greatest.0) read.greatest.1 lt.0 gt.0 in
    let slg = then_takes read.count.1 (to_be_bytes w64 read.size.0) read.size.1 (to_be_bytes w64 read.least.0 ++ to_be_bytes w64 read.greatest.0) read.greatest.1 st.0 lg in
    let cslg = then_takes read.first.1 (to_be_bytes w32 read.count.0) read.count.1 (to_be_bytes w64 read.size.0 ++ (to_be_bytes w64 read.least.0 ++ to_be_bytes w64 read.greatest.0)) read.greatest.1 ct.0 slg in
    let all = then_takes r (to_be_bytes w64 read.first.0) read.first.1 (to_be_bytes w32 read.count.0 ++ (to_be_bytes w64 read.size.0 ++ (to_be_bytes w64 read.least.0 ++ to_be_bytes w64 read.greatest.0))) read.greatest.1 ft.0 cslg in
    subst (λ (y : Extent × Rest). Takes r (extent_text y.0) y.1 × IsExtent y.0) read.is (all, record { some = ct.2; few = ct.1; last = ct.3; size = st.2; small = st.1; span = gt.2; stamps = gt.1 })

five_parts : (f c s l g more : List ℕ) → (f ++ (c ++ (s ++ (l ++ g)))) ++ more ≡ f ++ (c ++ (s ++ (l ++ (g ++ more))))
five_parts f c s l g more = simp append_assoc

pub extent_again : (x : Extent) → IsExtent x → Again read_extent (extent_text x) x
unfolding read_extent
extent_again x h at more =
    let greatest = to_be_bytes w64 x.greatest ++ more in
    let least = to_be_bytes w64 x.least ++ greatest in
    let size = to_be_bytes w64 x.size ++ least in
    let count = to_be_bytes w32 x.count ++ size in
    let f = first_again x.first (omega (arith, h.last)) at count in
    let c = count_again x.first x.count h.few h.some h.last f.0 size in
    let s = size_again x.count x.size h.small h.size c.0 least in
    let l = stamp_again x.least (omega (arith, h.span, h.stamps)) s.0 greatest in
    let g = greatest_again x.least x.greatest h.stamps h.span l.0 more in
    let regrouped = five_parts (to_be_bytes w64 x.first) (to_be_bytes w32 x.count) (to_be_bytes w64 x.size) (to_be_bytes w64 x.least) (to_be_bytes w64 x.greatest) more in
    (g.0, ap (λ (b : List ℕ). read_extent (rest at b)) regrouped ∙ rw (f.1, c.1, s.1, l.1, g.1) refl)

-- ---- a row

ended_text : (bytes front extent key left : List ℕ) → bytes ≡ (front ++ (extent ++ key)) ++ left → left ≡ [] → bytes ≡ front ++ (extent ++ key)
ended_text bytes front extent key left e none = e ∙ ap (λ (t : List ℕ). (front ++ (extent ++ key)) ++ t) none ∙ append-nil (front ++ (extent ++ key))

pub row_takes : (bytes : List ℕ) (o : RowObject) → IsBytes bytes → read_row bytes ≡ Ok o → IsRow o × (bytes ≡ row_text o)
unfolding read_row row_text
row_takes bytes o fits e =
    let h = bind_ok (read_front (codes "INGR") row_version (whole bytes)) (λ h. read_extent h.2 >>= λ x. read_bytes 32 x.1 >>= λ k. ended (row_object h.0 h.1 x.0 k.0) k.1) o e in
    let x = bind_ok (read_extent h.0.2) (λ x. read_bytes 32 x.1 >>= λ k. ended (row_object h.0.0 h.0.1 x.0 k.0) k.1) o h.2 in
    let k = bind_ok (read_bytes 32 x.0.1) (λ k. ended (row_object h.0.0 h.0.1 x.0.0 k.0) k.1) o x.2 in
    let n = nothing_left (row_object h.0.0 h.0.1 x.0.0 k.0.0) k.0.1 o k.2 in
    let ht = front_takes (codes "INGR") row_version (whole bytes) h.0 fits h.1 in
    let xt = extent_takes h.0.2 x.0 ht.takes.fits x.1 in
    let kt = bytes_take 32 x.0.1 k.0 xt.0.fits k.1 in
    let tail = then_takes h.0.2 (extent_text x.0.0) x.0.1 k.0.0 k.0.1 xt.0 kt.0 in
    let all = then_takes (whole bytes) (front_text (codes "INGR") row_version h.0.0 h.0.1) h.0.2 (extent_text x.0.0 ++ k.0.0) k.0.1 ht.takes tail in
    let spelt = ended_text bytes (front_text (codes "INGR") row_version h.0.0 h.0.1) (extent_text x.0.0) k.0.0 k.0.1.bytes all.parts n.0 in
    let row : IsRow (row_object h.0.0 h.0.1 x.0.0 k.0.0) = record {
      tenant = ht.tenant;
      name = ht.name;
      listed = record { name_length = ht.length; extent = xt.1; key = kt.1 };
    } in
    subst (λ (y : RowObject). IsRow y × (bytes ≡ row_text y)) n.1 (row, spelt)

three_parts : (w x k : List ℕ) → w ++ (x ++ k) ≡ w ++ (x ++ (k ++ []))
three_parts w x k = simp append-nil

pub row_again : (o : RowObject) → IsRow o → read_row (row_text o) ≡ Ok o
unfolding read_row row_text
row_again o h =
    let hd = front_again (codes "INGR") row_version o.tenant o.name refl h.tenant h.name h.listed.name_length 0 (extent_text o.extent ++ (o.key ++ [])) in
    let x = extent_again o.extent h.listed.extent hd.0 (o.key ++ []) in
    let k = bytes_again o.key 32 h.listed.key x.0 [] in
    ap read_row (three_parts (front_text (codes "INGR") row_version o.tenant o.name) (extent_text o.extent) o.key) ∙ rw (hd.1, x.1, k.1) refl
