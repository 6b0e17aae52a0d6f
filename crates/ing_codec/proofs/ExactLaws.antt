-- The fields of objects, one by one: read as they were written, and written as they were read.
use Rattle.std.proofs.Common.{◌≡◌, ℕ, ◌+◌, ◌^◌, ◌<◌, ◌≤◌, false, true, cond, List, [], ◌∷◌, length, Result, Ok, Err, sym, subst, arith, add-zero}
use Rattle.std.specs.Prelude.{⊤, ◌==◌}
use Rattle.std.specs.Int.{w32, w64, to_be_bytes}
use Rattle.std.specs.List.{flat_map}
use Rattle.std.specs.Str.{is_utf8}
use Rattle.std.proofs.lemmas.Bool.Decides.{nat_tests}
use Rattle.ing_rows.specs.Texts.{is_tenant}
use Rattle.ing_chunk.specs.declared.numbered.Numbered.{Numbered}
use Rattle.ing_chunk.specs.Parts.{AreParts, max_line}
use Rattle.ing_codec.specs.declared.fault.CodecFault.{CodecFault}
use Rattle.ing_codec.specs.declared.fault.CodecFault.TheVariants.{BadField}
use Rattle.ing_codec.specs.declared.version.Version.{Version}
use Rattle.ing_codec.specs.Fields.{Rest, short_text, long_text, meta_text, is_name, read_bytes, read_number, read_known_version, read_tenant, read_name, read_line, read_meta, read_stamp, read_first}
use Rattle.ing_codec.specs.Versions.{version_byte}
use Rattle.ing_codec.specs.ChunkObjects.{block_text}
use Rattle.ing_codec.specs.ChunkReading.{read_block_count, read_blocks}
use Rattle.ing_codec.specs.RowObjects.{IsExtent, extent_text, read_extent}
use Rattle.ing_codec.specs.Laws.{FieldIsExact, FieldsAreExact, AreBlocks}
use Rattle.ing_codec.proofs.Binds.{bind_ok, not_stopped, ok_is}
use Rattle.ing_codec.proofs.FieldLaws.{IsBytes, Takes, Again, bytes_take, bytes_again, wide32, wide64, number_takes, number_again}
use Rattle.ing_codec.proofs.TextLaws.{tenant_takes, tenant_again, name_takes, name_again, line_takes, line_again, known_takes, known_again, meta_takes, meta_again, stamp_takes, stamp_again, first_takes, first_again}
use Rattle.ing_codec.proofs.ChunkLaws.{blocks_take, blocks_again, count_again}
use Rattle.ing_codec.proofs.RowLaws.{extent_takes, extent_again}

-- a field whose spelling is read again, and of which nothing else is read
exact : {A : Type 0} (IsField : A → Type 0) (text : A → List ℕ) (read : Rest → Result (A × Rest) CodecFault) → ((x : A) → IsField x → Again read (text x) x)
    → ((r : Rest) (x : A × Rest) → IsBytes r.bytes → read r ≡ Ok x → Takes r (text x.0) x.1 × IsField x.0) → FieldIsExact IsField text read
exact IsField text read again takes = record {
  each = again;
  only = λ r x after fits e. let t = takes r (x, after) fits e in (t.1, t.0.parts, t.0.fits);
}

above_zero : (n : ℕ) → (n == 0) ≡ false → 0 < n
above_zero n h = grind (arith, nat_tests)

-- a count that is read is one or more, and has four bytes
some_takes : (r : Rest) (x : ℕ × Rest) → IsBytes r.bytes → read_block_count r ≡ Ok x → Takes r (to_be_bytes w32 x.0) x.1 × ((0 < x.0) × (x.0 < 2 ^ 32))
unfolding read_block_count
some_takes r x fits e =
    let n = bind_ok (read_number w32 r) (λ n. cond (n.0 == 0) (Err (BadField r.at)) (Ok n)) x e in
    let p = not_stopped (n.0.0 == 0) (BadField r.at) (Ok n.0) x n.2 in
    let one = number_takes w32 (2 ^ 32) wide32 r n.0 fits n.1 in
    subst (λ (y : ℕ × Rest). Takes r (to_be_bytes w32 y.0) y.1 × ((0 < y.0) × (y.0 < 2 ^ 32))) (ok_is n.0 x p.1) (one.0, (above_zero n.0.0 p.0, one.1))

names_take : (r : Rest) (x : List ℕ × Rest) → IsBytes r.bytes → read_name r ≡ Ok x → Takes r (long_text x.0) x.1 × ((is_name x.0 ≡ true) × (length x.0 < 2 ^ 32))
names_take r x fits e = let t = name_takes r x fits e in (t.0, (t.1, t.2))

lines_take : (r : Rest) (x : List ℕ × Rest) → IsBytes r.bytes → read_line r ≡ Ok x → Takes r (long_text x.0) x.1 × ((is_utf8 x.0 ≡ true) × (length x.0 ≤ max_line))
lines_take r x fits e = let t = line_takes r x fits e in (t.0, (t.1, t.2))

keys_take : (r : Rest) (x : List ℕ × Rest) → IsBytes r.bytes → read_bytes 32 r ≡ Ok x → Takes r x.0 x.1 × (length x.0 ≡ 32)
keys_take r x fits e = let t = bytes_take 32 r x fits e in (t.0, t.1)

-- blocks that are read follow one another from the first number on
first_blocks_take : (v : Version) (first count : ℕ) → first ≤ 2 ^ 62 → (r : Rest) (x : List (List Numbered) × Rest) → IsBytes r.bytes → read_blocks v first count 0 [] r ≡ Ok x → Takes r (flat_map (block_text v first) x.0) x.1 × AreBlocks first count x.0
first_blocks_take v first count low r x fits e =
    let t = blocks_take v first count 0 [] r x fits (omega (arith, low)) (omega arith) e in
    let are : AreBlocks first count t.more = record {
      count = t.count;
      parts = subst (λ (m : ℕ). AreParts m t.more) (add-zero first) t.parts;
      last = omega (arith, t.last);
      few = omega (arith, t.few);
      each = t.blocks;
    } in
    subst (λ (bs : List (List Numbered)). Takes r (flat_map (block_text v first) bs) x.1 × AreBlocks first count bs) (sym t.is) (t.takes, are)

-- and are read again
first_blocks_again : (v : Version) (first count : ℕ) (bs : List (List Numbered)) → AreBlocks first count bs → Again (read_blocks v first count 0 []) (flat_map (block_text v first) bs) bs
first_blocks_again v first count bs h =
    let parts : AreParts (first + 0) bs = subst (λ (m : ℕ). AreParts m bs) (sym (add-zero first)) h.parts in
    subst (λ (k : ℕ). Again (read_blocks v first k 0 []) (flat_map (block_text v first) bs) bs) h.count (blocks_again v first bs 0 [] parts h.each (omega (arith, h.last)) (omega (arith, h.few)))

pub fields_exact : FieldsAreExact
fields_exact = record {
  numbers_of_4 = exact (λ n. n < 2 ^ 32) (to_be_bytes w32) (read_number w32) (number_again w32 (2 ^ 32) wide32) (number_takes w32 (2 ^ 32) wide32);
  numbers_of_8 = exact (λ n. n < 2 ^ 64) (to_be_bytes w64) (read_number w64) (number_again w64 (2 ^ 64) wide64) (number_takes w64 (2 ^ 64) wide64);
  counts = exact (λ n. (0 < n) × (n < 2 ^ 32)) (to_be_bytes w32) read_block_count (λ n h. count_again n h.1 h.0) some_takes;
  stamps = exact (λ n. n < 2 ^ 63) (to_be_bytes w64) read_stamp stamp_again stamp_takes;
  firsts = exact (λ n. n ≤ 2 ^ 62) (to_be_bytes w64) read_first first_again first_takes;
  tenants = exact (λ t. is_tenant t ≡ true) short_text read_tenant tenant_again tenant_takes;
  names = exact (λ t. (is_name t ≡ true) × (length t < 2 ^ 32)) long_text read_name (λ t h. name_again t h.0 h.1) names_take;
  versions = exact (λ _. ⊤) (λ v. version_byte v ∷ []) read_known_version (λ v _. known_again v) (λ r x fits e. (known_takes r x fits e, tt));
  lines = exact (λ t. (is_utf8 t ≡ true) × (length t ≤ max_line)) long_text read_line (λ t h. line_again t h.0 h.1) lines_take;
  metas = λ v. exact (λ _. ⊤) (λ _. meta_text v) (read_meta v) (λ _ _. meta_again v) (λ r x fits e. (meta_takes v r x fits e, tt));
  extents = exact IsExtent extent_text read_extent extent_again extent_takes;
  keys = exact (λ k. length k ≡ 32) (λ k. k) (read_bytes 32) (λ k h. bytes_again k 32 h) keys_take;
  blocks = λ v first count low. exact (AreBlocks first count) (flat_map (block_text v first)) (read_blocks v first count 0 []) (first_blocks_again v first count) (first_blocks_take v first count low);
}
