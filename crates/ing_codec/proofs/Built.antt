-- What holds of entries that were read: their order, their numbers, and how many they are.
use Rattle.std.proofs.Common.{◌≡◌, ◌≢◌, ℕ, zero, suc, ◌+◌, ◌<◌, ◌≤◌, ◌^◌, true, cond, List, [], ◌∷◌, ◌++◌, length, Ok, Err, sym, ap, subst, ◌∙◌, arith, length-append}
use Rattle.std.specs.Prelude.{⊤}
use Rattle.std.specs.Int.{w32}
use Rattle.std.proofs.lemmas.Bool.Decides.{nat_tests}
use Rattle.ing_refusals.specs.Results.{◌>>=◌}
use Rattle.ing_chunk.specs.declared.numbered.Numbered.{Numbered}
use Rattle.ing_chunk.specs.Chunks.{AreInOrder}
use Rattle.ing_codec.specs.declared.chunk_reading.Part.{Part}
use Rattle.ing_codec.specs.declared.fault.CodecFault.TheVariants.{BadField, OutOfOrder}
use Rattle.ing_codec.specs.declared.version.Version.{Version}
use Rattle.ing_codec.specs.Fields.{Rest, read_number, read_stamp, read_line, read_meta}
use Rattle.ing_codec.specs.ChunkReading.{read_entry, read_entries, read_block, is_free, goes_on, numbered, in_turn, part, is_count}
use Rattle.ing_codec.proofs.Binds.{bind_ok, passed, ok_is}
use Rattle.ing_codec.proofs.Order.{in_order_more}

-- what was read of one entry, field by field
pub record EntryRead (p : Part) (before : List Numbered) (r : Rest) (e : Numbered) (after : Rest) : Type 0 where
  pub offset : ℕ × Rest
  pub stamp : ℕ × Rest
  pub line : List ℕ × Rest
  pub meta : ⊤ × Rest
  pub offset_read : read_number w32 r ≡ Ok offset
  pub free : is_free p before (p.first + offset.0) ≡ true
  pub stamp_read : read_stamp offset.1 ≡ Ok stamp
  pub line_read : read_line stamp.1 ≡ Ok line
  pub meta_read : read_meta p.version line.1 ≡ Ok meta
  pub goes : goes_on before e ≡ true
  pub is : e ≡ numbered (p.first + offset.0) stamp.0 line.0
  pub rest : after ≡ meta.1

pub entry_read : (p : Part) (before : List Numbered) (r : Rest) (e : Numbered) (after : Rest) → read_entry p before r ≡ Ok (e, after) → EntryRead p before r e after
unfolding read_entry
entry_read p before r e after h =
    let o = bind_ok (read_number w32 r) (λ o. cond (is_free p before (p.first + o.0)) (read_stamp o.1 >>= λ s. read_line s.1 >>= λ l. read_meta p.version l.1 >>= λ m. in_turn before (numbered (p.first + o.0) s.0 l.0) m.1) (Err (BadField r.at))) (e, after) h in
    let g = passed (is_free p before (p.first + o.0.0)) (BadField r.at) (read_stamp o.0.1 >>= λ s. read_line s.1 >>= λ l. read_meta p.version l.1 >>= λ m. in_turn before (numbered (p.first + o.0.0) s.0 l.0) m.1) (e, after) o.2 in
    let s = bind_ok (read_stamp o.0.1) (λ s. read_line s.1 >>= λ l. read_meta p.version l.1 >>= λ m. in_turn before (numbered (p.first + o.0.0) s.0 l.0) m.1) (e, after) g.1 in
    let l = bind_ok (read_line s.0.1) (λ l. read_meta p.version l.1 >>= λ m. in_turn before (numbered (p.first + o.0.0) s.0.0 l.0) m.1) (e, after) s.2 in
    let m = bind_ok (read_meta p.version l.0.1) (λ m. in_turn before (numbered (p.first + o.0.0) s.0.0 l.0.0) m.1) (e, after) l.2 in
    let made = numbered (p.first + o.0.0) s.0.0 l.0.0 in
    let t = passed (goes_on before made) OutOfOrder (Ok (made, m.0.1)) (e, after) m.2 in
    let both = ok_is (made, m.0.1) (e, after) t.1 in
    let is : made ≡ e = ap (λ (x : Numbered × Rest). x.0) both in
    record {
      offset = o.0;
      stamp = s.0;
      line = l.0;
      meta = m.0;
      offset_read = o.1;
      free = g.0;
      stamp_read = s.1;
      line_read = l.1;
      meta_read = m.1;
      goes = sym (ap (goes_on before) is) ∙ t.0;
      is = sym is;
      rest = sym (ap (λ (x : Numbered × Rest). x.1) both);
    }

-- ---- order and length

pub entries_in_order : (p : Part) (k : ℕ) (before : List Numbered) (r : Rest) (x : List Numbered × Rest) → read_entries p k before r ≡ Ok x → AreInOrder before → AreInOrder x.0 × (length x.0 ≡ length before + k)
unfolding read_entries
entries_in_order p zero before r x h up = subst (λ (y : List Numbered × Rest). AreInOrder y.0 × (length y.0 ≡ length before + 0)) (ok_is (before, r) x h) (up, omega arith)
entries_in_order p (suc k) before r x h up =
    let e = bind_ok (read_entry p before r) (λ e. read_entries p k (before ++ e.0 ∷ []) e.1) x h in
    let read = entry_read p before r e.0.0 e.0.1 e.1 in
    let all = entries_in_order p k (before ++ e.0.0 ∷ []) e.0.1 x e.2 (in_order_more before e.0.0 up read.goes) in
    (all.0, omega (arith, all.1, length-append before (e.0.0 ∷ [])))

pub block_read : (v : Version) (first start : ℕ) (r : Rest) (x : List Numbered × Rest) → read_block v first start r ≡ Ok x → (n : ℕ × Rest) × (read_number w32 r ≡ Ok n) × (is_count first start n.0 ≡ true) × (read_entries (part v first start n.0) n.0 [] n.1 ≡ Ok x)
unfolding read_block
block_read v first start r x h =
    let n = bind_ok (read_number w32 r) (λ n. cond (is_count first start n.0) (read_entries (part v first start n.0) n.0 [] n.1) (Err (BadField r.at))) x h in
    let g = passed (is_count first start n.0.0) (BadField r.at) (read_entries (part v first start n.0.0) n.0.0 [] n.0.1) x n.2 in
    (n.0, n.1, g.0, g.1)

pub few_from_count : (first start n : ℕ) → is_count first start n ≡ true → (n ≢ 0) × (first + start + n ≤ 2 ^ 62) × (start + n < 2 ^ 32)
few_from_count first start n h = grind (arith, nat_tests)

-- the entries of a block stand in order, and end before 2^32
pub block_in_order : (v : Version) (first start n : ℕ) (r : Rest) (es : List Numbered) (after : Rest) → read_entries (part v first start n) n [] r ≡ Ok (es, after) → AreInOrder es
block_in_order v first start n r es after h = (entries_in_order (part v first start n) n [] r (es, after) h (λ k d low high. absurd (omega arith))).0

pub few_after : (v : Version) (first start n : ℕ) (r : Rest) (es : List Numbered) (after : Rest) → is_count first start n ≡ true → read_entries (part v first start n) n [] r ≡ Ok (es, after) → start + length es < 2 ^ 32
few_after v first start n r es after count h =
    let few = (few_from_count first start n count).2 in
    let len : length es ≡ 0 + n = (entries_in_order (part v first start n) n [] r (es, after) h (λ k d low high. absurd (omega arith))).1 in
    omega arith
