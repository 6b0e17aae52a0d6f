-- Entries and blocks read one after another, as a loop does.
use Rattle.std.proofs.Common.{◌≡◌, ℕ, suc, ◌-◌, ◌+◌, ◌≤◌, ◌<◌, List, [], ◌∷◌, ◌++◌, length, Result, Ok, Err, refl, sym, ◌∙◌, arith}
use Rattle.ing_chunk.specs.declared.numbered.Numbered.{Numbered}
use Rattle.ing_codec.specs.declared.chunk_reading.Part.{Part}
use Rattle.ing_codec.specs.declared.fault.CodecFault.{CodecFault}
use Rattle.ing_codec.specs.declared.version.Version.{Version}
use Rattle.ing_codec.specs.Fields.{Rest}
use Rattle.ing_codec.specs.ChunkReading.{read_entry, read_entries, read_block, read_blocks}

pub entries_go_on : (p : Part) (count i : ℕ) (before : List Numbered) (r : Rest) (e : Numbered) (after : Rest) (total : Result (List Numbered × Rest) CodecFault) → i < count → read_entry p before r ≡ Ok (e, after)
    → read_entries p (count - i) before r ≡ total → read_entries p (count - (i + 1)) (before ++ e ∷ []) after ≡ total
unfolding read_entries
entries_go_on p count i before r e after total lt h so_far =
    let k : count - i ≡ suc (count - (i + 1)) = omega arith in
    let one : read_entries p (count - i) before r ≡ read_entries p (count - (i + 1)) (before ++ e ∷ []) after = rw (k, h) refl in
    sym one ∙ so_far

pub entries_stop : (p : Part) (count i : ℕ) (before : List Numbered) (r : Rest) (f : CodecFault) (total : Result (List Numbered × Rest) CodecFault) → i < count → read_entry p before r ≡ Err f
    → read_entries p (count - i) before r ≡ total → total ≡ Err f
unfolding read_entries
entries_stop p count i before r f total lt h so_far =
    let k : count - i ≡ suc (count - (i + 1)) = omega arith in
    let one : read_entries p (count - i) before r ≡ Err f = rw (k, h) refl in
    sym so_far ∙ one

pub entries_done : (p : Part) (count i : ℕ) (before : List Numbered) (r : Rest) (total : Result (List Numbered × Rest) CodecFault) → count ≤ i → read_entries p (count - i) before r ≡ total → total ≡ Ok (before, r)
unfolding read_entries
entries_done p count i before r total le so_far =
    let k : count - i ≡ 0 = omega arith in
    let one : read_entries p (count - i) before r ≡ Ok (before, r) = rw k refl in
    sym so_far ∙ one

pub blocks_go_on : (v : Version) (first count i start : ℕ) (before : List (List Numbered)) (r : Rest) (b : List Numbered) (after : Rest) (total : Result (List (List Numbered) × Rest) CodecFault) → i < count → read_block v first start r ≡ Ok (b, after)
    → read_blocks v first (count - i) start before r ≡ total → read_blocks v first (count - (i + 1)) (start + length b) (before ++ b ∷ []) after ≡ total
unfolding read_blocks
blocks_go_on v first count i start before r b after total lt h so_far =
    let k : count - i ≡ suc (count - (i + 1)) = omega arith in
    let one : read_blocks v first (count - i) start before r ≡ read_blocks v first (count - (i + 1)) (start + length b) (before ++ b ∷ []) after = rw (k, h) refl in
    sym one ∙ so_far

pub blocks_stop : (v : Version) (first count i start : ℕ) (before : List (List Numbered)) (r : Rest) (f : CodecFault) (total : Result (List (List Numbered) × Rest) CodecFault) → i < count → read_block v first start r ≡ Err f
    → read_blocks v first (count - i) start before r ≡ total → total ≡ Err f
unfolding read_blocks
blocks_stop v first count i start before r f total lt h so_far =
    let k : count - i ≡ suc (count - (i + 1)) = omega arith in
    let one : read_blocks v first (count - i) start before r ≡ Err f = rw (k, h) refl in
    sym so_far ∙ one

pub blocks_done : (v : Version) (first count i start : ℕ) (before : List (List Numbered)) (r : Rest) (total : Result (List (List Numbered) × Rest) CodecFault) → count ≤ i → read_blocks v first (count - i) start before r ≡ total → total ≡ Ok (before, r)
unfolding read_blocks
blocks_done v first count i start before r total le so_far =
    let k : count - i ≡ 0 = omega arith in
    let one : read_blocks v first (count - i) start before r ≡ Ok (before, r) = rw k refl in
    sym so_far ∙ one
