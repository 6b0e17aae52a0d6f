-- How many entries the first blocks have, and their size.
use Rattle.std.proofs.Common.{◌≡◌, ℕ, zero, suc, ◌+◌, ◌<◌, ◌≤◌, List, [], ◌∷◌, ◌++◌, length, get_or, take, sym, ap, ◌∙◌, append_assoc, arith, add-one, length-append}
use Rattle.std.proofs.lemmas.List.{append-nil}
use Rattle.std.proofs.lemmas.List.Sums.{sum_by-append}
use Rattle.ing_chunk.specs.declared.numbered.Numbered.{Numbered}
use Rattle.ing_chunk.specs.Chunks.{in_blocks, size_of_entries}
use Rattle.ing_rows.specs.Rows.{size_of}

in_blocks_suc : (bs : List (List Numbered)) (i : ℕ) (d : List Numbered) → i < length bs → in_blocks (take (suc i) bs) ≡ in_blocks (take i bs) ++ get_or bs i d
in_blocks_suc [] i d lt = absurd (omega arith)
in_blocks_suc (b ∷ bs) zero d lt = append-nil b
in_blocks_suc (b ∷ bs) (suc i) d lt = ap (λ (t : List Numbered). b ++ t) (in_blocks_suc bs i d (omega arith)) ∙ sym (append_assoc b (in_blocks (take i bs)) (get_or bs i d))

in_blocks_more : (bs : List (List Numbered)) (i : ℕ) (b : List Numbered) → i < length bs → b ≡ get_or bs i b → in_blocks (take (i + 1) bs) ≡ in_blocks (take i bs) ++ b
in_blocks_more bs i b lt is = rw add-one (in_blocks_suc bs i b lt ∙ ap (λ (t : List Numbered). in_blocks (take i bs) ++ t) (sym is))

pub count_more : (bs : List (List Numbered)) (i : ℕ) (b : List Numbered) → i < length bs → b ≡ get_or bs i b → length (in_blocks (take (i + 1) bs)) ≡ length (in_blocks (take i bs)) + length b
count_more bs i b lt is = ap length (in_blocks_more bs i b lt is) ∙ length-append (in_blocks (take i bs)) b

pub size_more : (bs : List (List Numbered)) (i : ℕ) (b : List Numbered) → i < length bs → b ≡ get_or bs i b → size_of_entries (in_blocks (take (i + 1) bs)) ≡ size_of_entries (in_blocks (take i bs)) + size_of_entries b
size_more bs i b lt is = ap size_of_entries (in_blocks_more bs i b lt is) ∙ sum_by-append (λ e. size_of e.entry) (in_blocks (take i bs)) b

pub count_front : (bs : List (List Numbered)) (i : ℕ) → length (in_blocks (take i bs)) ≤ length (in_blocks bs)
count_front [] zero = omega arith
count_front [] (suc i) = omega arith
count_front (b ∷ bs) zero = omega arith
count_front (b ∷ bs) (suc i) = omega (arith, count_front bs i, length-append b (in_blocks (take i bs)), length-append b (in_blocks bs))
