-- With which entry a chunk ends (own).
use Rattle.std.specs.Prelude.{◌≡◌, ℕ, ◌+◌, Bool, not, ◌&&◌, ◌==◌, List, All, Option, Some, None}
use Rattle.ing_rows.specs.declared.entry.Entry.{Entry}
use Rattle.ing_rows.specs.Verdicts.{is_same}
use Rattle.ing_chunk.specs.declared.numbered.Numbered.{Numbered}
use Rattle.ing_chunk.specs.Chunks.{in_blocks}

-- the entry of these blocks with the last number before this one is the one given, if one is
abbrev pub EndsWith : Option Entry → ℕ → List (List Numbered) → Type 0
EndsWith None end blocks = Unit {0}
EndsWith (Some e) end blocks = All (λ n. n.number + 1 ≡ end → n.entry ≡ e) (in_blocks blocks)

-- it has that number, and is another one; for private clauses
abbrev pub is_other : ℕ → Entry → Numbered → Bool
is_other end e n = (n.number + 1 == end) && not (is_same n.entry e)
