-- What is written of the lines of an input.
use Rattle.std.specs.Prelude.{◌≡◌, ℕ, ◌+◌, ◌<◌, List, [], ◌∷◌, ◌++◌, flat_map, length, Option, Some, None, Ok, Err, ⊤}
use Rattle.std.specs.Io.KnownBytes.{Appends}
use Rattle.ing_rows.specs.declared.entry.Entry.{Entry}
use Rattle.ctl_feed.specs.declared.load_fault.LoadFault.{LoadFault}
use Rattle.ctl_feed.specs.Lines.{lines_of, with_feed}
use Rattle.ctl_feed.specs.Loads.{IsCommand, Load, entry_at, entry_of}

-- a stamp is above the one before, where there is one
abbrev pub IsAbove : Option ℕ → ℕ → Type 0
IsAbove None stamp = ⊤
IsAbove (Some last) stamp = last < stamp

-- The entries are those of the lines, in order, in a load that began at now, behind a line of the stamp last: each has the text that
-- its line is read as, and the stamp that its time gets, which is above the one before.
abbrev pub AreOf : (List ℕ → Option ℕ × List ℕ) → ℕ → Option ℕ → List (List ℕ) → List Entry → Type 0
AreOf read now last [] [] = ⊤
AreOf read now last [] (entry ∷ entries) = ⊥
AreOf read now last (line ∷ lines) [] = ⊥
AreOf read now last (line ∷ lines) (entry ∷ entries) =
    (entry_at now last (read line).0 (read line).1 ≡ Ok entry) × IsAbove last entry.stamp × AreOf read now (Some entry.stamp) lines entries

-- the stamp of the last of some entries, behind one
abbrev pub last_of : Option ℕ → List Entry → Option ℕ
last_of last [] = last
last_of last (entry ∷ entries) = last_of (Some entry.stamp) entries

-- each line is the command of its entries
abbrev pub AreCommands : List ℕ → ℕ → List (List ℕ × List ℕ) → List (List ℕ) → List (List Entry) → Type 0
AreCommands tenant now labels [] [] = ⊤
AreCommands tenant now labels [] (entries ∷ groups) = ⊥
AreCommands tenant now labels (line ∷ lines) [] = ⊥
AreCommands tenant now labels (line ∷ lines) (entries ∷ groups) = IsCommand line tenant now labels entries × AreCommands tenant now labels lines groups

-- those of all commands
abbrev pub concat : List (List Entry) → List Entry
concat groups = flat_map (λ entries. entries) groups

-- Lines were taken by a load, and what was written is commands, each a line. The entries that waited, and then those of the lines,
-- are those of the commands, and then those that still wait: none is lost, doubled or out of order.
pub record Loads (read : List ℕ → Option ℕ × List ℕ) (old new : Load) (lines : List (List ℕ)) (before after : Option (List ℕ)) : Type 0 where
  pub entries : List Entry
  pub of_lines : AreOf read old.now old.last lines entries
  pub commands : List (List ℕ)
  pub groups : List (List Entry)
  pub are_commands : AreCommands old.tenant old.now old.labels commands groups
  pub whole : old.entries ++ entries ≡ concat groups ++ new.entries
  pub next : new ≡ record old { last = last_of old.last entries; entries = new.entries }
  pub written : Appends before after (flat_map with_feed commands)

-- all lines of an input were taken
abbrev pub LoadsAll : (List ℕ → Option ℕ × List ℕ) → Load → Load → List ℕ → Option (List ℕ) → Option (List ℕ) → Option (List ℕ) → Type 0
LoadsAll read old new input left before after = (left ≡ Some []) × Loads read old new (lines_of input) before after

-- the lines before one that is refused were taken, and those after it are left; the refused one is the number-th
pub record LoadsUntil (read : List ℕ → Option ℕ × List ℕ) (old new : Load) (input : List ℕ) (left before after : Option (List ℕ)) (number : ℕ) (fault : LoadFault) : Type 0 where
  pub taken : List (List ℕ)
  pub line : List ℕ
  pub rest : List ℕ
  pub left_is : left ≡ Some rest
  pub lines : lines_of input ≡ taken ++ line ∷ lines_of rest
  pub numbered : number ≡ length taken + 1
  pub refused : entry_of new (read line).0 (read line).1 ≡ Err fault
  pub loads : Loads read old new taken before after

-- ---- for private clauses

-- the lines before those that are left were taken; the next is the number-th
pub record LoadsFront (read : List ℕ → Option ℕ × List ℕ) (old new : Load) (input : List ℕ) (left before after : Option (List ℕ)) (number : ℕ) : Type 0 where
  pub taken : List (List ℕ)
  pub rest : List ℕ
  pub left_is : left ≡ Some rest
  pub lines : lines_of input ≡ taken ++ lines_of rest
  pub numbered : number ≡ length taken + 1
  pub loads : Loads read old new taken before after
