-- What is written of entries of one stream that have their stamps.
use Rattle.std.specs.Prelude.{◌≡◌, ℕ, ◌≤◌, List, ◌++◌, flat_map, length, Option}
use Rattle.std.specs.List.{AllByRecursion}
use Rattle.std.specs.Io.KnownBytes.{Appends}
use Rattle.ing_rows.specs.declared.entry.Entry.{Entry}
use Rattle.ctl_feed.specs.declared.entries.EntryFault.{EntryFault}
use Rattle.ctl_feed.specs.declared.entries.EntryFault.TheVariants as fault
use Rattle.ctl_feed.specs.declared.inputs.FeedEnding.TheVariants as ending
use Rattle.ctl_feed.specs.declared.load_fault.LoadFault.{LoadFault}
use Rattle.ctl_feed.specs.declared.load_fault.LoadFault.TheVariants as load
use Rattle.ctl_feed.specs.Lines.{with_feed}
use Rattle.ctl_feed.specs.Loads.{Load}
use Rattle.ctl_feed.specs.Inputs.{AreCommands, concat}

-- no more than so many
abbrev pub HasAtMost : ℕ → List Entry → Type 0
HasAtMost most entries = length entries ≤ most

-- Entries were taken by a load, and what was written is commands of at most so many entries, each a
-- line. The entries that waited, and then these, are those of the commands, and then those that
-- still wait: none is lost, doubled or out of order.
pub record Feeds (most : ℕ) (old new : Load) (entries : List Entry)
    (before after : Option (List ℕ)) : Type 0 where
  pub commands : List (List ℕ)
  pub groups : List (List Entry)
  pub are_commands : AreCommands old.tenant old.now old.labels commands groups
  pub few : AllByRecursion (HasAtMost most) groups
  pub whole : old.entries ++ entries ≡ concat groups ++ new.entries
  pub next : new ≡ record old { last = new.last; entries = new.entries }
  pub written : Appends before after (flat_map with_feed commands)

-- What was written is, line for line, the commands of all entries, each of at most so many: the
-- entries of the commands, one command after another, are these.
pub record FeedsAll (most : ℕ) (tenant : List ℕ) (now : ℕ) (labels : List (List ℕ × List ℕ))
    (entries : List Entry) (before after : Option (List ℕ)) : Type 0 where
  pub commands : List (List ℕ)
  pub groups : List (List Entry)
  pub are_commands : AreCommands tenant now labels commands groups
  pub few : AllByRecursion (HasAtMost most) groups
  pub whole : entries ≡ concat groups
  pub written : Appends before after (flat_map with_feed commands)

-- what it is for entries that one was not taken
abbrev pub entry_fault : LoadFault → EntryFault
entry_fault load.NoMemory = fault.Ended ending.NoMemory
entry_fault load.LabelsTooLong = fault.TooLong
entry_fault load.TooLong = fault.TooLong
entry_fault load.NoStamp = fault.TooLong
