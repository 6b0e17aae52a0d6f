-- What is written of all entries of a stream (own).
use Rattle.std.specs.Prelude.{ℕ, ◌≤◌, All, List, map, Option, Some, None}
use Rattle.ctl_feed.specs.Feeds.{FeedsAll}
use Rattle.ctl_feed.specs.Labels.{IsNamed}
use Rattle.ing_chunk.specs.declared.numbered.Numbered.{Numbered}
use Rattle.ing_limits.specs.Ranges.{rules_for}
use Rattle.ing_limits.specs.Settings.{StoreSettings}
use Rattle.ing_query.specs.Fetched.{NotBad}
use Rattle.ing_query.specs.declared.fault.QueryFault.{QueryFault}
use Rattle.ing_query.specs.declared.fault.QueryFault.TheVariants as query
use Rattle.ing_rows.specs.Rows.{Row, StreamKey}
use Rattle.ing_rows.specs.declared.entry.Entry.{Entry}
use Rattle.ctl_export.specs.Reads.{AreInOrder, AreOf}
use Rattle.ctl_export.specs.declared.fault.ExportFault.{ExportFault}
use Rattle.ctl_export.specs.declared.fault.ExportFault.TheVariants.{NoMemory, Query, OutputFault, NoName, TooLong}

-- without its number
abbrev pub entry_of : Numbered → Entry
entry_of e = e.entry

-- What was written is push commands of at most so many entries, each a line, whose entries, one
-- command after another, are these, with the stream's tenant and the labels of its canonical name.
-- No stamp is above the time of the commands.
pub record Writes (most : ℕ) (s : StreamKey) (entries : List Numbered)
    (before after : Option (List ℕ)) : Type 0 where
  pub labels : List (List ℕ × List ℕ)
  pub named : IsNamed s.name labels
  pub now : ℕ
  pub latest : All (λ e. e.entry.stamp ≤ now) entries
  pub fed : FeedsAll most s.tenant now labels (map entry_of entries) before after

-- What was written is the entries of the stream in these rows, each once, in the order of their
-- numbers, where what they were read by is honest: push commands, none of more entries than the
-- tenant's rules allow.
pub record Exports (honest : Type 0) (settings : StoreSettings) (s : StreamKey) (rows : List Row)
    (before after : Option (List ℕ)) : Type 0 where
  pub entries : List Numbered
  pub are : honest → AreOf s rows entries
  pub in_order : AreInOrder entries
  pub writes : Writes (rules_for settings s.tenant).max_entries_per_push s entries before after

-- the same of a stream, if there is one
abbrev pub ExportsOf : Type 0 → StoreSettings → Option StreamKey → List Row
    → Option (List ℕ) → Option (List ℕ) → Type 0
ExportsOf honest settings None rows before after = ⊥
ExportsOf honest settings (Some s) rows before after = Exports honest settings s rows before after

-- what it is for an export that not all could be read
abbrev pub query_fault : QueryFault → ExportFault
query_fault query.NoMemory = NoMemory
query_fault (query.StoreFault key) = Query (query.StoreFault key)
query_fault (query.BadObject key) = Query (query.BadObject key)

-- it is no fault of what is read
abbrev pub IsNoQuery : ExportFault → Type 0
IsNoQuery NoMemory = Unit {0}
IsNoQuery (Query fault) = ⊥
IsNoQuery OutputFault = Unit {0}
IsNoQuery NoName = Unit {0}
IsNoQuery TooLong = Unit {0}

-- it is no bad object
abbrev pub IsNoBadObject : ExportFault → Type 0
IsNoBadObject NoMemory = Unit {0}
IsNoBadObject (Query fault) = NotBad fault
IsNoBadObject OutputFault = Unit {0}
IsNoBadObject NoName = Unit {0}
IsNoBadObject TooLong = Unit {0}
