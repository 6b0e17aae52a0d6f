-- What is kept of a stream to judge its entries, as contracts see it.
use Rattle.std.specs.Prelude.{List, [], ◌∷◌, Option, Some}
use Rattle.std.specs.Option.{option_map}
use Rattle.ing_rows.specs.declared.entry.Entry.{Entry}
use Rattle.ing_rows.specs.Facts.{Facts}
use Rattle.ing_shard.specs.declared.judge.KeptFacts.{KeptFacts}

-- the last of the entries, or the one before them
abbrev pub last_or : Option Entry → List Entry → Option Entry
last_or before [] = before
last_or before (e ∷ es) = last_or (Some e) es

-- the facts that verdicts read, where these entries were accepted since the last one was read
abbrev pub facts_since : List Entry → KeptFacts → Facts
facts_since accepted kept =
    record {
      count = kept.count;
      greatest = kept.greatest;
      last = last_or (option_map (λ e. e.now) kept.last) accepted;
      is_live = kept.is_live;
      live = kept.live;
    }
