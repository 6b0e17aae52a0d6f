use Rattle.std.proofs.Common.{◌≡◌, option_map}
use Rattle.std.specs.String.{string_bytes}
use Rattle.toml.specs.View.{members_view, table_view}
use Rattle.ing_limits.specs.Settings.{least_with, flawed_names, entries_of}
use Rattle.ing_limits.proofs.flaws.least_of_table.Given as goal

-- the least so far with the names to come is the least with all names
abbrev pub invariant-loop-key : goal.invariant-loop-key
invariant-loop-key l =
    least_with (option_map string_bytes l.found) (flawed_names l.flaw l.level l.prefix (entries_of (members_view l.key-iterator)))
    ≡ least_with (option_map string_bytes l.fn.least) (flawed_names l.flaw l.level l.prefix (entries_of (table_view l.table)))
