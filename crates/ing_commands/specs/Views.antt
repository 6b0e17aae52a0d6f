-- What the code's types hold, without where it lies in memory.
use Rattle.std.specs.Prelude.{ℕ, List, map, option_map}
use Rattle.std.specs.Borrow.{Bor}
use Rattle.ing_commands.specs.declared.push.Push as push
use Rattle.ing_commands.specs.declared.push.StreamPush.{StreamPush}
use Rattle.ing_commands.specs.declared.push.PushTexts.{PushTexts}
use Rattle.ing_commands.specs.declared.push.stream.StreamTexts.{StreamTexts}
use Rattle.ing_commands.specs.declared.push.ValueTexts.{ValueTexts}
use Rattle.ing_commands.specs.declared.catalog.Catalog as catalog
use Rattle.ing_commands.specs.declared.flush.Flush as flush
use Rattle.ing_commands.specs.declared.gauges.GaugesOf.{GaugesOf}
use Rattle.ing_commands.specs.declared.query.Query as query
use Rattle.ing_commands.specs.declared.query.CursorTexts.{CursorTexts}
use Rattle.ing_commands.specs.declared.query.QueryTexts.{QueryTexts}
use Rattle.ing_commands.specs.declared.sweep.Sweep as sweep
use Rattle.ing_commands.specs.declared.command.Command as code
use Rattle.ing_commands.specs.declared.command.Command.TheVariants as variants
use Rattle.serde_json.specs.View.{items_view}
use Rattle.ing_commands.specs.PushCommands.{RawValue, RawStream, RawPush, PushCommand, StreamEntries}
use Rattle.ing_commands.specs.PushTexts.{values_in}
use Rattle.ing_commands.specs.SweepCommands.{SweepCommand}
use Rattle.ing_commands.specs.FlushCommands.{FlushCommand}
use Rattle.ing_commands.specs.GaugesCommands.{GaugesCommand}
use Rattle.ing_commands.specs.QueryCommands.{RawCursor, RawQuery, QueryCommand}
use Rattle.ing_commands.specs.CatalogCommands.{CatalogCommand}
use Rattle.ing_rows.specs.Cursors.{cursor_view}
use Rattle.ing_rows.specs.Facets.{facet_view}
use Rattle.ing_commands.specs.Commands.{Command, Push, Sweep, Flush, Gauges, Board, Checkpoint, Query, Catalog}

-- the bytes of a label and its value
abbrev pub label_view : Bor (List ℕ) × Bor (List ℕ) → List ℕ × List ℕ
label_view pair = (pair.0.now, pair.1.now)

-- the texts of a value
abbrev pub value_view : ValueTexts → RawValue
value_view v = record { stamp = v.stamp.now; line = v.line.now; has_metadata = v.has_metadata }

-- the texts of a stream
abbrev pub texts_view : StreamTexts → RawStream
texts_view s = record { labels = map label_view s.labels.items; values = values_in (items_view s.values.now) }

-- the texts of a push
abbrev pub shape_view : PushTexts → RawPush
shape_view p = record { tenant = p.tenant.now; now = p.now.now; streams = map texts_view p.streams.items }

-- the entries of a stream
abbrev pub stream_view : StreamPush → StreamEntries
stream_view s = record { labels = map label_view s.labels.items; entries = s.entries.items }

-- a push
abbrev pub push_view : push.Push → PushCommand
push_view p = record { tenant = p.tenant; now = p.now; streams = map stream_view p.streams.items }

-- a sweep
abbrev pub sweep_view : sweep.Sweep → SweepCommand
sweep_view s = record { now = s.now }

-- a flush
abbrev pub flush_view : flush.Flush → FlushCommand
flush_view f = record { forced = f.forced }

-- a question for gauges
abbrev pub gauges_view : GaugesOf → GaugesCommand
gauges_view g = record { tenant = g.tenant }

-- the texts of a cursor
abbrev pub cursor_texts : CursorTexts → RawCursor
cursor_texts c = record { stamp = c.stamp.now; stream = c.stream.now; number = c.number }

-- the texts of a query
abbrev pub query_texts : QueryTexts → RawQuery
query_texts q = record { tenant = q.tenant.now; text = q.text.now; start = q.start.now; end = q.end.now; limit = q.limit; order = q.order; after = option_map cursor_texts q.after; pages = q.pages }

-- a query
abbrev pub query_view : query.Query → QueryCommand
query_view q = record { tenant = q.tenant; text = q.text.now; start = q.start; end = q.end; limit = q.limit; order = q.order; after = option_map cursor_view q.after; pages = q.pages }

-- a question for a catalog
abbrev pub catalog_view : catalog.Catalog → CatalogCommand
catalog_view c = record { tenant = c.tenant; text = option_map (λ text. text.now) c.text; facet = facet_view c.facet }

-- a command
abbrev pub command_view : code.Command → Command
command_view (variants.Push p) = Push (push_view p)
command_view (variants.Sweep s) = Sweep (sweep_view s)
command_view (variants.Flush f) = Flush (flush_view f)
command_view (variants.Gauges g) = Gauges (gauges_view g)
command_view variants.Board = Board
command_view variants.Checkpoint = Checkpoint
command_view (variants.Query q) = Query (query_view q)
command_view (variants.Catalog c) = Catalog (catalog_view c)
