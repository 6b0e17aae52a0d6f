-- Gauges as sums over all rows, and where a number of a stream is found.
-- What names no section of the Loki documentation is own.
use Rattle.std.specs.Prelude.{◌≡◌, ◌+◌, ◌-◌, ◌≤◌, ◌<◌, ◌^◌, ℕ, Bool, ◌&&◌, List, filter, length, bytes_eq, ◌==◌, nat_lt, if◌then◌else◌}
use Rattle.ing_rows.specs.declared.gauges.Gauge.{Gauge}
use Rattle.ing_rows.specs.declared.gauges.Gauges.{Gauges}
use Rattle.ing_rows.specs.declared.place.Place.{Place}
use Rattle.ing_rows.specs.Rows.{StreamKey, Row, is_head, is_block, is_in_flight, is_stored, same_stream, size_of_rows, live_streams}

-- the tenant's rows whose place passes the test
abbrev pub gauge_of : (Place → Bool) → List Row → List ℕ → Gauge
gauge_of at rows tenant =
    let there = filter (λ r. bytes_eq r.stream.tenant tenant && at r.place) rows in
    record { entries = length there; bytes = size_of_rows there }

-- a tenant's live streams, and its entries by the kind of their place (own)
abbrev pub gauges_of : List Row → List ℕ → Gauges
gauges_of rows tenant =
    record {
      streams = length (live_streams rows tenant);
      head = gauge_of is_head rows tenant;
      block = gauge_of is_block rows tenant;
      flight = gauge_of is_in_flight rows tenant;
      stored = gauge_of is_stored rows tenant;
    }

-- ---- sums that are kept

-- both together, and what is left where some of it goes
abbrev pub gauge_more : Gauge → Gauge → Gauge
gauge_more a b = record { entries = a.entries + b.entries; bytes = a.bytes + b.bytes }

abbrev pub gauge_less : Gauge → Gauge → Gauge
gauge_less a b = record { entries = a.entries - b.entries; bytes = a.bytes - b.bytes }

-- what each of the counts is, told by the count that is meant
abbrev pub gauges_by : ((Gauges → ℕ) → ℕ) → Gauges
gauges_by each =
    record {
      streams = each (λ k. k.streams);
      head = record { entries = each (λ k. k.head.entries); bytes = each (λ k. k.head.bytes) };
      block = record { entries = each (λ k. k.block.entries); bytes = each (λ k. k.block.bytes) };
      flight = record { entries = each (λ k. k.flight.entries); bytes = each (λ k. k.flight.bytes) };
      stored = record { entries = each (λ k. k.stored.entries); bytes = each (λ k. k.stored.bytes) };
    }

-- of no entries
abbrev pub no_gauges : Gauges
no_gauges = gauges_by (λ f. 0)

-- what a part adds is within the sums
pub record IsWithinGauge (part sum : Gauge) : Type 0 where
  pub entries : part.entries ≤ sum.entries
  pub bytes : part.bytes ≤ sum.bytes

pub record AreWithin (part sums : Gauges) : Type 0 where
  pub streams : part.streams ≤ sums.streams
  pub head : IsWithinGauge part.head sums.head
  pub block : IsWithinGauge part.block sums.block
  pub flight : IsWithinGauge part.flight sums.flight
  pub stored : IsWithinGauge part.stored sums.stored

-- the sums can be kept
pub record HasRoom (sum : Gauge) : Type 0 where
  pub entries : sum.entries < 2 ^ 64
  pub bytes : sum.bytes < 2 ^ 128

pub record HaveRoom (sums : Gauges) : Type 0 where
  pub streams : sums.streams < 2 ^ 64
  pub head : HasRoom sums.head
  pub block : HasRoom sums.block
  pub flight : HasRoom sums.flight
  pub stored : HasRoom sums.stored

-- the sums where one of their parts has changed
abbrev pub with_changed : Gauges → Gauges → Gauges → Gauges
with_changed sums before after = gauges_by (λ f. f sums - f before + f after)

-- ---- where numbers stand

-- where a number of a stream is found, looking through all rows
abbrev pub spots_of : List Row → StreamKey → ℕ → List Row
spots_of rows s number = filter (λ r. same_stream r.stream s && (r.number == number)) rows

-- each number below the stream's count is found once, and no other (own)
abbrev pub StandsOnce : List Row → StreamKey → ℕ → Type 0
StandsOnce rows s count = (number : ℕ) → length (spots_of rows s number) ≡ (if nat_lt number count then 1 else 0)
