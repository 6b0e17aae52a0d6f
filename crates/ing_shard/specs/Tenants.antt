-- What a shard keeps tenant by tenant, as contracts see it.
use Rattle.std.specs.Prelude.{ℕ, Bool, List, [], is_some, Option, None}
use Rattle.std.specs.Option.{option_map_or}
use Rattle.std.specs.BTreeMap.{get_by_text}
use Rattle.ing_labels.specs.Labels.{LabelMap}
use Rattle.ing_postings.specs.declared.postings.Listed.{Listed}
use Rattle.ing_rows.specs.Gauges.{no_gauges}
use Rattle.ing_rows.specs.declared.gauges.Gauges.{Gauges}
use Rattle.ing_shard.specs.Names.{find_in}
use Rattle.ing_shard.specs.declared.tenants.Tenants.{Tenants}

-- the number under which a stream is listed, by its tenant and its canonical name
abbrev pub find_of : Tenants → List ℕ → List ℕ → Option ℕ
find_of tenants t n = option_map_or (λ streams. find_in streams.by_name n) (get_by_text tenants.by_id t) None

-- whether the tenant is listed
abbrev pub is_known : Tenants → List ℕ → Bool
is_known tenants t = is_some (get_by_text tenants.by_id t)

-- the sums over the tenant's streams
abbrev pub kept_of : Tenants → List ℕ → Gauges
kept_of tenants t = option_map_or (λ streams. streams.kept) (get_by_text tenants.by_id t) no_gauges

-- the tenant's streams, in the order of their numbers
abbrev pub posted_of : Tenants → List ℕ → List Listed
posted_of tenants t = option_map_or (λ streams. streams.postings) (get_by_text tenants.by_id t) []

-- a stream of these labels, listed under this number
abbrev pub listed_as : ℕ → LabelMap → Listed
listed_as number labels = record { number = number; labels = labels }
