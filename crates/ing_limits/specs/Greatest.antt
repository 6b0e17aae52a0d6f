-- The greatest values of settings that are whole numbers; the least is 1 (own).
use Rattle.std.specs.Prelude.{ℕ}

-- shards
abbrev pub most_shards : ℕ
most_shards = 64

-- flushers
abbrev pub most_flushers : ℕ
most_flushers = 32

-- operations in the flush queue
abbrev pub most_queued : ℕ
most_queued = 65536

-- bytes of a log behind which it is replaced
abbrev pub most_log_bytes : ℕ
most_log_bytes = 1099511627776

-- bytes of a block, and of a chunk
abbrev pub most_bytes : ℕ
most_bytes = 1073741824

-- labels of a stream
abbrev pub most_label_names : ℕ
most_label_names = 64

-- bytes of a label's name
abbrev pub most_name_bytes : ℕ
most_name_bytes = 1024

-- bytes of a label's value
abbrev pub most_value_bytes : ℕ
most_value_bytes = 2048

-- bytes of a line
abbrev pub most_line_bytes : ℕ
most_line_bytes = 262144

-- live streams of a tenant
abbrev pub most_streams : ℕ
most_streams = 4294967295

-- entries of one stream in one push
abbrev pub most_entries : ℕ
most_entries = 10000
