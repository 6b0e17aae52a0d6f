-- The rules where no setting changes them (Loki documentation: ingester and limits configuration; the target size,
-- uncompressed, and the limits for one shard are own).
use Rattle.ing_rows.specs.declared.rules.Rules.{Rules}

abbrev pub defaults : Rules
defaults = record {
  chunk_block_size = 262144;
  chunk_target_size = 1572864;
  chunk_idle_period = 1800000000000;
  max_chunk_age = 7200000000000;
  max_label_names = 15;
  max_label_name_length = 1024;
  max_label_value_length = 2048;
  max_line_size = 262144;
  max_streams_per_tenant = 1000;
  max_entries_per_push = 10000;
}
