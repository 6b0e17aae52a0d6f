-- What replies hold, without where it lies in memory.
use Rattle.std.specs.Prelude.{codes, map, string_bytes, None}
use Rattle.std.specs.declared.alloc.Global.{Global}
use Rattle.std.specs.declared.string.String.{String}
use Rattle.ing_session.specs.declared.reply.Reply.{Reply}
use Rattle.ing_session.specs.declared.reply.Reply.TheVariants as replies
use Rattle.ing_session.specs.declared.reply.StreamReply.{StreamReply}
use Rattle.ing_session.specs.declared.reply.StreamReply.TheVariants as replies_of_streams
use Rattle.ing_labels.specs.Canonical.{canonical_of}
use Rattle.serde_json.specs.Data.{Data, string}
use Rattle.ing_session.specs.Replies.{fault_data, judged_data, push_data, sweep_data, flush_data, gauges_data, board_data, checkpoint_data, query_data, texts_data, report_data, channels_data}

-- the reply to a stream
abbrev pub stream_data : StreamReply → Data
stream_data (replies_of_streams.Fault refusal at) = fault_data refusal at
stream_data (replies_of_streams.Judged labels durable verdicts) = judged_data (canonical_of labels) durable verdicts.items

-- a text
abbrev pub text_data : String Global → Data
text_data text = string (string_bytes text)

-- a reply
abbrev pub reply_data : Reply → Data
reply_data (replies.Fault refusal) = fault_data refusal None
reply_data (replies.Push streams) = push_data (map stream_data streams.items)
reply_data (replies.Sweep queued sealed) = sweep_data queued sealed
reply_data (replies.Flush failed sealed stored) = flush_data failed sealed stored
reply_data (replies.Gauges gauges) = gauges_data gauges.items
reply_data (replies.Board shards) = board_data shards.items
reply_data (replies.Checkpoint shards) = checkpoint_data shards.items
reply_data (replies.Refused refusal at) = fault_data refusal at
reply_data (replies.Query found fronts page) = query_data page found.items fronts.items
reply_data (replies.Series names) = texts_data (codes "series") (map string_bytes names.items)
reply_data (replies.Labels texts) = texts_data (codes "labels") (map string_bytes texts.items)
reply_data (replies.Report shards) = report_data shards.items
reply_data (replies.Channels broken shards) = channels_data broken shards.items
