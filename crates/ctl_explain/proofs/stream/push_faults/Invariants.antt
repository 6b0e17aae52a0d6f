use Rattle.std.proofs.Common.{◌≡◌, ◌++◌, map, drop}
use Rattle.ing_commands.specs.Views.{stream_view}
use Rattle.ctl_explain.specs.Streams.{stream_fault_of}
use Rattle.ctl_explain.proofs.stream.push_faults.Given as goal

-- the faults so far and those of the streams that are left are those of all
abbrev pub invariant-loop-stream : goal.invariant-loop-stream
invariant-loop-stream l =
    l.faults.items ++ map (stream_fault_of l.rules) (map stream_view (drop l.stream-index l.stream-items))
    ≡ map (stream_fault_of l.rules) (map stream_view l.stream-items)
