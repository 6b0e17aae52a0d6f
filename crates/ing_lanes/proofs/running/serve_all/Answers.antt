use Rattle.std.proofs.Common.{slice_index_or, subst, sym}
use denote.Exit.{unseen}
use denote.Param.Send.{Quiet-if}
use mir.Syntax.{of_param}
use Rattle.ing_node.proofs.Lists.{of_same}
use Rattle.ing_node.proofs.RoundLaws.{zip_of}
use Rattle.ing_lanes.specs.ByLane.{nothing_held}
use Rattle.ing_lanes.specs.Counted.{IsHeld, counted_by}
use Rattle.ing_lanes.specs.Served.{IsServed, account_of}
use Rattle.ing_lanes.specs.declared.channel.Channel.{Channel}
use Rattle.ing_lanes.proofs.running.serve_all.Goals as goal

-- each channel was told nothing yet
pub for_each_mut-requires-clause-accepts : goal.for_each_mut-requires-clause-accepts
for_each_mut-requires-clause-accepts g c = λ κs lives i p below is.
    let C = Channel g.row.N.Denot g.row.I.Denot g.row.O.Denot g.row.D.Denot g.row.R.Denot g.row.F.Denot g.row.S.Denot g.row.W.Denot g.N.NodeName g.D.LogDisk g.R.Receipt g.F.StoreEnd in
    let P = λ (ch : C). IsHeld ch.lane.pusher (counted_by ch.lane.workers.items) ch.lane.board nothing_held in
    let may = c.type_bounds in (
      subst P (sym is) (c.requires i p.now below),
      (
        record { owned = may.send-N.owned; leaving = λ k. Quiet-if (k (of_param 0)) unseen unseen (λ x w. tt {0}) (λ x w. tt {0}) },
        record { owned = may.send-I.owned; leaving = λ k. Quiet-if (k (of_param 1)) unseen unseen (λ x w. tt {0}) (λ x w. tt {0}) },
        record { owned = may.send-O.owned; leaving = λ k. Quiet-if (k (of_param 2)) unseen unseen (λ x w. tt {0}) (λ x w. tt {0}) },
        record { owned = may.send-D.owned; leaving = λ k. Quiet-if (k (of_param 3)) unseen unseen (λ x w. tt {0}) (λ x w. tt {0}) },
        record { owned = may.send-R.owned; leaving = λ k. Quiet-if (k (of_param 4)) unseen unseen (λ x w. tt {0}) (λ x w. tt {0}) },
        record { owned = may.send-F.owned; leaving = λ k. Quiet-if (k (of_param 5)) unseen unseen (λ x w. tt {0}) (λ x w. tt {0}) },
        record { owned = may.send-S.owned; leaving = λ k. Quiet-if (k (of_param 6)) unseen unseen (λ x w. tt {0}) (λ x w. tt {0}) },
        record { shared = may.sync-N.shared },
        record { shared = may.sync-R.shared },
        record { shared = may.sync-W.shared },
        record { shared = may.sync-X.shared },
      ),
    )

-- what each call says of its channel
pub returns : goal.returns
returns g c =
    let C = Channel g.row.N.Denot g.row.I.Denot g.row.O.Denot g.row.D.Denot g.row.R.Denot g.row.F.Denot g.row.S.Denot g.row.W.Denot g.N.NodeName g.D.LogDisk g.R.Receipt g.F.StoreEnd in
    let rd = g.I.Read.remaining in
    let wr = g.O.Write.contents in
    let failures = g.S.StoreEnd.failure_count in
    let P = λ (old new : C). IsServed g.S.StoreEnd.is_honest g.N.NodeName.has_logs g.N.NodeName.settings (rd old.line.reader) (failures old.line.end) (failures new.line.end) (wr old.line.writer) (wr new.line.writer)
    (account_of new.lane.pusher new.lane.workers.items) new.line.ended in
    zip_of P c.args.channels.now c.for_each_mut.new.s c.for_each_mut.auto.s
    (λ i d below.
    let at = (c.for_each_mut.ensures i d below).1 in
    of_same P at.argument.now at.after_call.now (slice_index_or c.args.channels.now i d) (slice_index_or c.for_each_mut.new.s i d) at.argument_is at.left at.call)
