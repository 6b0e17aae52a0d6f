use Rattle.test_rounds.proofs.meeting.closed_at_last.Goals as goal

-- the tallies that a refused close gives back are the ingester's
pub close-requires-2 : goal.close-requires-2
close-requires-2 g c = rw c.in-Err-close.ensures.tallies c.args.parts.own
