use Rattle.std.proofs.Common.{sym, subst}
use Rattle.ing_flush.specs.Tallies.{AreStoredIn}
use Rattle.ing_flush.proofs.flush.flush_one.Goals as goal

pub finish-requires-clause-own : goal.finish-requires-clause-own
finish-requires-clause-own g c = subst (AreStoredIn g.D.Door.books) (sym c.upload.ensures.tally) c.requires.own
