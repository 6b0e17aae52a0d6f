use Rattle.ing_session.proofs.LinesLaws.{lines_of-ended, lines_of-open_last, cuts_every}
use Rattle.ing_session.proofs.laws.lines_end_at_line_feeds.Goals as goal

pub returns-clause-ended : goal.returns-clause-ended
returns-clause-ended c = lines_of-ended

pub returns-clause-open : goal.returns-clause-open
returns-clause-open c = lines_of-open_last

pub returns-clause-every : goal.returns-clause-every
returns-clause-every c = cuts_every
