use Rattle.ing_session.proofs.reply.write_verdict.Goals as goal

pub returns-in-TooFarBehind-clause-tokens : goal.returns-in-TooFarBehind-clause-tokens
returns-in-TooFarBehind-clause-tokens c = rw c.in-TooFarBehind.is c.write_quoted.ensures.tokens
