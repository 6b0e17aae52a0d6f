use Rattle.std.proofs.Common.{refl}
use Rattle.ing_session.proofs.faults.query_fault.Goals as goal

pub returns-in-NoMemory-clause-memory : goal.returns-in-NoMemory-clause-memory
returns-in-NoMemory-clause-memory c = λ is. refl

pub returns-in-StoreFault-clause-reply : goal.returns-in-StoreFault-clause-reply
returns-in-StoreFault-clause-reply c = rw c.in-StoreFault.is refl

pub returns-in-StoreFault-clause-memory : goal.returns-in-StoreFault-clause-memory
returns-in-StoreFault-clause-memory c = λ none. absurd (cc)

pub returns-in-BadObject-clause-reply : goal.returns-in-BadObject-clause-reply
returns-in-BadObject-clause-reply c = rw c.in-BadObject.is refl

pub returns-in-BadObject-clause-memory : goal.returns-in-BadObject-clause-memory
returns-in-BadObject-clause-memory c = λ none. absurd (cc)
