use Rattle.std.proofs.Common.{◌≡◌, ◌∙◌, ◌*◌, ◌+◌, false, true, refl, sym, arith}
use Rattle.ing_parts.specs.Answers.{precedes}
use Rattle.ing_parts.proofs.HeapLaws.{compared, first_below, only_below, second_below}
use Rattle.ing_parts.proofs.StandLaws.{precedes_is_order}
use Rattle.ing_parts.proofs.best.last_below.Goals as goal
use Rattle.ing_parts.proofs.best.last_below.Goals.{else-right-held-via-then-right-held+else-is_lt, else-right-held-via-else-right-held}

pub returns-then-is_lt-clause-last : goal.returns-then-is_lt-clause-last
returns-then-is_lt-clause-last c =
    let lt = precedes c.args.order in
    let held = c.args.held.now in
    let left = c.args.at * 2 + 1 in
    let one = c.index-held-left in
    let other = c.index-held-right in
    let within = c.if-right-held.true in
    let before : lt one.result other.result ≡ true = sym c.compare.ensures ∙ sym c.is_lt.ensures ∙ c.if-is_lt.true in
    second_below lt (precedes_is_order c.args.order) held c.args.at left refl (compared lt held left (left + 1) one.result other.result true (omega arith) (omega arith) one.is other.is before)

pub returns-clause-last : goal.returns-clause-last
returns-clause-last c =
    let lt = precedes c.args.order in
    let o = precedes_is_order c.args.order in
    let held = c.args.held.now in
    let left = c.args.at * 2 + 1 in
    elim c.else-right-held.branch [
      | else-right-held-via-then-right-held+else-is_lt w ↦
          (let one = w.index-held-left in
          let other = w.index-held-right in
          let within = w.if-right-held.true in
          let behind : lt one.result other.result ≡ false = sym w.compare.ensures ∙ sym w.is_lt.ensures ∙ w.if-is_lt.false in
          first_below lt o held c.args.at left refl (compared lt held left (left + 1) one.result other.result false (omega arith) (omega arith) one.is other.is behind))
      | else-right-held-via-else-right-held w ↦ only_below lt o held c.args.at left refl w.if-right-held.false
    ]
