use Rattle.std.proofs.Common.{rules, ◌≡◌, is_lt}
use Rattle.std.proofs.lemmas.Fn.{always_returns_same}
use Rattle.ing_diary.specs.Fronts.{front_before}
use Rattle.ing_diary.proofs.FrontLaws.{before_is_order}
use Rattle.ing_diary.proofs.fronts.sort.Goals as goal

pub returns-clause-sorted : goal.returns-clause-sorted
returns-clause-sorted c =
    c.sort_unstable_by.ensures.sorted front_before before_is_order (always_returns_same _ (λ a r. is_lt r ≡ front_before a.0.now a.1.0.now) _ (search rules))
