use Rattle.std.proofs.Common.{◌≡◌, Bool, true, false, not, refl, sym, subst, ◌∙◌}
use Rattle.std.specs.Option.{option_map}
use Rattle.ing_chunk.specs.Chunks.{in_blocks}
use Rattle.ing_relist.specs.Ends.{EndsWith}
use Rattle.ing_relist.proofs.EndLaws.{none_other, some_other}
use Rattle.ing_relist.proofs.ends.end_with.Goals as goal

none_there : (b : Bool) → not b ≡ true → b ≡ false
none_there true h = absurd (cc)
none_there false h = refl

one_there : (b : Bool) → not b ≡ false → b ≡ true
one_there true h = refl
one_there false h = absurd (cc)

pub returns-in-Some-clause-yes : goal.returns-in-Some-clause-yes
returns-in-Some-clause-yes c is =
    subst (λ o. EndsWith (option_map (λ e. e.now) o) c.args.end c.args.blocks.now) (sym c.in-Some.is)
    (none_other c.args.end c.in-Some.entry.now (in_blocks c.args.blocks.now) (sym c.has_other.ensures ∙ none_there c.has_other.result is))

pub returns-in-Some-clause-no : goal.returns-in-Some-clause-no
returns-in-Some-clause-no c is ends =
    some_other c.args.end c.in-Some.entry.now (in_blocks c.args.blocks.now) (sym c.has_other.ensures ∙ one_there c.has_other.result is)
    (subst (λ o. EndsWith (option_map (λ e. e.now) o) c.args.end c.args.blocks.now) c.in-Some.is ends)
