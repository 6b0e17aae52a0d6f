use Rattle.std.proofs.Common.{ap, sym, ◌∙◌}
use Rattle.ing_refusals.specs.Results.{◌>>=◌}
use Rattle.ing_commands.proofs.ShapeLaws.{three_elements, few_elements, many_elements}
use Rattle.ctl_explain.specs.Members.{test_raw}
use Rattle.ctl_explain.proofs.shape.elements_test.Goals as goal

pub returns-in-len3 : goal.returns-in-len3
returns-in-len3 c =
    let stamp = c.stamp-item-then-list-lt4 in
    let line = c.line-item-then-list-lt4 in
    c.texts_test-in-len3.ensures
    ∙ ap (λ r. r >>= test_raw) (sym (three_elements c.args.list.now stamp.result line.result c.in-len3.len_at_least c.in-len3.len_below stamp.is line.is))

pub returns-in_default : goal.returns-in_default
returns-in_default c = sym (ap (λ r. r >>= test_raw) (few_elements c.args.list.now c.in_default.len_below))

pub returns-in_default-2 : goal.returns-in_default-2
returns-in_default-2 c = sym (ap (λ r. r >>= test_raw) (many_elements c.args.list.now c.in_default.len_at_least))
