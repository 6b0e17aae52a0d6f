use Rattle.std.proofs.Common.{◌+◌, ap, sym, ◌∙◌}
use Rattle.ing_labels.specs.Reading.{readings_of, reading_of}
use Rattle.ing_labels.proofs.Chars.{some_bytes}
use Rattle.ing_labels.proofs.Ends.{one_more, bad_here, bad_end, good_end}
use Rattle.ing_labels.proofs.selector_reader.read_matchers.Goals as goal

pub returns-in-None-2-clause-fault : goal.returns-in-None-2-clause-fault
returns-in-None-2-clause-fault c =
    bad_here _ _ _ _ c.in-Some.c (reading_of c.loop-c.state) c.in-Some.ensures.steps.0 (some_bytes c.in-Some.c) (sym c.in_ok-next.ensures ∙ ap readings_of c.in-None-2.is) c.loop-c.invariant

pub loop-c-preserved : goal.loop-c-preserved
loop-c-preserved c =
    one_more _ _ _ _ _ c.in-Some.c (reading_of c.loop-c.state) _ c.in-Some.ensures.steps.0 (ap (λ n. c.loop-c.at + n) c.len_utf8-at.ensures.len) (sym c.in_ok-next.ensures ∙ ap readings_of c.in-Some-2.is) c.loop-c.invariant

pub returns-in-Some-closed-clause-ok : goal.returns-in-Some-closed-clause-ok
returns-in-Some-closed-clause-ok c =
    good_end c.args.text.now _ _ c.in-Some-closed.read.items (reading_of c.loop-c.state) c.in-None.ensures.steps.0.0 c.in-Some-closed.ensures c.loop-c.invariant

pub returns-in-None-closed-clause-fault : goal.returns-in-None-closed-clause-fault
returns-in-None-closed-clause-fault c =
    bad_end c.args.text.now _ _ (reading_of c.loop-c.state) c.in-None.ensures.steps.0.0 c.in-None-closed.ensures c.loop-c.invariant
