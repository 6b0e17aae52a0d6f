use Rattle.std.proofs.Common.{◌≡◌, map, ap, subst, sym, ◌∙◌}
use Rattle.std.specs.List.{insert}
use Rattle.ing_commands.specs.Views.{label_view}
use Rattle.ing_pushes.specs.Usual.{GoesAt, Rise}
use Rattle.ing_pushes.proofs.labels.labels_in.Goals as goal
use Rattle.ing_pushes.proofs.OneByOne.{reads_all}
use Rattle.ing_pushes.proofs.Rising.{ReadAs, labels_with, map_insert, members_with, read_more, read_none}

pub loop-member-init : goal.loop-member-init
loop-member-init c = subst (λ xs. ReadAs c.args.members.now 0 (map label_view xs)) (sym c.in_ok-labels.ensures.items) (read_none c.args.members.now)

pub loop-member-preserved : goal.loop-member-preserved
loop-member-preserved c =
    let labels = c.loop-member.labels.items in
    let member = c.member-item.result in
    let place = c.in-Some-place_of.place in
    let goes = subst (λ ps. Rise (map label_view ps) → GoesAt member.0.now (map label_view ps) place) c.deref.ensures.value c.in-Some-place_of.ensures.goes c.loop-member.invariant.rise in
    let placed : map label_view c.insert.new.self.items ≡ insert (map label_view labels) place (member.0.now, c.in-Some.value.now) = ap (map label_view) c.in_ok-insert.ensures.items ∙ map_insert label_view labels place _ in
    read_more c.args.members.now c.loop-member.member-index (map label_view labels) _ place member c.in-Some.value.now c.loop-member-test.true c.member-item.is c.loop-member.invariant goes c.in-Some.ensures placed

pub returns : goal.returns
returns c = record { said = members_with (map label_view c.loop-member.labels.items); read = reads_all c.args.members.now c.loop-member.member-index _ c.loop-member-test.false c.loop-member.invariant.read; shape = labels_with _ }
