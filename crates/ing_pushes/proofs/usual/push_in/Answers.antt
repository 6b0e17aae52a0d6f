use Rattle.std.proofs.Common.{rules, ◌≡◌, IfSome, map, codes, sym, subst, ◌∙◌}
use Rattle.json.specs.Value.{value_view, members_view}
use Rattle.ing_commands.specs.Views.{stream_view}
use Rattle.ing_pushes.specs.Usual.{Each, IsPush, IsStream}
use Rattle.ing_pushes.proofs.Entries.{spelled, streams_read}
use Rattle.ing_pushes.proofs.Read.{push_read}
use Rattle.ing_pushes.proofs.usual.push_in.Goals as goal

pub returns-in-Ok-of_text : goal.returns-in-Ok-of_text
returns-in-Ok-of_text c =
    let parts = c.in-Some-push_parts.parts in
    let streams = map stream_view c.in-Some-2.streams.items in
    let push : parts.cmd.now ≡ codes "push" = search (rules, c.if-ne.ensures) in
    let stamp = spelled _ _ _ (sym c.of_text.ensures ∙ c.in-Ok.is) in
    let each = subst (λ o. IfSome o (λ s. Each IsStream (map value_view parts.streams.now) (map stream_view s.items))) c.in-Some-2.is c.in_ok-streams.ensures in
    let said = push_read (members_view c.in-Some.members.now) parts.cmd.now parts.tenant.now parts.now.now c.in-Ok.now (map value_view parts.streams.now) streams c.in-Some-push_parts.ensures push c.in-Ok-of_text.ensures.tenant.1 stamp (streams_read _ _ each) in
    subst (λ t. IsPush (value_view c.args.value.now) (record { tenant = t; now = c.in-Ok.now; streams = streams })) (sym c.in-Ok-of_text.ensures.tenant.0)
    (subst (λ j. IsPush j (record { tenant = parts.tenant.now; now = c.in-Ok.now; streams = streams })) (sym c.in-Some.ensures) said)
