use Rattle.std.proofs.Common.{IfSome, map, sym, subst}
use Rattle.json.specs.Value.{value_view, members_view}
use Rattle.ing_commands.specs.Views.{label_view, stream_view}
use Rattle.ing_pushes.specs.Usual.{AreLabels, Each, IsEntry, IsStream}
use Rattle.ing_pushes.proofs.Entries.{entries_read}
use Rattle.ing_pushes.proofs.Read.{stream_read}
use Rattle.ing_pushes.proofs.usual.stream_in.Goals as goal

pub returns : goal.returns
returns c =
    let parts = c.in-Some-stream_parts.parts in
    let labels = subst (λ o. IfSome o (λ l. AreLabels (members_view parts.labels.now) (map label_view l.items))) c.in-Some-2.is c.in_ok-labels.ensures in
    let entries = subst (λ o. IfSome o (λ es. Each IsEntry (map value_view parts.values.now) es.items)) c.in-Some-3.is c.in_ok-entries.ensures in
    subst (λ j. IsStream j (stream_view (record { labels = c.in-Some-2.labels; entries = c.in-Some-3.entries }))) (sym c.in-Some.ensures) (stream_read (members_view c.in-Some.members.now) (members_view parts.labels.now) (map value_view parts.values.now) (map label_view c.in-Some-2.labels.items) c.in-Some-3.entries.items c.in-Some-stream_parts.ensures labels (entries_read _ _ entries))
