use Rattle.std.proofs.Common.{◌≡◌, ◌++◌, ◌∷◌, [], IfSome, map, subst, ap, ◌∙◌}
use Rattle.std.proofs.lemmas.List.{map-append}
use Rattle.json.specs.Value.{value_view}
use Rattle.ing_commands.specs.Views.{stream_view}
use Rattle.ing_pushes.specs.Usual.{IsStream}
use Rattle.ing_pushes.proofs.Entries.{each_next}
use Rattle.ing_pushes.proofs.usual.streams_in.Goals as goal

pub loop-value-preserved : goal.loop-value-preserved
loop-value-preserved c =
    let pushed : map stream_view c.push.new.self.items ≡ map stream_view c.loop-value.streams.items ++ stream_view c.in-Some.stream ∷ [] = ap (map stream_view) c.in_ok-push.ensures.items ∙ map-append stream_view c.loop-value.streams.items _ in
    each_next IsStream value_view c.args.values.now c.loop-value.value-index c.value-item.result (map stream_view c.loop-value.streams.items) (map stream_view c.push.new.self.items) (stream_view c.in-Some.stream) c.loop-value-test.true c.value-item.is pushed c.loop-value.invariant (subst (λ o. IfSome o (λ s. IsStream (value_view c.value-item.result) (stream_view s))) c.in-Some.is c.in_ok-stream.ensures)
