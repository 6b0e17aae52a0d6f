use Rattle.std.proofs.Common.{◌≡◌, vec_len}
use Rattle.ing_begun.specs.Catalog.{asked_view}
use Rattle.ing_node.specs.Names.{AreAcceptedIn}
use Rattle.ing_node.specs.Diaries.{notes_in}
use Rattle.ing_node.specs.Queries.{AreToldBy}
use Rattle.ing_node.proofs.ingester.Ingester.texts_after.Given as goal

abbrev pub invariant-loop-place : goal.invariant-loop-place
invariant-loop-place g l = record {
  same : l.pusher-inside.told.items ≡ l.fn.pusher.told;
  diary : notes_in l.pusher-inside.diary ≡ l.fn.pusher.diary;
  all : vec_len l.pusher-inside.told ≡ g.N.NodeName.settings.shards;
  own : AreAcceptedIn g.N.NodeName.books l.pusher-inside.told.items;
  places : l.pusher-inside.places ≡ g.N.NodeName.settings.shards;
  told : AreToldBy (asked_view l.asked) l.fn.pusher.told l.place l.texts;
}
