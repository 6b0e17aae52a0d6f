use Rattle.std.proofs.Common.{◌≡◌, ◌≤◌, vec_len}
use Rattle.std.specs.Prelude.{All, map}
use Rattle.std.specs.Vec.{vec_capacity}
use Rattle.ing_node.specs.Names.{AreAcceptedIn}
use Rattle.ing_node.specs.Queries.{AreBelow, AreNoLess, IsAskedOf}
use Rattle.ing_node.specs.Diaries.{notes_in}
use Rattle.ing_diary.specs.PartAnswers.{StandApart}
use Rattle.ing_diary.specs.Questions.{question_view}
use Rattle.ing_diary.specs.Answers.{standing_in}
use Rattle.ing_node.proofs.ingester.Ingester.look_after.Given as goal

abbrev pub invariant-loop-place : goal.invariant-loop-place
invariant-loop-place g l = record {
  same : l.pusher-inside.told.items ≡ l.fn.pusher.told;
  diary : notes_in l.pusher-inside.diary ≡ l.fn.pusher.diary;
  all : vec_len l.pusher-inside.told ≡ g.N.NodeName.settings.shards;
  own : AreAcceptedIn g.N.NodeName.books l.pusher-inside.told.items;
  places : l.pusher-inside.places ≡ g.N.NodeName.settings.shards;
  snapshots : All (IsAskedOf l.tenant l.selector (question_view l.question)) l.snapshots.items;
  fronts : AreNoLess l.fn.pusher.told l.fronts.items;
  told : l.fronts.items ≡ map (λ s. s.front) l.snapshots.items;
  once : StandApart (standing_in l.snapshots.items);
  below : AreBelow g.N.NodeName.settings.shards l.tenant l.place (standing_in l.snapshots.items);
  made : (vec_len l.snapshots ≡ l.place) × (vec_len l.fronts ≡ l.place);
  room : (vec_len l.self.shards ≤ vec_capacity l.snapshots) × (vec_len l.self.shards ≤ vec_capacity l.fronts);
}
