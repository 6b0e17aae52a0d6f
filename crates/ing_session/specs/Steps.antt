-- How a step of a run leads from one moment of it to the next, or to its ending.
use Rattle.std.specs.Prelude.{◌≡◌, ◌⊎◌, ℕ, false, true, Bool, List, [], ◌++◌, Option, Some, Result, Ok, Err, MatchBool}
use Rattle.std.specs.List.{AllByRecursion, flat_map}
use Rattle.std.specs.Io.KnownBytes.{Appends}
use Rattle.ing_limits.specs.Settings.{StoreSettings}
use Rattle.ing_session.specs.declared.ending.Ending.{Ending}
use Rattle.ing_session.specs.declared.ending.Ending.TheVariants.{NoMemory, InputFault, OutputFault}
use Rattle.ing_session.specs.declared.ticks.Tick.{Tick}
use Rattle.ing_session.specs.Fronts.{AppendsFront, Grows}
use Rattle.ing_session.specs.Lines.{lines_of, with_feed}
use Rattle.ing_session.specs.Parts.{HasNoFeed}
use Rattle.ing_session.specs.Manners.{Manner, Turn, answers_of, held_after, lines_in}
use Rattle.ing_session.specs.Runs.{AnswersLines, AnswersWhatWasRead, BreaksOff, HearsAll, MayBeAnswered, with_replies}

-- How a run began: its settings, what there was to read, how often the store had failed by then, and what its writer held.
pub record Began : Type 0 where
  pub settings : StoreSettings
  pub input : List ℕ
  pub before : ℕ
  pub old : Option (List ℕ)

-- What is seen of a run from within at one moment: what its clock has said, the settings, what is held, and what of it is left where memory
-- ran out, how often the store has failed by then, what the writer holds, the replies that are held back, whether the input is at its end,
-- what of the input is in no line yet, and what of that the reader has still to give.
pub record Moment (m : Manner) : Type 1 where
  pub ticks : Option (List Tick)
  pub settings : StoreSettings
  pub holds : m.Held → Type 0
  pub leaves : m.Held → Type 0
  pub failed : ℕ
  pub contents : Option (List ℕ)
  pub replies : List ℕ
  pub at_end : Bool
  pub left : Option (List ℕ)
  pub rest : Option (List ℕ)

-- It is under way: the lines that were answered, with their line feeds, are what was read of the input but for what is left, which is
-- known; once the input is at its end, all lines were answered. What these lines leave is held, under the settings it began with.
pub record IsUnderWay (m : Manner) (began : Began) (now : Moment m) : Type 0 where
  pub turns : List (Turn m.Held)
  pub left : List ℕ
  pub known : now.left ≡ Some left
  pub no_feeds : AllByRecursion HasNoFeed (lines_in turns)
  pub taken : now.at_end ≡ false → began.input ≡ flat_map with_feed (lines_in turns) ++ left
  pub read : now.at_end ≡ true → (lines_of began.input ≡ lines_in turns) × (left ≡ [])
  pub settings_are : now.settings ≡ began.settings
  pub holds : now.holds (held_after m.nothing turns)
  pub heard : HearsAll now.ticks turns
  pub may_be : MayBeAnswered m began.settings began.before now.failed turns
  pub answered : Appends began.old (with_replies now.contents now.replies) (answers_of turns)

-- All its lines are answered, with the replies that are held back.
abbrev pub HasAnswered : (m : Manner) → Began → Moment m → Type 0
HasAnswered m began now =
    AnswersLines m began.settings now.ticks now.holds began.input began.before now.failed began.old (with_replies now.contents now.replies)

-- Of the answers to its first lines so much is written, and what these lines leave is left.
abbrev pub BreaksOffAt : (m : Manner) → Began → Moment m → (List ℕ → Type 0) → Type 0
BreaksOffAt m began now written =
    BreaksOff m began.settings now.ticks (λ held. now.holds held ⊎ now.leaves held) began.input began.before now.failed written

-- It stops behind its first lines, which are answered with the replies that are held back.
abbrev pub Stops : (m : Manner) → Began → Moment m → Type 0
Stops m began now = BreaksOffAt m began now (Appends began.old (with_replies now.contents now.replies))

-- Where a read failed it has answered all lines that were read whole.
abbrev pub StopsReading : (m : Manner) → Began → Moment m → Type 0
StopsReading m began now =
    AnswersWhatWasRead m began.settings now.ticks began.input now.rest began.before now.failed began.old (with_replies now.contents now.replies)

-- A step ends it so, and has no other ending. Where a write failed, a front of the answers is written behind what the writer held when the
-- run began, if it had only grown until the step.
abbrev pub EndsBy : (m : Manner) → Began → Moment m → Moment m → Ending → Type 0
EndsBy m began old new InputFault = StopsReading m began new × Stops m began new
EndsBy m began old new NoMemory = Stops m began new
EndsBy m began old new OutputFault = Grows began.old old.contents → BreaksOffAt m began new (AppendsFront began.old new.contents)
EndsBy m began old new _ = ⊥

-- What a step leads to: the run is under way still, or all its lines are answered, as the result says; or it ends.
abbrev pub LeadsTo : {T : Type 0} → (m : Manner) → (T → Bool) → Began → Moment m → Moment m → Result T Ending → Type 0
LeadsTo m goes_on began old new (Ok done) = MatchBool (goes_on done) (IsUnderWay m began new) (HasAnswered m began new)
LeadsTo m goes_on began old new (Err ending) = EndsBy m began old new ending

-- A step of a run, from one moment to a later one, with this result: however the run began, if it was under way before, this is what the
-- step leads to. Of a result without an error it is told whether the run goes on.
pub record StepsTo {T : Type 0} (m : Manner) (goes_on : T → Bool) (old new : Moment m) (result : Result T Ending) : Type 0 where
  pub leads : (began : Began) → IsUnderWay m began old → LeadsTo m goes_on began old new result
