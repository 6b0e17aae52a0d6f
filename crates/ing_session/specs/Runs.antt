-- What a run has written by the time it ends, and while it goes on.
use Rattle.std.specs.Prelude.{◌≡◌, ◌⊎◌, ℕ, List, [], ◌∷◌, ◌++◌, drop, IfSome, Option, Some, Result, Ok, Err}
use Rattle.std.specs.List.{AllByRecursion, flat_map}
use Rattle.std.specs.Io.KnownBytes.{Appends, Consumes, append_known}
use Rattle.ing_limits.specs.Settings.{StoreSettings}
use Rattle.serde_json.specs.Data.{Data}
use Rattle.ing_commands.specs.declared.fault.LineFault.{LineFault}
use Rattle.ing_commands.specs.Commands.{Command, Push}
use Rattle.ing_commands.specs.PushCommands.{PushCommand}
use Rattle.ing_session.specs.declared.ending.Ending.{Ending}
use Rattle.ing_session.specs.declared.ending.Ending.TheVariants.{NoMemory, InputFault, OutputFault}
use Rattle.ing_session.specs.Causes.{HaveCause}
use Rattle.ing_session.specs.Fronts.{AppendsFront}
use Rattle.ing_session.specs.Lines.{lines_of, with_feed}
use Rattle.ing_session.specs.Parts.{HasNoFeed}
use Rattle.ing_session.specs.PushLines.{TakesPushes}
use Rattle.ing_session.specs.Replies.{line_text}
use Rattle.ing_session.specs.Manners.{Manner, Turn, turn, Obeys, MayBe, MayBeFrom, answers_of, failed_in, held_after, lines_in, output_of, ticks_in}
use Rattle.ing_session.specs.declared.ticks.Tick.{Tick}

-- These lines may be answered so from nothing on, over an end of the store that counts its failures from before to after.
pub record MayBeAnswered (m : Manner) (settings : StoreSettings) (before after : ℕ) (turns : List (Turn m.Held)) : Type 0 where
  pub flushes : MayBeFrom m settings m.nothing turns
  pub causes : HaveCause before after (failed_in turns)

-- What a clock is known to have said is what stands among these turns, in its order.
abbrev pub HearsAll : {H : Type 0} → Option (List Tick) → List (Turn H) → Type 0
HearsAll ticks turns = IfSome ticks (λ all. ticks_in turns ≡ all)

-- or the first of it is
abbrev pub HearsFirst : {H : Type 0} → Option (List Tick) → List (Turn H) → Type 0
HearsFirst ticks turns = IfSome ticks (λ all. (others : List Tick) × (all ≡ ticks_in turns ++ others))

-- Where the input came to its end: the answers to all its lines and the report, and nothing else. Between the lines what the clock said
-- was done; so it is with each ending.
pub record AnswersAll (m : Manner) (settings : StoreSettings) (ticks : Option (List Tick)) (input : List ℕ) (before after : ℕ) (old new : Option (List ℕ)) : Type 0 where
  pub turns : List (Turn m.Held)
  pub all : lines_of input ≡ lines_in turns
  pub heard : HearsAll ticks turns
  pub may_be : MayBeAnswered m settings before after turns
  pub report : Data
  pub reports : m.reports (held_after m.nothing turns) report
  pub answered : Appends old new (output_of turns report)

-- Where a read failed: the answers to all lines that were read whole, with their line feeds, and nothing else.
pub record AnswersWhatWasRead (m : Manner) (settings : StoreSettings) (ticks : Option (List Tick)) (input : List ℕ) (rest : Option (List ℕ)) (before after : ℕ) (old new : Option (List ℕ)) : Type 0 where
  pub turns : List (Turn m.Held)
  pub last : List ℕ
  pub no_feeds : AllByRecursion HasNoFeed (lines_in turns)
  pub no_feed : HasNoFeed last
  pub read : Consumes (Some input) rest (flat_map with_feed (lines_in turns) ++ last)
  pub heard : HearsAll ticks turns
  pub may_be : MayBeAnswered m settings before after turns
  pub answered : Appends old new (answers_of turns)

-- Where memory ran out: the answers to the first lines of the input, each whole, and nothing else.
pub record AnswersFirstLines (m : Manner) (settings : StoreSettings) (ticks : Option (List Tick)) (input : List ℕ) (before after : ℕ) (old new : Option (List ℕ)) : Type 0 where
  pub turns : List (Turn m.Held)
  pub others : List (List ℕ)
  pub first : lines_of input ≡ lines_in turns ++ others
  pub heard : HearsFirst ticks turns
  pub may_be : MayBeAnswered m settings before after turns
  pub answered : Appends old new (answers_of turns)

-- the answers may be followed by a report, of which a front is written
pub record BeginsReport (m : Manner) (turns : List (Turn m.Held)) (old new : Option (List ℕ)) : Type 0 where
  pub report : Data
  pub reports : m.reports (held_after m.nothing turns) report
  pub front : AppendsFront old new (output_of turns report)

-- Where a write failed: a front of the answers to the first lines of the input, and nothing else. Where these are all its lines,
-- the report may have been begun too.
pub record AnswersFront (m : Manner) (settings : StoreSettings) (ticks : Option (List Tick)) (input : List ℕ) (before after : ℕ) (old new : Option (List ℕ)) : Type 0 where
  pub turns : List (Turn m.Held)
  pub others : List (List ℕ)
  pub first : lines_of input ≡ lines_in turns ++ others
  pub heard : HearsFirst ticks turns
  pub may_be : MayBeAnswered m settings before after turns
  pub front : AppendsFront old new (answers_of turns) ⊎ ((others ≡ []) × BeginsReport m turns old new)

-- What is seen of a run from without: the bytes that its reader has to give before and behind it, what its clock has said, how often the
-- store has failed by then, and what its writer holds.
pub record Seen : Type 0 where
  pub input : Option (List ℕ)
  pub rest : Option (List ℕ)
  pub ticks : Option (List Tick)
  pub before : ℕ
  pub after : ℕ
  pub old : Option (List ℕ)
  pub new : Option (List ℕ)

-- What a run that ends so has written, where it is known what there was to read. A run that has begun has no other ending.
abbrev pub HasWritten : {T : Type 0} → Manner → StoreSettings → Seen → Result T Ending → Type 0
HasWritten m settings seen (Ok done) = IfSome seen.input (λ input. AnswersAll m settings seen.ticks input seen.before seen.after seen.old seen.new)
HasWritten m settings seen (Err InputFault) =
    IfSome seen.input (λ input. AnswersWhatWasRead m settings seen.ticks input seen.rest seen.before seen.after seen.old seen.new)
HasWritten m settings seen (Err NoMemory) = IfSome seen.input (λ input. AnswersFirstLines m settings seen.ticks input seen.before seen.after seen.old seen.new)
HasWritten m settings seen (Err OutputFault) = IfSome seen.input (λ input. AnswersFront m settings seen.ticks input seen.before seen.after seen.old seen.new)
HasWritten m settings seen (Err _) = ⊥

-- A run did not begin: memory ran out, or something was refused that stands in front of it; and the writer is as it was.
abbrev pub IsUnbegun : {T W : Type 0} → W → W → Result T Ending → Type 0
IsUnbegun old new (Ok done) = ⊥
IsUnbegun old new (Err InputFault) = ⊥
IsUnbegun old new (Err OutputFault) = ⊥
IsUnbegun old new (Err _) = new ≡ old

-- What is held, or, where memory ran out in a call, at least what the service says of that.
abbrev pub IsLeft : {C H : Type 0} → (C → H → Type 0) → (C → H → Type 0) → C → H → Type 0
IsLeft holds leaves c held = holds c held ⊎ leaves c held

-- Where it ends before the input does: of the answers to the first lines of the input so much is written, and what these lines leave
-- is left.
pub record BreaksOff (m : Manner) (settings : StoreSettings) (ticks : Option (List Tick)) (is_left : m.Held → Type 0) (input : List ℕ) (before after : ℕ) (written : List ℕ → Type 0) : Type 0 where
  pub turns : List (Turn m.Held)
  pub others : List (List ℕ)
  pub first : lines_of input ≡ lines_in turns ++ others
  pub heard : HearsFirst ticks turns
  pub may_be : MayBeAnswered m settings before after turns
  pub answered : written (answers_of turns)
  pub left : is_left (held_after m.nothing turns)

-- all lines are answered, and what they leave is held
pub record AnswersLines (m : Manner) (settings : StoreSettings) (ticks : Option (List Tick)) (now_holds : m.Held → Type 0) (input : List ℕ) (before after : ℕ) (old new : Option (List ℕ)) : Type 0 where
  pub turns : List (Turn m.Held)
  pub all : lines_of input ≡ lines_in turns
  pub holds : now_holds (held_after m.nothing turns)
  pub heard : HearsAll ticks turns
  pub may_be : MayBeAnswered m settings before after turns
  pub answered : Appends old new (answers_of turns)

-- ---- for private clauses

-- a report of this is put behind the replies
pub record Reports (m : Manner) (held : m.Held) (replies with_report : List ℕ) : Type 0 where
  pub report : Data
  pub reports : m.reports held report
  pub told : with_report ≡ replies ++ line_text report

-- what a line says is obeyed, with this reply
pub record IsObeyed (m : Manner) (settings : StoreSettings) (said : Result Command LineFault) (old : m.Held) (now_holds : m.Held → Type 0) (before after : ℕ) (reply : Data) : Type 0 where
  pub failed : ℕ
  pub left : m.Held
  pub obeys : Obeys m settings old left failed reply said
  pub causes : HaveCause before after failed
  pub holds : now_holds left

-- Pushes are obeyed one after another, each with its reply; at none of them an upload or a query fails.
abbrev pub ObeysEach : (m : Manner) → StoreSettings → List PushCommand → m.Held → m.Held → List Data → Type 0
ObeysEach m settings [] old left replies = (left ≡ old) × (replies ≡ [])
ObeysEach m settings (push ∷ pushes) old left replies =
    (mid : m.Held) × (reply : Data) × (others : List Data) × m.obeys settings old mid 0 reply (Push push)
    × ObeysEach m settings pushes mid left others × (replies ≡ reply ∷ others)

-- a push is obeyed, and then those that lines at hand command, which are taken off the front of these bytes
pub record PushesLines (m : Manner) (settings : StoreSettings) (first : PushCommand) (bytes rest : List ℕ) (old : m.Held) (now_holds : m.Held → Type 0) (replies : List Data) : Type 0 where
  pub others : List PushCommand
  pub taken : TakesPushes bytes rest others
  pub left : m.Held
  pub obeys : ObeysEach m settings (first ∷ others) old left replies
  pub holds : now_holds left

-- these replies, each as a line
abbrev pub lines_text : List Data → List ℕ
lines_text [] = []
lines_text (reply ∷ replies) = line_text reply ++ lines_text replies

-- a line is answered, behind the replies that were held back
pub record Answers (m : Manner) (settings : StoreSettings) (line : List ℕ) (old : m.Held) (now_holds : m.Held → Type 0) (before after : ℕ) (replies with_answer : List ℕ) : Type 0 where
  pub answer : List ℕ
  pub failed : ℕ
  pub left : m.Held
  pub may_be : MayBe m settings (turn line answer failed left) old
  pub told : with_answer ≡ replies ++ answer
  pub causes : HaveCause before after failed
  pub holds : now_holds left

-- a line is answered, and the whole lines that so many of the bytes are which were read ahead of it
pub record AnswersAhead (m : Manner) (settings : StoreSettings) (line ahead : List ℕ) (taken : ℕ) (old : m.Held) (now_holds : m.Held → Type 0) (before after : ℕ) (replies with_answers : List ℕ) : Type 0 where
  pub turns : List (Turn m.Held)
  pub others : List (List ℕ)
  pub lines : lines_in turns ≡ line ∷ others
  pub quiet : ticks_in turns ≡ []
  pub no_feeds : AllByRecursion HasNoFeed others
  pub front : ahead ≡ flat_map with_feed others ++ drop taken ahead
  pub may_be : MayBeFrom m settings old turns
  pub told : with_answers ≡ replies ++ answers_of turns
  pub causes : HaveCause before after (failed_in turns)
  pub holds : now_holds (held_after old turns)

-- what a writer holds, and then the replies that are held back
abbrev pub with_replies : Option (List ℕ) → List ℕ → Option (List ℕ)
with_replies contents replies = append_known contents replies
