-- What is written for an input, from the bytes read to the bytes written, whatever it is that obeys the commands.
use Rattle.std.specs.Prelude.{◌≡◌, ℕ, List, [], ◌∷◌, ◌++◌, length, sum_by, Bool, ◌||◌, ◌==◌, nat_lt, if◌then◌else◌, Option, None, Some, Result, Ok, Err, ⊤, MatchOption}
use Rattle.std.specs.List.{list_all}
use Rattle.serde_json.specs.Data.{Data}
use Rattle.ing_limits.specs.Settings.{StoreSettings}
use Rattle.ing_commands.specs.declared.fault.LineFault.{LineFault}
use Rattle.ing_commands.specs.declared.fault.LineFault.TheVariants.{BadCommand}
use Rattle.ing_commands.specs.Faults.{refusal_of}
use Rattle.ing_commands.specs.Commands.{Command, command_of}
use Rattle.ing_session.specs.Parts.{max_line}
use Rattle.ing_session.specs.Replies.{fault_data, line_text}
use Rattle.ing_session.specs.Ticks.{command_of_tick}
use Rattle.ing_session.specs.declared.ticks.Tick.{Tick}

-- A manner of obeying: what is held between one line and the next, and before the first; what a command may do, by the settings,
-- from what was held to what is held then, with so many failed uploads and queries, and with this reply; and what may be
-- reported at the end.
pub record Manner : Type 1 where
  pub Held : Type 0
  pub nothing : Held
  pub obeys : StoreSettings → Held → Held → ℕ → Data → Command → Type 0
  pub reports : Held → Data → Type 0

-- ---- one line

abbrev pub line_fault : LineFault → Data
line_fault fault = fault_data (refusal_of fault) None

-- a line that is refused changes nothing
pub record RefusesLine {H : Type 0} (fault : LineFault) (old new : H) (failed : ℕ) (reply : Data) : Type 0 where
  pub told : reply ≡ line_fault fault
  pub left : new ≡ old
  pub failures : failed ≡ 0

-- From old, what a line says may be obeyed, with this reply and so many failed uploads and queries, and leave new.
abbrev pub Obeys : (m : Manner) → StoreSettings → m.Held → m.Held → ℕ → Data → Result Command LineFault → Type 0
Obeys m settings old new failed reply (Err fault) = RefusesLine fault old new failed reply
Obeys m settings old new failed reply (Ok command) = m.obeys settings old new failed reply command

-- spaces, tabs and carriage returns alone
abbrev pub is_blank : List ℕ → Bool
is_blank line = list_all (λ byte. byte == 32 || byte == 9 || byte == 13) line

abbrev pub is_long : List ℕ → Bool
is_long line = nat_lt max_line (length line)

-- what a line says: one that is too long is refused unread, and a blank one says nothing
abbrev pub said_in : List ℕ → Option (Result Command LineFault)
said_in line =
    if is_long line then Some (Err BadCommand)
    else if is_blank line then None
    else Some (command_of line)

-- Who says what is done next: a line of the input, or a clock.
pub data Saying : Type 0 where
  Line : List ℕ → Saying
  Ticks : Tick → Saying

-- What is said next: what is written for it, how many uploads and queries failed at it, and what is held then.
pub record Turn (H : Type 0) : Type 0 where
  pub said : Saying
  pub answer : List ℕ
  pub failed : ℕ
  pub left : H

-- of a line
abbrev pub turn : {H : Type 0} → List ℕ → List ℕ → ℕ → H → Turn H
turn line answer failed left = record { said = Line line; answer = answer; failed = failed; left = left }

-- what it says is obeyed, and its reply is written
pub record IsAnswered (m : Manner) (settings : StoreSettings) (said : Result Command LineFault) (t : Turn m.Held) (old : m.Held) : Type 0 where
  pub reply : Data
  pub obeys : Obeys m settings old t.left t.failed reply said
  pub written : t.answer ≡ line_text reply

-- nothing is written, and nothing changes
pub record IsSkipped {H : Type 0} (t : Turn H) (old : H) : Type 0 where
  pub written : t.answer ≡ []
  pub left : t.left ≡ old
  pub failures : t.failed ≡ 0

-- what a clock says is obeyed, and nobody is told
pub record IsUntold (m : Manner) (settings : StoreSettings) (tick : Tick) (t : Turn m.Held) (old : m.Held) : Type 0 where
  pub reply : Data
  pub obeys : m.obeys settings old t.left t.failed reply (command_of_tick tick)
  pub silent : t.answer ≡ []

-- from this on, what is said may be answered so
abbrev pub MayBeSaid : (m : Manner) → StoreSettings → Turn m.Held → m.Held → Saying → Type 0
MayBeSaid m settings t held (Line line) = MatchOption (said_in line) (IsSkipped t held) (λ said. IsAnswered m settings said t held)
MayBeSaid m settings t held (Ticks tick) = IsUntold m settings tick t held

abbrev pub MayBe : (m : Manner) → StoreSettings → Turn m.Held → m.Held → Type 0
MayBe m settings t held = MayBeSaid m settings t held t.said

-- ---- the whole input

-- what is written, one turn after another
abbrev pub answers_of : {H : Type 0} → List (Turn H) → List ℕ
answers_of [] = []
answers_of (t ∷ turns) = t.answer ++ answers_of turns

-- what is held after them, from what was held before
abbrev pub held_after : {H : Type 0} → H → List (Turn H) → H
held_after held [] = held
held_after held (t ∷ turns) = held_after t.left turns

-- from this on, they may be answered so
abbrev pub MayBeFrom : (m : Manner) → StoreSettings → m.Held → List (Turn m.Held) → Type 0
MayBeFrom m settings held [] = ⊤
MayBeFrom m settings held (t ∷ turns) = MayBe m settings t held × MayBeFrom m settings t.left turns

-- the line that is said, where it is one
abbrev pub line_in : Saying → List (List ℕ)
line_in (Line line) = line ∷ []
line_in (Ticks tick) = []

-- the lines among what is said, in their order
abbrev pub lines_in : {H : Type 0} → List (Turn H) → List (List ℕ)
lines_in [] = []
lines_in (t ∷ turns) = line_in t.said ++ lines_in turns

-- what the clock says, where it is that
abbrev pub tick_in : Saying → List Tick
tick_in (Line line) = []
tick_in (Ticks tick) = tick ∷ []

-- what the clock says among it, in its order
abbrev pub ticks_in : {H : Type 0} → List (Turn H) → List Tick
ticks_in [] = []
ticks_in (t ∷ turns) = tick_in t.said ++ ticks_in turns

-- how many uploads and queries failed in all
abbrev pub failed_in : {H : Type 0} → List (Turn H) → ℕ
failed_in turns = sum_by (λ t. t.failed) turns

-- an answer for each line, and the report
abbrev pub output_of : {H : Type 0} → List (Turn H) → Data → List ℕ
output_of turns report = answers_of turns ++ line_text report
