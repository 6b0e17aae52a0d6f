-- Bodies of Loki's push API, as push commands.
use Rattle.std.specs.Prelude.{◌≡◌, ◌⊎◌, ℕ, ◌+◌, ◌<◌, ◌≤◌, List, [], ◌∷◌, ◌++◌, flat_map, length, codes, decimal, Option, Some, Result, Ok, Err, ⊤}
use Rattle.std.specs.Io.KnownBytes.{Appends}
use Rattle.json.specs.Lex.{tokens}
use Rattle.json.specs.Print.{print}
use Rattle.serde_json.specs.Data.{Data, string, object, member, no_members}
use Rattle.ing_refusals.specs.Results.{◌>>=◌}
use Rattle.ing_refusals.specs.declared.refusal.Refusal.{Refusal}
use Rattle.ing_refusals.specs.declared.refusal.Refusal.TheVariants as refusals
use Rattle.ing_commands.specs.declared.fault.LineFault.{LineFault}
use Rattle.ing_commands.specs.Commands.{data_of}
use Rattle.ing_commands.specs.Faults as lines
use Rattle.ing_commands.specs.PushCommands.{RawPush, PushCommand, raw_stream, checked}
use Rattle.ing_commands.specs.Shapes.{array_at, each}
use Rattle.ctl_feed.specs.Lines.{lines_of, with_feed}
use Rattle.ctl_feed.specs.Pushes.{Says, max_line}
use Rattle.ctl_feed.specs.declared.wrap.WrapFault.{WrapFault}
use Rattle.ctl_feed.specs.declared.wrap.WrapFault.TheVariants.{Refused, TooLong}

-- the texts of a push of the streams that a body has, for this tenant at this time in nanoseconds
abbrev pub raw_wrapped : List ℕ → ℕ → Data → Result RawPush LineFault
raw_wrapped tenant now body = do
  items ← array_at (codes "streams") body
  streams ← each raw_stream items
  Ok (record { tenant = tenant; now = decimal now; streams = streams })

-- the push that a body says with a tenant and a time, or the fault of the line that is made of it
abbrev pub wrapped : List ℕ → ℕ → List ℕ → Result PushCommand LineFault
wrapped tenant now body = (data_of body >>= raw_wrapped tenant now) >>= checked

-- a line is the push of a body, and one that the session takes
abbrev pub IsWrapped : List ℕ → ℕ → List ℕ → List ℕ → Type 0
IsWrapped tenant now body line = (push : PushCommand) × (wrapped tenant now body ≡ Ok push) × Says line push × (length line ≤ max_line)

-- The line of a body is longer than the session takes. It has no space between its tokens, so there is no shorter one of its members.
abbrev pub IsTooLong : List ℕ → ℕ → List ℕ → Type 0
IsTooLong tenant now body = (line : List ℕ) × (push : PushCommand) × (wrapped tenant now body ≡ Ok push) × Says line push × (line ≡ print (tokens line)) × (max_line < length line)

-- why a body has no line; a body that is itself longer than a line may be is not looked at
abbrev pub IsRefused : List ℕ → ℕ → List ℕ → WrapFault → Type 0
IsRefused tenant now body (Refused fault) = wrapped tenant now body ≡ Err fault
IsRefused tenant now body TooLong = (max_line < length body) ⊎ IsTooLong tenant now body

-- each line is the push of its body
abbrev pub AreWrapped : List ℕ → ℕ → List (List ℕ) → List (List ℕ) → Type 0
AreWrapped tenant now [] [] = ⊤
AreWrapped tenant now [] (line ∷ lines) = ⊥
AreWrapped tenant now (body ∷ bodies) [] = ⊥
AreWrapped tenant now (body ∷ bodies) (line ∷ lines) = IsWrapped tenant now body line × AreWrapped tenant now bodies lines

-- what was written is, line for line, the pushes of these bodies
pub record Wraps (tenant : List ℕ) (now : ℕ) (bodies : List (List ℕ)) (before after : Option (List ℕ)) : Type 0 where
  pub lines : List (List ℕ)
  pub are_wrapped : AreWrapped tenant now bodies lines
  pub written : Appends before after (flat_map with_feed lines)

-- all lines of an input are bodies of which pushes were written
abbrev pub WrapsAll : List ℕ → ℕ → List ℕ → Option (List ℕ) → Option (List ℕ) → Option (List ℕ) → Type 0
WrapsAll tenant now input left before after = (left ≡ Some []) × Wraps tenant now (lines_of input) before after

-- the lines before one that is refused, the number-th, are; those after it are left
pub record WrapsUntil (tenant : List ℕ) (now : ℕ) (input : List ℕ) (left before after : Option (List ℕ)) (number : ℕ) (fault : WrapFault) : Type 0 where
  pub bodies : List (List ℕ)
  pub body : List ℕ
  pub rest : List ℕ
  pub left_is : left ≡ Some rest
  pub all : lines_of input ≡ bodies ++ body ∷ lines_of rest
  pub numbered : number ≡ length bodies + 1
  pub refused : IsRefused tenant now body fault
  pub wraps : Wraps tenant now bodies before after

-- the JSON value of the line with these streams
abbrev pub command_data : List ℕ → ℕ → Data → Data
command_data tenant now streams =
    object (member (codes "cmd") (string (codes "push")) (
    member (codes "now") (string (decimal now)) (
    member (codes "streams") streams (
    member (codes "tenant") (string tenant) no_members))))

-- what the session answers to such a line
abbrev pub refusal_of : WrapFault → Refusal
refusal_of (Refused fault) = lines.refusal_of fault
refusal_of TooLong = refusals.BadCommand

-- ---- for private clauses

-- the lines before those that are left are; the next is the number-th
pub record WrapsFront (tenant : List ℕ) (now : ℕ) (input : List ℕ) (left before after : Option (List ℕ)) (number : ℕ) : Type 0 where
  pub bodies : List (List ℕ)
  pub rest : List ℕ
  pub left_is : left ≡ Some rest
  pub all : lines_of input ≡ bodies ++ lines_of rest
  pub numbered : number ≡ length bodies + 1
  pub wraps : Wraps tenant now bodies before after
