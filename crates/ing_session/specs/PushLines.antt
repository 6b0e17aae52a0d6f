-- Lines at hand that command pushes.
use Rattle.std.specs.Prelude.{◌≡◌, ℕ, false, List, [], ◌∷◌, ◌++◌}
use Rattle.ing_commands.specs.Commands.{command_of, pushed}
use Rattle.ing_commands.specs.PushCommands.{PushCommand}
use Rattle.ing_session.specs.declared.push_lines.PushLines.{PushLines}
use Rattle.ing_session.specs.Manners.{is_blank, is_long}
use Rattle.ing_session.specs.Parts.{HasNoFeed}

-- the bytes that are not taken yet
abbrev pub rest_of : PushLines → List ℕ
rest_of lines = lines.rest.now

-- what a line commands is this push
pub record SaysPush (line : List ℕ) (push : PushCommand) : Type 0 where
  pub short : is_long line ≡ false
  pub filled : is_blank line ≡ false
  pub said : command_of line ≡ pushed push

-- a line is taken off the front of these bytes, with its line feed, and commands this push
pub record TakesPush (old new : List ℕ) (push : PushCommand) : Type 0 where
  pub line : List ℕ
  pub no_feed : HasNoFeed line
  pub front : old ≡ line ++ 10 ∷ new
  pub says : SaysPush line push

-- lines are taken, one after another, which command these pushes
abbrev pub TakesPushes : List ℕ → List ℕ → List PushCommand → Type 0
TakesPushes old new [] = new ≡ old
TakesPushes old new (push ∷ pushes) = (mid : List ℕ) × TakesPush old mid push × TakesPushes mid new pushes
