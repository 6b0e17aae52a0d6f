-- What a line of input says, as the session of `ingestd` takes it (own).
use Rattle.std.specs.Prelude.{ℕ, List, length, Bool, ◌||◌, ◌==◌, nat_lt, if◌then◌else◌, Option, Some, None, Result, Err}
use Rattle.std.specs.List.{list_all}
use Rattle.ing_commands.specs.declared.fault.LineFault.{LineFault}
use Rattle.ing_commands.specs.declared.fault.LineFault.TheVariants.{BadCommand}
use Rattle.ing_commands.specs.Commands.{Command, command_of}

-- spaces, tabs and carriage returns alone
abbrev pub is_blank : List ℕ → Bool
is_blank line = list_all (λ byte. byte == 32 || byte == 9 || byte == 13) line

-- more than 16777216 bytes, its line feed not counted
abbrev pub is_long : List ℕ → Bool
is_long line = nat_lt 16777216 (length line)

-- what a line says: one that is too long is refused unread, and a blank one says nothing
abbrev pub said_in : List ℕ → Option (Result Command LineFault)
said_in line =
    if is_long line then Some (Err BadCommand)
    else if is_blank line then None
    else Some (command_of line)
