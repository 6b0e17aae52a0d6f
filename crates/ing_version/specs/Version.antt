-- What a program says of its version (own).
use Rattle.std.specs.Prelude.{ℕ, List, ◌++◌, codes}
use Rattle.ing_version.specs.declared.TheConstants.{VERSION}

-- the program's name and the version, as a line
abbrev pub line_of : List ℕ → List ℕ
line_of name = name ++ codes " " ++ VERSION.now ++ codes "\n"
