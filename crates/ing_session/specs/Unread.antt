-- What a reader of lines has left to give, and how far it has come.
use Rattle.std.specs.Prelude.{ℕ, ◌+◌, ◌*◌, List, Bool, slice_range, Option}
use Rattle.std.specs.Io.KnownBytes.{prepend_known}
use Rattle.ing_session.specs.declared.lines.Lines.{Lines}

-- the bytes that were read and are in no line yet
abbrev pub unread : Lines → List ℕ
unread lines = slice_range lines.chunk.items lines.at lines.filled

-- how many calls of `read` were made
abbrev pub reads_made : Lines → ℕ
reads_made lines = lines.reads

-- a read has found the end of the input
abbrev pub is_ended : Lines → Bool
is_ended lines = lines.ended

-- how far it has come: it rises with each byte taken and with each read
abbrev pub progress : Lines → ℕ
progress lines = lines.reads * 65537 + lines.at

-- the unread bytes, and then the bytes that the reader has, where these are known
abbrev pub left : Lines → Option (List ℕ) → Option (List ℕ)
left lines remaining = prepend_known (unread lines) remaining
