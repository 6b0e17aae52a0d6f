use Rattle.std.proofs.Common.{◌≡◌, ◌≤◌, [], false, List, ℕ, vec_len}
use Rattle.std.specs.Io.KnownBytes.{prepend_known}
use Rattle.ing_session.specs.Parts.{max_line, HasNoFeed, Holds}
use Rattle.ing_session.specs.Unread.{unread, left, reads_made, is_ended}
use Rattle.ing_session.proofs.LinesLaws.{SoFar, Passed}
use Rattle.ing_session.proofs.lines.Lines.read_on.Given as goal

-- what was taken of the line goes on from any front that it may have had, nothing is read ahead, and reads are only counted up
abbrev pub invariant-loop-read : goal.invariant-loop-read
invariant-loop-read g l =
    let remaining = g.R.Read.remaining in
    record {
      so_far : (front : List ℕ) → HasNoFeed front → Holds l.fn.too_long l.fn.line.items front
          → SoFar (prepend_known front (remaining l.fn.reader)) (left l.self (remaining l.reader)) l.line.items l.too_long;
      passed : Passed (remaining l.fn.reader) (left l.self (remaining l.reader));
      ahead : unread l.self ≡ [];
      going : is_ended l.self ≡ false;
      short : vec_len l.line ≤ max_line;
      reads : l.read ≡ reads_made l.self;
      from : reads_made l.fn.self ≤ reads_made l.self;
    }
