use Rattle.std.proofs.Common.{◌≡◌, ℕ, ◌+◌, List, Ok, ap}
use Rattle.std.specs.Prelude.{IfSome}
use Rattle.ctl_feed.specs.declared.lines.NextLine.TheVariants.{Line, End}
use Rattle.ctl_feed.specs.declared.lines.NextLine.TheVariants as NextLine
use Rattle.ctl_feed.specs.declared.load_fault.LoadFault.TheVariants.{TooLong}
use Rattle.ctl_feed.specs.Lines.{TakesLine}
use Rattle.ctl_feed.specs.Loads.{max_bytes}
use Rattle.ctl_feed.specs.Readings.{read_by}
use Rattle.ctl_feed.proofs.InputLaws.{front_begins, front_ends, front_more, if_some_of, none_of, refused_here, skipped_here}
use Rattle.ctl_feed.proofs.ReadingLaws.{read_length}
use Rattle.ctl_feed.proofs.inputs.load_input.Goals as goal

pub loop-number-init : goal.loop-number-init
loop-number-init g c = λ input is. front_begins (read_by c.args.reading.now) c.args.loader.now input (g.R.Read.remaining c.args.reader.now) (g.W.Write.contents c.args.writer.now) is

pub returns-in-TooLong-clause-refused : goal.returns-in-TooLong-clause-refused
returns-in-TooLong-clause-refused g c =
    let left = g.R.Read.remaining c.loop-number.reader in
    let new = g.R.Read.remaining c.next_line.new.reader in
    let kept : List ℕ = c.next_line.new.line.items in
    let next : IfSome left (λ old. TakesLine (max_bytes + 1) old new kept NextLine.TooLong) = rw c.in-TooLong.is at c.in_ok-next_line.ensures.line in
    λ number fault same.
    let one : c.loop-number.number ≡ number = cc in
    let other : TooLong ≡ fault = cc in
    rw (← one, ← other)
    (if_some_of (g.R.Read.remaining c.args.reader.now) _ (λ input is.
    skipped_here (read_by c.args.reading.now) c.args.loader.now c.loop-number.loader input kept left new (g.W.Write.contents c.args.writer.now) (g.W.Write.contents c.loop-number.writer) c.loop-number.number (read_length c.args.reading.now) (c.loop-number.invariant input is) next))

pub returns-in-Some-clause-refused : goal.returns-in-Some-clause-refused
returns-in-Some-clause-refused g c =
    let read = read_by c.args.reading.now in
    let left = g.R.Read.remaining c.loop-number.reader in
    let new = g.R.Read.remaining c.next_line.new.reader in
    let line : List ℕ = c.next_line.new.line.items in
    let next : IfSome left (λ old. TakesLine (max_bytes + 1) old new line Line) = rw c.in-Line.is at c.in_ok-next_line.ensures.line in
    let refused = rw c.deref.ensures.value at (c.in_ok-fault-in-Line.ensures.refused c.in-Some.fault (ap Ok c.in-Some.is)) in
    λ number fault same.
    let one : c.loop-number.number ≡ number = cc in
    let other : c.in-Some.fault ≡ fault = cc in
    rw (← one, ← other)
    (if_some_of (g.R.Read.remaining c.args.reader.now) _ (λ input is.
    refused_here read c.args.loader.now c.loop-number.loader c.load_line.new.loader input line left new (g.W.Write.contents c.args.writer.now) (g.W.Write.contents c.loop-number.writer) (g.W.Write.contents c.load_line.new.writer)
    c.loop-number.number c.in-Some.fault (c.loop-number.invariant input is) next refused))

pub loop-number-preserved : goal.loop-number-preserved
loop-number-preserved g c =
    let read = read_by c.args.reading.now in
    let left = g.R.Read.remaining c.loop-number.reader in
    let new = g.R.Read.remaining c.next_line.new.reader in
    let line : List ℕ = c.next_line.new.line.items in
    let next : IfSome left (λ old. TakesLine (max_bytes + 1) old new line Line) = rw c.in-Line.is at c.in_ok-next_line.ensures.line in
    let taken = rw c.deref.ensures.value at (c.in_ok-fault-in-Line.ensures.taken (ap Ok (none_of c.in_ok-fault-in-Line.field-0 c.in_default.not-Some))) in
    λ input is. front_more read c.args.loader.now c.loop-number.loader c.load_line.new.loader input line left new (g.W.Write.contents c.args.writer.now) (g.W.Write.contents c.loop-number.writer) (g.W.Write.contents c.load_line.new.writer)
    c.loop-number.number (c.loop-number.invariant input is) next taken

pub returns-in-End-clause-all : goal.returns-in-End-clause-all
returns-in-End-clause-all g c =
    let left = g.R.Read.remaining c.loop-number.reader in
    let new = g.R.Read.remaining c.next_line.new.reader in
    let line : List ℕ = c.next_line.new.line.items in
    let next : IfSome left (λ old. TakesLine (max_bytes + 1) old new line End) = rw c.in-End.is at c.in_ok-next_line.ensures.line in
    λ same.
    if_some_of (g.R.Read.remaining c.args.reader.now) _ (λ input is.
    front_ends (read_by c.args.reading.now) c.args.loader.now c.loop-number.loader input line left new (g.W.Write.contents c.args.writer.now) (g.W.Write.contents c.loop-number.writer) c.loop-number.number (c.loop-number.invariant input is) next)
