use Rattle.std.proofs.Common.{◌∙◌, arith}
use Rattle.std.proofs.lemmas.Result.{err_from_is_err_and}
use Rattle.std.specs.Io.KnownBytes.{prepend_known}
use Rattle.ing_session.specs.Unread.{unread, left}
use Rattle.ing_session.proofs.LinesLaws.{keeps_left, filled, goes_on, ends, is_last, passed_more, passed_kept}
use Rattle.ing_session.proofs.lines.Lines.read_on.Goals as goal

-- the read failed, and what was read before it has no line feed
pub returns-in_err-fill-clause-fault : goal.returns-in_err-fill-clause-fault
returns-in_err-fill-clause-fault g c =
    let remaining = g.R.Read.remaining in
    let before = remaining c.args.reader.now in
    let keeps = keeps_left _ (remaining c.fill.new.reader) (unread c.loop-read.self) c.loop-read.invariant.ahead c.in_err-fill.ensures.fault.1 in
    let passed = passed_kept before (left c.loop-read.self (remaining c.loop-read.reader)) (remaining c.fill.new.reader) c.loop-read.invariant.passed keeps in
    let p = err_from_is_err_and c.from_residual.result c.from_residual.ensures.1 in
    rw p.1 (λ other. (passed.bytes, passed.no_feed, passed.consumed))

-- the input is at its end
pub returns-then-branch-clause-line : goal.returns-then-branch-clause-line
returns-then-branch-clause-line g c = λ front clean holds.
    let remaining = g.R.Read.remaining in
    let old = prepend_known front (remaining c.args.reader.now) in
    let known = remaining c.fill.new.reader in
    let line = c.loop-read.line.items in
    let long = c.loop-read.too_long in
    let keeps = keeps_left _ (left c.fill.new.self known) (unread c.loop-read.self) c.loop-read.invariant.ahead c.in_ok-fill.ensures.bytes in
    let so_far = filled old _ (left c.fill.new.self known) line long (c.loop-read.invariant.so_far front clean holds) keeps in
    let at_end = c.in_ok-fill.ensures.at_end c.if-branch.true in
    let ended = c.in_ok-fill.ensures.end ∙ c.if-branch.true in
    rw (c.at_end.ensures, c.deref.ensures.value, ended) (is_last old known (unread c.fill.new.self) line long so_far at_end.0 at_end.1)

-- the line ends in what a read gave
pub returns-in-Ended-clause-line : goal.returns-in-Ended-clause-line
returns-in-Ended-clause-line g c = λ front clean holds.
    let remaining = g.R.Read.remaining in
    let old = prepend_known front (remaining c.args.reader.now) in
    let known = remaining c.fill.new.reader in
    let line = c.loop-read.line.items in
    let long = c.loop-read.too_long in
    let keeps = keeps_left _ (left c.fill.new.self known) (unread c.loop-read.self) c.loop-read.invariant.ahead c.in_ok-fill.ensures.bytes in
    let so_far = filled old _ (left c.fill.new.self known) line long (c.loop-read.invariant.so_far front clean holds) keeps in
    let going = c.in_ok-long.ensures.end ∙ c.in_ok-fill.ensures.end ∙ c.if-branch.false in
    rw (c.found.ensures, going) (ends old known (unread c.fill.new.self) (unread c.take.new.self) line c.take.new.line.items long c.in-Ended.long
    so_far (rw c.in-Ended.is at c.in_ok-long.ensures.part))

pub loop-read-preserved : goal.loop-read-preserved
loop-read-preserved g c =
    let remaining = g.R.Read.remaining in
    let known = remaining c.fill.new.reader in
    let before = left c.loop-read.self (remaining c.loop-read.reader) in
    let keeps = keeps_left _ (left c.fill.new.self known) (unread c.loop-read.self) c.loop-read.invariant.ahead c.in_ok-fill.ensures.bytes in
    let open_part = c.in_ok-long.ensures.open c.in-Open.long c.in-Open.is in
    record {
      so_far = λ front clean holds.
          let old = prepend_known front (remaining c.args.reader.now) in
          let so_far = filled old before (left c.fill.new.self known) c.loop-read.line.items c.loop-read.too_long (c.loop-read.invariant.so_far front clean holds) keeps in
          goes_on old known (unread c.fill.new.self) (unread c.take.new.self) c.loop-read.line.items c.take.new.line.items c.loop-read.too_long c.in-Open.long so_far (rw c.in-Open.is at c.in_ok-long.ensures.part);
      passed = passed_more (remaining c.args.reader.now) before known (unread c.fill.new.self) (unread c.take.new.self) c.loop-read.invariant.passed keeps open_part.0 open_part.1;
      ahead = open_part.1;
      going = c.in_ok-long.ensures.end ∙ c.in_ok-fill.ensures.end ∙ c.if-branch.false;
      short = c.in_ok-long.ensures.short;
      reads = omega (arith, c.in_ok-long.ensures.reads, c.in_ok-fill.ensures.reads);
      from = omega (arith, c.in_ok-long.ensures.reads, c.in_ok-fill.ensures.reads, c.loop-read.invariant.from, c.loop-read.invariant.reads);
    }
