use Rattle.ing_session.proofs.RunsLaws.{has_written}
use Rattle.ing_session.proofs.transport.serve_all.Goals as goal

pub returns-clause-written : goal.returns-clause-written
returns-clause-written g c =
    let contents = g.W.Write.contents in
    let remaining = g.R.Read.remaining in
    let failures = g.C.Service.failures in
    let said = c.serve_lines-ended.ensures in
    let after = c.serve_lines-ended.new in
    has_written g.C.Service.manner (g.C.Service.settings_of c.args.service)
    record {
      input = remaining c.args.reader.now;
      rest = remaining after.reader;
      ticks = g.P.Ticker.said after.ticker;
      before = failures c.args.end.now;
      after = failures after.end;
      old = contents c.args.writer.now;
      new = contents after.writer;
    }
    c.serve_lines-ended.result said.output said.input_fault said.no_memory said.output_fault said.ending
