use Rattle.std.proofs.Common.{◌∙◌, ◌++◌, ap, append_assoc, map, sym, take}
use Rattle.std.proofs.Math.Seq.{take-append_seam}
use Rattle.std.proofs.lemmas.List.{take_all}
use Rattle.ing_session.specs.Replies.{line_text}
use Rattle.ing_session.specs.Runs.{lines_text}
use Rattle.ing_session.specs.Views.{reply_data}
use Rattle.ing_session.proofs.WritingLaws.{lines_taken}
use Rattle.ing_session.proofs.reply.add_lines.Goals as goal

pub loop-reply-preserved : goal.loop-reply-preserved
loop-reply-preserved c =
    let replies = c.args.replies.now.items in
    let told = c.args.told.now in
    let index = c.loop-reply.reply-index in
    let reply = c.reply-item.result in
    let so_far = lines_text (map reply_data (take index told)) in
    record {
      so_far = c.in-Ok.ensures.text ∙ ap (λ l. l ++ line_text (reply_data reply)) c.loop-reply.invariant.so_far ∙ append_assoc replies so_far (line_text (reply_data reply))
          ∙ ap (λ r. replies ++ (so_far ++ line_text (reply_data r))) c.reply-item.is
          ∙ ap (λ l. replies ++ l) (sym (lines_taken reply_data told index reply c.loop-reply-test.true));
      long = c.loop-reply.invariant.long;
    }

-- what was put behind them is taken off again
pub returns-in-Err-clause-err : goal.returns-in-Err-clause-err
returns-in-Err-clause-err c =
    let replies = c.args.replies.now.items in
    let so_far = lines_text (map reply_data (take c.loop-reply.reply-index c.args.told.now)) in
    c.truncate.ensures.items ∙ ap (take c.len-before.result) (c.in-Err.ensures.err ∙ c.loop-reply.invariant.so_far)
    ∙ ap (λ n. take n (replies ++ so_far)) c.loop-reply.invariant.long ∙ take-append_seam replies so_far

pub returns-clause-text : goal.returns-clause-text
returns-clause-text c =
    c.loop-reply.invariant.so_far
    ∙ ap (λ l. c.args.replies.now.items ++ lines_text (map reply_data l)) (take_all c.loop-reply.reply-index c.args.told.now c.loop-reply-test.false)
