use Rattle.std.proofs.Common.{◌≡◌, Err}
use Rattle.std.proofs.lemmas.Result.{IfErr-weaker, on_ok_weaker}
use Rattle.ing_lanes.proofs.KnownLaws.{if_some_then}
use Rattle.ing_lanes.specs.Endings.{refusal_of}
use Rattle.ing_program.specs.Starting.{started_by}
use Rattle.ing_program.proofs.ChannelsLaws.{behind_two}
use Rattle.ing_program.proofs.channels.start_channels.Goals as goal

pub returns-clause-output : goal.returns-clause-output
returns-clause-output g c =
    on_ok_weaker c.serve_paths.result
    (λ said. (c.deref.result.now, said.0, said.1, _, behind_two c.args.words.now c.in-len2-up.len_at_least, said.2))
    c.serve_paths.ensures.output

pub returns-clause-refused : goal.returns-clause-refused
returns-clause-refused g c =
    IfErr-weaker c.serve_paths.result _ _
    (λ e. if_some_then (λ refusal. started_by c.deref.result.now ≡ Err refusal) _ (refusal_of e) (λ refusal is. (c.deref.result.now, is)))
    c.serve_paths.ensures.refused
