use Rattle.std.proofs.Common.{◌∙◌, ◌<◌, ◌≤◌, ◌≡◌, ℕ, Err, ap, arith, length, map, inl, inr, sym}
use Rattle.std.proofs.lemmas.List.{length-map}
use Rattle.std.proofs.lemmas.Result.{IfErr-weaker, err_from_is_err_and}
use Rattle.std.specs.String.{string_bytes}
use Rattle.ing_lanes.proofs.KnownLaws.{if_some_then}
use Rattle.ing_lanes.specs.Endings.{refusal_of}
use Rattle.ing_lanes.specs.Runs.{HasWritten, Seen}
use Rattle.ing_limits.specs.Settings.{StoreSettings}
use Rattle.ing_service.specs.Clocks.{heard_by}
use Rattle.ing_program.specs.Starting.{started_by}
use Rattle.ing_program.proofs.StartingLaws.{give_memory, give_over, of_words}
use Rattle.ing_program.proofs.program.start.Goals as goal

pub returns-clause-written : goal.returns-clause-written
returns-clause-written g c =
    let words = map string_bytes c.args.words.now in
    let ended = c.start_over.new in
    let some : 1 < length c.args.words.now = omega (arith, c.if-words-lt2.false) in
    let size : 1 < length words = omega (arith, length-map c.args.words.now string_bytes, some) in
    let seen : StoreSettings → ℕ → Seen = λ x failed. record {
      input = g.R.Read.remaining c.args.reader.now;
      rest = g.R.Read.remaining ended.reader;
      ticks = heard_by x (g.P.Ticker.said ended.ticker);
      before = 0;
      after = failed;
      old = g.W.Write.contents c.args.writer.now;
      new = g.W.Write.contents ended.writer;
    } in
    elim c.start_over.ensures.written [
      | inl same ↦ inl same
      | inr run ↦
          inr (give_over g.E.StoreEnd.is_honest words c.in_ok-file.file.items c.deref-2.result.now c.in_ok-file.ensures.file c.deref-2.ensures.value (λ m x failed. HasWritten m x (seen x failed) c.start_over.result) size run)
    ]

pub returns-then-words-lt2-clause-written : goal.returns-then-words-lt2-clause-written
returns-then-words-lt2-clause-written g c =
    let words = map string_bytes c.args.words.now in
    let ended = c.start_on.new in
    let few : length c.args.words.now ≤ 1 = omega (arith, c.if-words-lt2.true) in
    let size : length words ≤ 1 = omega (arith, length-map c.args.words.now string_bytes, few) in
    let seen : StoreSettings → ℕ → Seen = λ x failed. record {
      input = g.R.Read.remaining c.args.reader.now;
      rest = g.R.Read.remaining ended.reader;
      ticks = heard_by x (g.P.Ticker.said ended.ticker);
      before = 0;
      after = failed;
      old = g.W.Write.contents c.args.writer.now;
      new = g.W.Write.contents ended.writer;
    } in
    elim c.start_on.ensures.written [
      | inl same ↦ inl same
      | inr run ↦
          inr (give_memory g.E.StoreEnd.is_honest words c.in_ok-file.file.items c.deref.result.now c.in_ok-file.ensures.file c.deref.ensures.value (λ m x failed. HasWritten m x (seen x failed) c.start_on.result) size run)
    ]

pub returns-in_err-file-clause-written : goal.returns-in_err-file-clause-written
returns-in_err-file-clause-written g c =
    let p = err_from_is_err_and c.from_residual.result c.from_residual.ensures.1 in
    inl (of_words c.args.writer.now _ p.0 _ p.1 p.2 c.in_err-file.ensures.ending)

pub returns-clause-refused : goal.returns-clause-refused
returns-clause-refused g c =
    IfErr-weaker c.start_over.result _ _
    (λ e. if_some_then (λ refusal. started_by c.deref-2.result.now ≡ Err refusal) _ (refusal_of e)
    (λ refusal is. (c.in_ok-file.file.items, c.in_ok-file.ensures.file, ap started_by (sym c.deref-2.ensures.value) ∙ is)))
    c.start_over.ensures.refused

pub returns-then-words-lt2-clause-refused : goal.returns-then-words-lt2-clause-refused
returns-then-words-lt2-clause-refused g c =
    IfErr-weaker c.start_on.result _ _
    (λ e. if_some_then (λ refusal. started_by c.deref.result.now ≡ Err refusal) _ (refusal_of e)
    (λ refusal is. (c.in_ok-file.file.items, c.in_ok-file.ensures.file, ap started_by (sym c.deref.ensures.value) ∙ is)))
    c.start_on.ensures.refused
