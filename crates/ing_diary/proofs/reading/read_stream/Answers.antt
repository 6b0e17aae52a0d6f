use Rattle.std.proofs.Common.{ap, subst, ◌∙◌, filter, map}
use Rattle.std.specs.Prelude.{IfOk, IsPermutation, slice_get}
use Rattle.ing_rows.specs.Rows.{StreamKey, rows_of}
use Rattle.ing_parts.specs.Parts.{found_among, found_at}
use Rattle.ing_diary.specs.Fronts.{front_in, note_is_from}
use Rattle.ing_diary.specs.Notes.{AreReadAs, note_of_found}
use Rattle.ing_diary.proofs.ReadLaws.{if_read, if_some_is, key_listed}
use Rattle.ing_diary.proofs.reading.read_stream.Goals as goal

pub returns-clause-all : goal.returns-clause-all
returns-clause-all g c =
    let l = c.in-Some.listed in
    let listed = c.args.shard.now.listed in
    let rows = c.args.shard.now.state.rows in
    let s : StreamKey = record { tenant = l.tenant; name = l.name } in
    if_read g.S.StoreEnd.is_honest (front_in c.args.fronts.now) s (found_among l.parts.items) rows (slice_get listed c.args.number) c.read_listed.result
    (key_listed l c.in_ok-listed.field-0 (slice_get listed c.args.number) c.in-Some.is (c.in_ok-listed.ensures.key ∙ ap (slice_get listed) c.new.ensures))
    (if_some_is (λ x. IsPermutation (found_among x.parts.items) (map found_at (rows_of (record { tenant = x.tenant; name = x.name }) rows))) c.in_ok-listed.field-0 l c.in-Some.is c.in_ok-listed.ensures.rows)
    (subst (λ n. IfOk c.read_listed.result (λ noted. AreReadAs g.S.StoreEnd.is_honest (filter (note_is_from n) (map (note_of_found s) (found_among l.parts.items))) noted)) c.of-front.ensures c.read_listed.ensures.all)
