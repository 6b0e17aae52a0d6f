use Rattle.std.proofs.Common.{rules, ◌≡◌, ◌+◌, suc, arith, map, sym, subst, take, List}
use Rattle.std.specs.List.{flat_map}
use Rattle.ing_rows.specs.Rows.{rows_of}
use Rattle.ing_diary.specs.Fronts.{front_in, rows_since}
use Rattle.ing_diary.specs.Notes.{AreReadAs, Note, note_of}
use Rattle.ing_diary.proofs.FrontLaws.{whole_taken}
use Rattle.ing_diary.proofs.ReadLaws.{all_since, streams_next}
use Rattle.ing_diary.proofs.reading.read_since.Goals as goal

pub loop-number-preserved : goal.loop-number-preserved
loop-number-preserved g c =
    let at = c.loop-number.invariant in
    let honest = g.S.StoreEnd.is_honest in
    let rows = rows_since (front_in c.args.fronts.now) c.args.shard.now.state.rows in
    let listed = c.args.shard.now.listed in
    let place = c.loop-number.number in
    let all = c.loop-number.all.items in
    let noted = c.in_ok-read_stream.field-0 in
    let next : suc place ≡ place + 1 = omega arith in
    record {
      all =
          subst (λ n. AreReadAs honest (map note_of (flat_map (λ s. rows_of s rows) (take n listed))) (flat_map (λ (noted : List Note). noted) c.push.new.self.items)) next
          (subst (λ (ls : List (List Note)). AreReadAs honest (map note_of (flat_map (λ s. rows_of s rows) (take (suc place) listed))) (flat_map (λ (noted : List Note). noted) ls)) (sym c.in_ok-push.ensures.items)
          (streams_next honest rows listed place all noted c.in_ok-read_stream.ensures.all at.all));
      count = search rules;
      sure = search rules;
    }

pub returns-clause-all : goal.returns-clause-all
returns-clause-all g c =
    let honest = g.S.StoreEnd.is_honest in
    let had = front_in c.args.fronts.now in
    let rows = c.args.shard.now.state.rows in
    let listed = c.args.shard.now.listed in
    let all = flat_map (λ (noted : List Note). noted) c.loop-number.all.items in
    let taken = whole_taken listed c.loop-number.number _ c.stream_count-number-end.ensures (λ below. omega (arith, below, c.loop-number-test.false)) in
    subst (λ rs. AreReadAs honest (map note_of rs) all) (all_since had rows listed c.rows_are_listed.ensures)
    (subst (λ ls. AreReadAs honest (map note_of (flat_map (λ s. rows_of s (rows_since had rows)) ls)) all) taken c.loop-number.invariant.all)
