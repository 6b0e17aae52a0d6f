use Rattle.std.proofs.Common.{◌≡◌, ◌∙◌, ◌++◌, ◌∷◌, [], codes, subst, ap}
use Rattle.std.specs.Io.KnownBytes.{Appends}
use Rattle.std.proofs.lemmas.Result.{err_from_is_err_and, on_err_weaker}
use Rattle.ing_refusals.specs.Refusals.{refusal_name}
use Rattle.ing_session.specs.Endings.{ending_detail, ending_refusal}
use Rattle.ing_session.specs.Fronts.{AppendsFront}
use Rattle.ing_session.proofs.FrontsLaws.{front_behind, front_longer}
use Rattle.ing_session.proofs.concluding.write_ending.Goals as goal

-- the first part was not written whole
pub returns-in_err-put-clause-front : goal.returns-in_err-put-clause-front
returns-in_err-put-clause-front g c =
    let contents = g.E.Write.contents in
    let ending = c.args.ending.now in
    let p = err_from_is_err_and c.from_residual.result c.from_residual.ensures.1 in
    rw p.1 (front_longer (contents c.args.errors.now) (contents c.put.new.writer) (codes "ingestd: ") (refusal_name (ending_refusal ending) ++ (ending_detail ending ++ 10 ∷ [])) c.in_err-put.ensures.front)

-- the name was not
pub returns-in_err-put-2-clause-front : goal.returns-in_err-put-2-clause-front
returns-in_err-put-2-clause-front g c =
    let contents = g.E.Write.contents in
    let p = err_from_is_err_and c.from_residual-in_err-put-2.result c.from_residual-in_err-put-2.ensures.1 in
    let name = refusal_name (ending_refusal c.args.ending.now) in
    let rest = ending_detail c.args.ending.now ++ 10 ∷ [] in
    let is : c.as_bytes.result.now ≡ name = c.as_bytes.ensures.value ∙ c.name.ensures ∙ ap refusal_name c.refusal.ensures in
    let f = subst (AppendsFront (contents c.put.new.writer) (contents c.put-2.new.writer)) is c.in_err-put-2.ensures.front in
    rw p.1 (front_behind (contents c.args.errors.now) (contents c.put.new.writer) (contents c.put-2.new.writer) (codes "ingestd: ") (name ++ rest) c.in_ok-put.ensures.whole
    (front_longer (contents c.put.new.writer) (contents c.put-2.new.writer) name rest f))

-- the detail was not
pub returns-in_err-put-3-clause-front : goal.returns-in_err-put-3-clause-front
returns-in_err-put-3-clause-front g c =
    let contents = g.E.Write.contents in
    let p = err_from_is_err_and c.from_residual-in_err-put-3.result c.from_residual-in_err-put-3.ensures.1 in
    let name = refusal_name (ending_refusal c.args.ending.now) in
    let detail = ending_detail c.args.ending.now in
    let is : c.as_bytes.result.now ≡ name = c.as_bytes.ensures.value ∙ c.name.ensures ∙ ap refusal_name c.refusal.ensures in
    let told : c.as_bytes-2.result.now ≡ detail = c.as_bytes-2.ensures.value ∙ c.detail.ensures in
    let named = subst (Appends (contents c.put.new.writer) (contents c.put-2.new.writer)) is c.in_ok-put-2.ensures.whole in
    let f = subst (AppendsFront (contents c.put-2.new.writer) (contents c.put-3.new.writer)) told c.in_err-put-3.ensures.front in
    rw p.1 (front_behind (contents c.args.errors.now) (contents c.put.new.writer) (contents c.put-3.new.writer) (codes "ingestd: ") (name ++ (detail ++ 10 ∷ [])) c.in_ok-put.ensures.whole
    (front_behind (contents c.put.new.writer) (contents c.put-2.new.writer) (contents c.put-3.new.writer) name (detail ++ 10 ∷ []) named
    (front_longer (contents c.put-2.new.writer) (contents c.put-3.new.writer) detail (10 ∷ []) f)))

-- the line feed was not, or the flush failed
pub returns-clause-front : goal.returns-clause-front
returns-clause-front g c =
    let contents = g.E.Write.contents in
    let name = refusal_name (ending_refusal c.args.ending.now) in
    let detail = ending_detail c.args.ending.now in
    let is : c.as_bytes.result.now ≡ name = c.as_bytes.ensures.value ∙ c.name.ensures ∙ ap refusal_name c.refusal.ensures in
    let told : c.as_bytes-2.result.now ≡ detail = c.as_bytes-2.ensures.value ∙ c.detail.ensures in
    let named = subst (Appends (contents c.put.new.writer) (contents c.put-2.new.writer)) is c.in_ok-put-2.ensures.whole in
    let detailed = subst (Appends (contents c.put-2.new.writer) (contents c.put-3.new.writer)) told c.in_ok-put-3.ensures.whole in
    on_err_weaker c.put_out.result
    (λ f. front_behind (contents c.args.errors.now) (contents c.put.new.writer) (contents c.put_out.new.writer) (codes "ingestd: ") (name ++ (detail ++ 10 ∷ [])) c.in_ok-put.ensures.whole
    (front_behind (contents c.put.new.writer) (contents c.put-2.new.writer) (contents c.put_out.new.writer) name (detail ++ 10 ∷ []) named
    (front_behind (contents c.put-2.new.writer) (contents c.put-3.new.writer) (contents c.put_out.new.writer) detail (10 ∷ []) detailed f)))
    c.put_out.ensures.front
