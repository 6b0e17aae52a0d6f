use Rattle.std.proofs.Common.{◌≡◌, ℕ, List, [], ◌++◌, rules, take, sym, ap, subst, refl, ◌∙◌, append-nil, drop_of_length-le}
use Rattle.std.specs.Io.KnownBytes.{Appends}
use Rattle.std.proofs.KnownBytes.{Appends-nil, Appends-trans, Appends-kept}
use Rattle.ing_session.proofs.FrontsLaws.{split_more}
use Rattle.ing_session.proofs.transport.put.Goals.{in-Ok, in-Err}
use Rattle.ing_session.proofs.transport.put.Goals as goal

pub loop-init : goal.loop-init
loop-init g c = ([], refl, Appends-nil (g.W.Write.contents c.args.writer.now))

pub loop-preserved : goal.loop-preserved
loop-preserved g c =
    let (done, split, added) = c.loop.invariant in
    let all = c.args.bytes.now in
    let rest = c.loop.rest.now in
    elim c.match-write.branch [
      | in-Ok w ↦
          (done ++ take w.in-Ok.count rest, split_more all done rest w.in-Ok.count split ∙ ap (λ r. (done ++ take w.in-Ok.count rest) ++ r.now) (sym w.rest-is), Appends-trans _ _ _ done (take w.in-Ok.count rest) added w.in-Ok.ensures.bytes)
      | in-Err w ↦ (done, split ∙ ap (λ r. done ++ r.now) (sym w.rest-is), Appends-kept _ _ _ done added w.in-Err.ensures.bytes)
    ]

pub returns-then-is_empty-clause-whole : goal.returns-then-is_empty-clause-whole
returns-then-is_empty-clause-whole g c =
    let (done, split, added) = c.loop.invariant in
    let rest = c.loop.rest.now in
    let empty : rest ≡ [] = drop_of_length-le rest {i = 0} (search rules) in
    subst (Appends _ _) (sym (split ∙ ap (λ (l : List ℕ). done ++ l) empty ∙ append-nil done)) added
