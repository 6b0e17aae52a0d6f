use Rattle.std.proofs.Common.{ℕ, subst, sym}
use Rattle.std.proofs.lemmas.Result.{IfOk-weaker}
use Rattle.ing_rows.specs.Rows.{StreamKey}
use Rattle.ing_diary.specs.Notes.{IsAmiss, IsUnlike, amiss_in}
use Rattle.ing_diary.proofs.NoteLaws.{unlike_one, unlike_other}
use Rattle.ing_diary.proofs.settling.named.Goals as goal

pub returns-in-Ours : goal.returns-in-Ours
returns-in-Ours c =
    let ours = c.args.ours.now in
    let theirs = c.args.theirs.now in
    let note = c.index-ours-place.result in
    let unlike = unlike_one ours theirs c.in-Ours.place note c.index-ours-place.is (subst (λ amiss. IsAmiss ours theirs (amiss_in ours theirs amiss)) c.in-Ours.is c.requires) in
    IfOk-weaker c.mismatch_of.result _ _
    (λ mismatch told. subst (λ (key : StreamKey × ℕ). IsUnlike key.0 key.1 ours theirs) (λ i. (sym told.0 i, sym told.1 i)) unlike) c.mismatch_of.ensures

pub returns-in-Theirs : goal.returns-in-Theirs
returns-in-Theirs c =
    let ours = c.args.ours.now in
    let theirs = c.args.theirs.now in
    let note = c.index-theirs-place.result in
    let unlike = unlike_other ours theirs c.in-Theirs.place note c.index-theirs-place.is (subst (λ amiss. IsAmiss ours theirs (amiss_in ours theirs amiss)) c.in-Theirs.is c.requires) in
    IfOk-weaker c.mismatch_of-in-Theirs.result _ _
    (λ mismatch told. subst (λ (key : StreamKey × ℕ). IsUnlike key.0 key.1 ours theirs) (λ i. (sym told.0 i, sym told.1 i)) unlike) c.mismatch_of-in-Theirs.ensures
