use Rattle.std.proofs.Common.{◌≡◌, ◌++◌, [], ◌∷◌, length, sym, ap, subst, ◌∙◌}
use Rattle.std.specs.String.{string_bytes}
use Rattle.std.proofs.lemmas.Str.{IsUtf8-string_bytes}
use Rattle.ing_labels.specs.Pieces.{pieces_from, IsCut}
use Rattle.ing_labels.proofs.PiecesLaws.{pieces_push, cut_push}
use Rattle.ing_labels.proofs.canonical.Pieces.push.Goals as goal

-- the text and the ends
grown : (c : goal.After-push_reserved) → string_bytes c.push_str.new.self ≡ string_bytes c.self.inside.text ++ c.args.piece.now
grown c = c.in_ok-push_str.ensures.bytes

ended : (c : goal.After-push_reserved) → c.push_reserved.new.self.items ≡ c.self.inside.ends.items ++ length (string_bytes c.self.inside.text ++ c.args.piece.now) ∷ []
ended c = c.push_reserved.ensures.items ∙ ap (λ es. es ++ length c.as_str.result.now ∷ []) c.in_ok-reserve.ensures.items ∙ ap (λ n. c.self.inside.ends.items ++ n ∷ []) (ap length (c.as_str.ensures.value ∙ grown c))

pub invariant_of-self-2 : goal.invariant_of-self-2
invariant_of-self-2 c =
    subst (λ t. IsCut t 0 c.push_reserved.new.self.items) (sym (grown c)) (subst (IsCut (string_bytes c.self.inside.text ++ c.args.piece.now) 0) (sym (ended c)) (cut_push _ _ 0 c.self.inside.ends.items (IsUtf8-string_bytes c.self.inside.text) c.utf8.piece c.self.invariant))

pub returns : goal.returns
returns c =
    ap (λ t. pieces_from t 0 c.push_reserved.new.self.items) (grown c)
    ∙ ap (pieces_from (string_bytes c.self.inside.text ++ c.args.piece.now) 0) (ended c)
    ∙ pieces_push _ _ 0 c.self.inside.ends.items c.self.invariant
    ∙ ap (λ ps. ps ++ c.args.piece.now ∷ []) c.self.view_is
