use Rattle.std.proofs.Common.{◌≡◌, ◌++◌, ◌∷◌, [], ap, ◌∙◌}
use Rattle.json.specs.Print.{print}
use Rattle.serde_json.specs.Written.{compact_text}
use Rattle.serde_json.proofs.Texts.{print-outline}
use Rattle.ing_session.specs.Views.{reply_data}
use Rattle.ing_session.specs.Written.{data_tokens}
use Rattle.ing_session.proofs.reply.add_line.Goals as goal

pub returns-clause-text : goal.returns-clause-text
returns-clause-text c =
    let d = reply_data c.args.reply.now in
    let out = c.write_reply.new.out in
    let tokens : out.tokens ≡ data_tokens d = c.in_ok-write_reply.ensures.tokens ∙ ap (λ ts. ts ++ data_tokens d) c.new-out.ensures.tokens in
    let before : out.before ≡ [] = c.in_ok-write_reply.ensures.before ∙ c.new-out.ensures.before ∙ c.in_ok-with_capacity.ensures.items in
    let text : c.into_inner-line.result.items ≡ compact_text d =
    c.into_inner-line.ensures.items ∙ ap (λ b. b ++ print out.tokens) before ∙ ap print tokens ∙ print-outline d in
    c.in_ok-extend_from_slice.ensures.items ∙ ap (λ l. c.args.replies.now.items ++ l) (c.deref.ensures.value ∙ c.in_ok-push.ensures.items ∙ ap (λ s. s ++ 10 ∷ []) text)
