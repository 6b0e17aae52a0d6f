use Rattle.std.proofs.Common.{OnOk, false, rules, ◌≡◌, ◌≢◌, ◌++◌, arith, sym, ap, ◌∙◌, append_assoc}
use Rattle.std.specs.List.{list_any}
use Rattle.std.proofs.lemmas.Result.{IfOk-equal}
use Rattle.std.specs.String.{string_bytes}
use Rattle.std.specs.Str.Iter.{chars_rest}
use lib.Utf8.{encode}
use Rattle.ing_labels.specs.Canonical.{is_escaped, written_value}
use Rattle.ing_labels.proofs.Spelling.{written_char, written-plain}
use Rattle.ing_labels.proofs.canonical.push_value.Goals as goal

pub returns-then-not-has_escapes : goal.returns-then-not-has_escapes
returns-then-not-has_escapes c =
    let none : list_any is_escaped c.args.value.now ≡ false = sym c.has_escapes.ensures ∙ c.if-not-has_escapes.true in
    let pushed : OnOk c.push_str.result (string_bytes c.push_str.new.self ≡ string_bytes c.args.text.now ++ c.args.value.now) = search rules in
    IfOk-equal _ _ _ _ pushed (ap (λ s. string_bytes c.args.text.now ++ s) (sym (written-plain c.args.value.now none)))

pub loop-c-preserved : goal.loop-c-preserved
loop-c-preserved c =
    let before = string_bytes c.loop-c.text in
    let rest = chars_rest c.next.new.self in
    let not_backslash : c.in-Some.c ≢ 92 = omega arith in
    let not_quote : c.in-Some.c ≢ 34 = omega arith in
    let not_line_feed : c.in-Some.c ≢ 10 = omega arith in
    let pushed : string_bytes c.push.new.self ≡ before ++ encode c.in-Some.c = c.in_ok-push-in_default.ensures.bytes in
    let item : chars_rest c.loop-c.c-iterator ≡ encode c.in-Some.c ++ rest = c.in-Some.ensures.steps.0 in
    ap (λ s. s ++ written_value rest) pushed
    ∙ append_assoc before (encode c.in-Some.c) (written_value rest)
    ∙ ap (λ s. before ++ s) (sym (ap written_value item ∙ written_char c.in-Some.c rest not_backslash not_quote not_line_feed))
    ∙ c.loop-c.invariant
