use Rattle.std.proofs.Common.{◌≡◌, ◌==◌, ℕ, arith, bytes_eq, inl, inr, sym, ◌∙◌, Option, Some, None, MatchOption, Bor, List, map, Contains}
use Rattle.std.specs.List.{find as first_where}
use Rattle.std.specs.Option.{option_copied}
use Rattle.std.specs.Str.Parse.{IsNumeral, digits_value, without_leading_plus}
use Rattle.std.proofs.lemmas.Bool.Decides.{nat_tests}
use Rattle.std.proofs.lemmas.Slice.Eq.{bytes_eq-Decides}
use Rattle.ing_refusals.specs.declared.refusal.Refusal.{Refusal}
use Rattle.ing_refusals.specs.Refusals.{refusal_number, refusal_name}
use Rattle.ctl_explain.specs.declared.table.Page.{Page}
use Rattle.ctl_explain.specs.Words.{Names}
use Rattle.ctl_explain.proofs.AllRefusals.{found_passes, passes_nowhere, number_is_small}
use Rattle.ctl_explain.proofs.lookup.page_for.Goals as goal

-- digits write this number
abbrev Digits : List ℕ → ℕ → Type 0
Digits word number = IsNumeral 10 (without_leading_plus word) × (digits_value 10 (without_leading_plus word) ≡ number)

-- a refusal of this name is found
not_named : (word : List ℕ) (all : List Page) (refusal : Refusal) → first_where (λ page. bytes_eq (refusal_name page.refusal) word) all ≡ None → Contains (map (λ page. page.refusal) all) refusal → word ≡ refusal_name refusal → ⊥
not_named word all refusal none there is =
    passes_nowhere (λ r. bytes_eq (refusal_name r) word) (λ page. page.refusal) all refusal none there ((bytes_eq-Decides (refusal_name refusal) word).1 (sym is))

-- a refusal of this number is found
not_numbered : (number : ℕ) (all : List Page) (refusal : Refusal) → first_where (λ page. refusal_number page.refusal == number) all ≡ None → Contains (map (λ page. page.refusal) all) refusal → refusal_number refusal ≡ number → ⊥
not_numbered number all refusal none there is =
    passes_nowhere (λ r. refusal_number r == number) (λ page. page.refusal) all refusal none there (grind (arith, nat_tests, is))

pub returns-in-Some : goal.returns-in-Some
returns-in-Some c =
    let page = c.in-Some.page.now in
    let pass = found_passes (λ p. bytes_eq (refusal_name p.refusal) c.args.word.now) c.pages-all.result.now page (sym c.in-Some.ensures) in
    inr (sym ((bytes_eq-Decides (refusal_name page.refusal) c.args.word.now).0 pass))

-- what is found by a number
of_number_found : (word : List ℕ) (number : ℕ) (all : List Page) (result : Option (Bor Page)) → Digits word number → option_copied result ≡ first_where (λ page. refusal_number page.refusal == number) all
    → ((refusal : Refusal) → Contains (map (λ page. page.refusal) all) refusal) → ((refusal : Refusal) → word ≡ refusal_name refusal → ⊥)
    → MatchOption result ((refusal : Refusal) → Names word refusal → ⊥) (λ page. Names word page.now.refusal)
of_number_found word number all None digits is there unnamed =
    λ refusal names. elim names as (λ _. ⊥) [
      | inl writes ↦ not_numbered number all refusal (sym is) (there refusal) (sym writes.value ∙ digits.1)
      | inr name ↦ unnamed refusal name
    ]
of_number_found word number all (Some page) digits is there unnamed =
    let pass = found_passes (λ p. refusal_number p.refusal == number) all page.now (sym is) in
    inl (record { digits = digits.0; value = digits.1 ∙ sym (grind (arith, nat_tests, pass)) })

pub returns-in-Ok : goal.returns-in-Ok
returns-in-Ok c =
    of_number_found c.args.word.now c.in-Ok.number c.pages-all.result.now c.of_number.result (c.in-Ok.ensures.value.0.0.0, sym c.in-Ok.ensures.value.0.1) c.of_number.ensures c.pages-all.ensures.each
    (λ refusal is. not_named c.args.word.now c.pages-all.result.now refusal (sym c.in_default.ensures) (c.pages-all.ensures.each refusal) is)

pub returns-in-Err : goal.returns-in-Err
returns-in-Err c = λ refusal names. elim names as (λ _. ⊥) [
  | inl writes ↦ c.in-Err.ensures.value.0 (writes.digits, rw writes.value (number_is_small refusal))
  | inr name ↦ not_named c.args.word.now c.pages-all.result.now refusal (sym c.in_default.ensures) (c.pages-all.ensures.each refusal) name
]
