use Rattle.std.proofs.Common.{◌≡◌, ℕ, ◌<◌, ◌-◌, length, All, List, Option, Some, None, IfSome, rules, refl, sym, subst}
use Rattle.std.specs.List.{slice_get}
use Rattle.std.specs.List.Sorted.{IsStrictlyIncreasing}
use Rattle.std.specs.Option.{option_map}
use Rattle.ing_postings.specs.declared.postings.Listed.{Listed}
use Rattle.ing_postings.specs.Streams.{numbers_of}
use Rattle.ing_postings.proofs.Numbers.{above_last}
use Rattle.ing_postings.proofs.postings.Postings.last.Goals as goal

above : (xs : List Listed) (r : Option ℕ) (o : Option Listed) → r ≡ option_map (λ s. s.number) o → o ≡ slice_get xs (length xs - 1) → IsStrictlyIncreasing (numbers_of xs) → IfSome r (λ last. (number : ℕ) → last < number → All (λ s. s.number < number) xs)
above xs r None is last rising = subst (λ r. IfSome r (λ last. (number : ℕ) → last < number → All (λ s. s.number < number) xs)) (sym is) tt
above xs r (Some s) is last rising = subst (λ r. IfSome r (λ last. (number : ℕ) → last < number → All (λ s. s.number < number) xs)) (sym is) (λ number h. above_last xs s number rising (sym last) h)

pub returns-clause-above : goal.returns-clause-above
returns-clause-above c =
    let value : c.map.result ≡ option_map (λ s. s.number) (slice_get c.args.self.now (length c.args.self.now - 1)) = search rules in
    above c.args.self.now c.map.result (slice_get c.args.self.now (length c.args.self.now - 1)) value refl (subst (λ ys. IsStrictlyIncreasing (numbers_of ys)) c.self.view_is c.self.invariant.rising)
