use Rattle.std.proofs.Common.{◌≡◌, ◌++◌, ◌∷◌, [], cond, length, All, ◌<◌, arith, sym, ap, subst, ◌∙◌}
use Rattle.std.specs.List.Sorted.{IsStrictlyIncreasing}
use Rattle.std.proofs.lemmas.List.Elements.{All-push}
use Rattle.ing_labels.specs.Labels.{IsLabelSet}
use Rattle.ing_postings.specs.declared.postings.Listed.{Listed}
use Rattle.ing_postings.specs.Streams.{numbers_of, places_of, has_label}
use Rattle.ing_postings.proofs.Numbers.{rising-push}
use Rattle.ing_postings.proofs.Places.{places-push}
use Rattle.ing_postings.proofs.postings.Postings.add.Goals as goal

pub invariant_of-self-2 : goal.invariant_of-self-2
invariant_of-self-2 c =
    let xs = c.self.inside.streams.items in
    let s : Listed = record { number = c.args.number; labels = c.in_ok-clone.field-0 } in
    let items : c.push_reserved.new.self.items ≡ xs ++ s ∷ [] = c.push_reserved.ensures.items ∙ ap (λ ys. ys ++ s ∷ []) c.in_ok-reserve.ensures.items in
    let above = subst (λ ys. All (λ t. t.number < c.args.number) ys) (sym c.self.view_is) c.requires in
    record {
      rising = subst (λ ys. IsStrictlyIncreasing (numbers_of ys)) (sym items) (rising-push xs s c.self.invariant.rising above);
      labels = subst (All (λ t. IsLabelSet t.labels)) (sym items) (All-push (λ t. IsLabelSet t.labels) xs s c.self.invariant.labels (subst IsLabelSet (sym c.in_ok-clone.ensures.cases) c.in_ok-make_rooms.ensures.label_set));
      index = λ name value.
          let place : c.len.result ≡ length xs = omega arith in
          c.post.ensures name value
          ∙ ap (λ ps. ps ++ cond (has_label name value c.args.labels.now) (c.len.result ∷ []) []) (c.in_ok-make_rooms.ensures.same name value ∙ c.self.invariant.index name value)
          ∙ ap (λ m. places_of name value xs ++ cond (has_label name value m) (c.len.result ∷ []) []) (sym c.in_ok-clone.ensures.cases)
          ∙ ap (λ at. places_of name value xs ++ cond (has_label name value s.labels) (at ∷ []) []) place
          ∙ sym (places-push name value xs s)
          ∙ ap (places_of name value) (sym items);
    }
