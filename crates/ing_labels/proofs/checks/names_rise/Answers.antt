use Rattle.std.proofs.Common.{◌≡◌, ◌-◌, ◌+◌, ◌<◌, ◌≤◌, ℕ, List, [], length, get_or, not, Bool, drop, sym, ap, ◌∙◌, ◌&&◌, arith, length-drop}
use Rattle.std.proofs.lemmas.List.{length-map, get_or-map}
use Rattle.std.specs.Ordering.{is_lt, is_ge}
use Rattle.std.specs.FinMap.Entries.{is_sorted}
use Rattle.ing_labels.specs.Labels.{Pair, name_order, texts}
use Rattle.ing_labels.proofs.Joined.{Ref}
use Rattle.ing_labels.proofs.Rising.{sorted_at, sorted_end, lt_or_ge}
use Rattle.ing_labels.proofs.checks.names_rise.Goals as goal

-- the two names that are compared
compared : (refs : List Ref) (at : ℕ) (d : Ref) (ge : Bool) → 1 ≤ at → at < length refs → ge ≡ is_ge (name_order (get_or refs (at - 1) d).0.now (get_or refs at d).0.now) → is_sorted name_order (drop (at - 1) (texts refs)) ≡ (not ge && is_sorted name_order (drop (at + 1 - 1) (texts refs)))
compared refs at d ge some within is =
    let as_long : length (texts refs) ≡ length refs = length-map refs _ in
    let before = get_or-map {Y = Pair} (λ r. (r.0.now, r.1.now)) refs (at - 1) d ([], []) (omega arith) in
    let here = get_or-map {Y = Pair} (λ r. (r.0.now, r.1.now)) refs at d ([], []) within in
    sorted_at (texts refs) at ([], []) some (omega arith)
    ∙ ap (λ p. is_lt (name_order p.0 (get_or (texts refs) at ([], [])).0) && is_sorted name_order (drop (at + 1 - 1) (texts refs))) before
    ∙ ap (λ p. is_lt (name_order (get_or refs (at - 1) d).0.now p.0) && is_sorted name_order (drop (at + 1 - 1) (texts refs))) here
    ∙ ap (λ b. b && is_sorted name_order (drop (at + 1 - 1) (texts refs))) (lt_or_ge _ ∙ ap not (sym is))

pub returns-then-ge : goal.returns-then-ge
returns-then-ge c =
    let rest = is_sorted name_order (drop (c.loop-at.at + 1 - 1) (texts c.args.pairs.now)) in
    sym (compared c.args.pairs.now c.loop-at.at _ _ c.loop-at.auto.at c.loop-at-test.true c.ge.ensures ∙ ap (λ b. not b && rest) c.if-ge.true) ∙ c.loop-at.invariant

pub loop-at-preserved : goal.loop-at-preserved
loop-at-preserved c =
    let rest = is_sorted name_order (drop (c.loop-at.at + 1 - 1) (texts c.args.pairs.now)) in
    sym (compared c.args.pairs.now c.loop-at.at _ _ c.loop-at.auto.at c.loop-at-test.true c.ge.ensures ∙ ap (λ b. not b && rest) c.if-ge.false) ∙ c.loop-at.invariant

pub returns : goal.returns
returns c =
    let as_long : length (texts c.args.pairs.now) ≡ length c.args.pairs.now = length-map c.args.pairs.now _ in
    sym (sorted_end (drop (c.loop-at.at - 1) (texts c.args.pairs.now)) (simp length-drop (omega arith))) ∙ c.loop-at.invariant
