-- Entries that are accepted in turn go on from the facts of their stream, and keep a state sound.
use Rattle.std.proofs.Common.{◌≡◌, ◌+◌, ℕ, List, [], ◌∷◌, refl, sym, ap, subst, ◌∙◌}
use Rattle.ing_rows.specs.declared.entry.Entry.{Entry}
use Rattle.ing_rows.specs.declared.rules.Rules.{Rules}
use Rattle.ing_rows.specs.Rows.{StreamKey, State, IsSame, count_of}
use Rattle.ing_rows.specs.Facts.{facts_of}
use Rattle.ing_rows.specs.Steps.{accepted, accepted_in_turn}
use Rattle.ing_rows.specs.Turns.{facts_with_all}
use Rattle.ing_rows.specs.Sound.{IsSound}
use Rattle.ing_rows.proofs.FactLaws.{facts_accepted, count_accepted}
use Rattle.ing_rows.proofs.SameLaws.{accepted_same}
use Rattle.ing_rows.proofs.SoundLaws.{accepted_sound}

module _ (rules : Rules) (s : StreamKey) (now : ℕ) where
  -- the next number is the count after the entry in front
  pub next_is : (e : Entry) (es : List Entry) (old : State)
      → let after = accepted rules s e now old in
      accepted_in_turn (count_of after.rows s) rules s now es after ≡ accepted_in_turn (count_of old.rows s + 1) rules s now es after
  next_is e es old = ap (λ n. accepted_in_turn n rules s now es (accepted rules s e now old)) (count_accepted rules s now e old)

  pub facts_in_turn : (es : List Entry) (old : State) → IsSound old
      → facts_of (accepted_in_turn (count_of old.rows s) rules s now es old).rows s ≡ facts_with_all (facts_of old.rows s) es
  facts_in_turn [] old sound = refl
  facts_in_turn (e ∷ es) old sound =
      ap (λ st. facts_of st.rows s) (sym (next_is e es old))
      ∙ facts_in_turn es (accepted rules s e now old) (accepted_sound rules s now e old sound)
      ∙ ap (λ f. facts_with_all f es) (facts_accepted rules s now e old sound)

  pub sound_in_turn : (es : List Entry) (old : State) → IsSound old → IsSound (accepted_in_turn (count_of old.rows s) rules s now es old)
  sound_in_turn [] old sound = sound
  sound_in_turn (e ∷ es) old sound =
      subst IsSound (next_is e es old) (sound_in_turn es (accepted rules s e now old) (accepted_sound rules s now e old sound))

  pub same_in_turn : (es : List Entry) (a b : State) → IsSound a → IsSame a b
      → IsSame (accepted_in_turn (count_of a.rows s) rules s now es a) (accepted_in_turn (count_of b.rows s) rules s now es b)
  same_in_turn [] a b sound same = same
  same_in_turn (e ∷ es) a b sound same =
      let far = accepted_in_turn (count_of b.rows s + 1) rules s now es (accepted rules s e now b) in
      subst (λ st. IsSame st far) (next_is e es a)
      (subst (IsSame (accepted_in_turn (count_of (accepted rules s e now a).rows s) rules s now es (accepted rules s e now a))) (next_is e es b)
      (same_in_turn es (accepted rules s e now a) (accepted rules s e now b) (accepted_sound rules s now e a sound) (accepted_same rules s now e a b sound same)))
