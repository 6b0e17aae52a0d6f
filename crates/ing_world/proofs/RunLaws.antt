-- Turns one after another, and the run of the model that they are.
use Rattle.std.proofs.Common.{◌≡◌, ℕ, ◌+◌, ◌<◌, List, [], ◌∷◌, ◌++◌, append-nil, get_or, length, take, refl, ap, sym, ◌∙◌, subst, Some, None}
use Rattle.std.proofs.lemmas.List.{append_assoc, take_more}
use Rattle.std.proofs.lemmas.List.Sorted.{IsPermutation-refl}
use Rattle.ing_limits.specs.Ranges.{rules_for}
use Rattle.ing_limits.specs.Settings.{StoreSettings}
use Rattle.ing_rows.specs.declared.rules.Rules.{Rules}
use Rattle.ing_rows.specs.Events as events
use Rattle.ing_rows.specs.Events.{Event, Run, accepted_of}
use Rattle.ing_rows.specs.Kept.{Numbered}
use Rattle.ing_rows.specs.Rows.{State, IsSame}
use Rattle.ing_world.specs.declared.event.WorldEvent.{WorldEvent}
use Rattle.ing_world.specs.declared.reply.Reply.{Reply}
use Rattle.ing_world.specs.declared.world.World.{World}
use Rattle.ing_world.specs.Held.{HasRun, HasTurned, IsKept, seen}
use Rattle.ing_world.specs.Turns.{ModelStep, StandsInFull, Takes, Tells, Turn, Turns, accepted_with}
use Rattle.ing_world.specs.Worlds.{WorldState, empty_world}

same_state : (a : State) → IsSame a a
same_state a = record { rows = IsPermutation-refl a.rows; marks = IsPermutation-refl a.marks }

pub stands_in_full : {R : Type 0} (w : World R) (accepted : List Numbered) → IsKept w accepted → StandsInFull (seen w accepted)
stands_in_full w accepted kept = record { once = kept.sound.once; kept = kept.kept }

module _ (rules : List ℕ → Rules) where
  -- one turn more
  pub one_more : (old mid new : WorldState) (es : List WorldEvent) (rs : List Reply) (e : WorldEvent) (r : Reply) → Turns rules old es rs mid → Turn rules (Tells e) r mid new → StandsInFull new
      → Turns rules old (es ++ e ∷ []) (rs ++ r ∷ []) new
  one_more old mid new [] [] e r is turn stands = (new, subst (λ w. Turn rules (Tells e) r w new) is turn, stands, refl)
  one_more old mid new [] (q ∷ rs) e r is turn stands = absurd is
  one_more old mid new (d ∷ es) [] e r is turn stands = absurd is
  one_more old mid new (d ∷ es) (q ∷ rs) e r (next, first, full, rest) turn stands = (next, first, full, one_more next mid new es rs e r rest turn stands)

  -- the steps of turns
  record Steps (old new : WorldState) : Type 0 where
    steps : List (Event × events.Reply)
    run : Run rules old.state steps new.state
    all : new.accepted ≡ old.accepted ++ accepted_of steps

  steps_with : (old mid new : WorldState) (step : ModelStep) → Takes rules old.state step mid.state → mid.accepted ≡ old.accepted ++ accepted_with step → Steps mid new → Steps old new
  steps_with old mid new None takes accepted later =
      record {
        steps = later.steps;
        run = subst (λ st. Run rules st later.steps new.state) takes later.run;
        all = later.all ∙ ap (λ l. l ++ accepted_of later.steps) (accepted ∙ append-nil old.accepted);
      }
  steps_with old mid new (Some step) takes accepted later =
      record {
        steps = step ∷ later.steps;
        run = (mid.state, takes, later.run);
        all = later.all ∙ ap (λ l. l ++ accepted_of later.steps) accepted ∙ append_assoc old.accepted (accepted_with (Some step)) (accepted_of later.steps);
      }

  steps_of : (old new : WorldState) (es : List WorldEvent) (rs : List Reply) → Turns rules old es rs new → Steps old new
  steps_of old new [] [] is =
      record {
        steps = [];
        run = subst (λ w. IsSame w.state old.state) (sym is) (same_state old.state);
        all = ap (λ w. w.accepted) is ∙ sym (append-nil old.accepted);
      }
  steps_of old new [] (r ∷ rs) is = absurd is
  steps_of old new (e ∷ es) [] is = absurd is
  steps_of old new (e ∷ es) (r ∷ rs) (mid, turn, full, rest) = steps_with old mid new turn.step turn.takes turn.accepted (steps_of mid new es rs rest)

  -- all turns, from the world without entries
  pub has_run : {R : Type 0} (es : List WorldEvent) (told : List Reply) (w : World R) (accepted : List Numbered) → IsKept w accepted
      → Turns rules empty_world es told (seen w accepted) → HasRun rules es told w
  has_run es told w accepted kept turns =
      let all = steps_of empty_world (seen w accepted) es told turns in
      record {
        accepted = accepted;
        turns = turns;
        stands = stands_in_full w accepted kept;
        steps = all.steps;
        run = all.run;
        all = sym all.all;
      }

-- the next event turns the world that the ones before it left
pub turn_next : {R : Type 0} (now settings : StoreSettings) (es : List WorldEvent) (rs : List Reply) (i : ℕ) (e : WorldEvent) (r : Reply) (old new : World R) (accepted : List Numbered) → now ≡ settings
    → e ≡ get_or es i e → i < length es → Turns (rules_for settings) empty_world (take i es) rs (seen old accepted) → (turned : HasTurned (rules_for now) (Tells e) r old new accepted)
    → Turns (rules_for settings) empty_world (take (i + 1) es) (rs ++ r ∷ []) (seen new turned.after)
turn_next now settings es rs i e r old new accepted same is within so_far turned =
    subst (λ l. Turns (rules_for settings) empty_world l (rs ++ r ∷ []) (seen new turned.after)) (ap (λ x. take i es ++ x ∷ []) is ∙ sym (take_more es i e within))
    (one_more (rules_for settings) empty_world (seen old accepted) (seen new turned.after) (take i es) rs e r so_far
    (subst (λ s. Turn (rules_for s) (Tells e) r (seen old accepted) (seen new turned.after)) same turned.turn) (stands_in_full new turned.after turned.kept))
