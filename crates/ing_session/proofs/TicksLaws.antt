-- What a clock says between two lines is done.
use Rattle.std.proofs.Common.{◌≡◌, ℕ, true, List, [], ◌∷◌, ◌++◌, refl, sym, ap, subst, ◌∙◌, append-nil, None, Some, Ok}
use Rattle.std.specs.Prelude.{Option}
use Rattle.std.specs.Io.KnownBytes.{Appends, Keeps}
use Rattle.serde_json.specs.Data.{Data}
use Rattle.ing_session.specs.Lines.{lines_of, with_feed}
use Rattle.std.specs.List.{AllByRecursion, flat_map}
use Rattle.ing_session.specs.Parts.{HasNoFeed}
use Rattle.ing_session.specs.Manners.{Manner, Ticks, Turn, answers_of, failed_in, held_after, lines_in, ticks_in}
use Rattle.ing_session.specs.Runs.{HearsAll, HearsFirst, IsObeyed, with_replies}
use Rattle.ing_session.specs.Steps.{Began, IsUnderWay, Moment, StepsTo}
use Rattle.ing_session.specs.Ticks.{GoesOnSaying, command_of_tick, told_by}
use Rattle.ing_session.specs.declared.ticks.Tick.{Tick}
use Rattle.ing_session.proofs.CausesLaws.{causes_more}
use Rattle.ing_session.proofs.RunsLaws.{answers_on, failed_on, failed_one, held_on, kept, lines_on, may_be_on, ticks_on}

-- ---- what is heard

-- it says nothing: all of it is heard
all_quiet : {H : Type 0} (old new : Option (List Tick)) (turns : List (Turn H)) → HearsAll old turns → GoesOnSaying old new None → HearsAll new turns
all_quiet None new turns all says = subst (λ ticks. HearsAll ticks turns) (sym says) tt
all_quiet (Some before) new turns all says =
    let same : new ≡ Some before = says ∙ ap (λ (ts : List Tick). Some ts) (append-nil before) in
    subst (λ ticks. HearsAll ticks turns) (sym same) all

-- it says one thing more, which is done
all_done : {H : Type 0} (old new : Option (List Tick)) (tick : Tick) (turns more : List (Turn H)) → HearsAll old turns → GoesOnSaying old new (Some tick) → ticks_in more ≡ tick ∷ []
    → HearsAll new (turns ++ more)
all_done None new tick turns more all says this = subst (λ ticks. HearsAll ticks (turns ++ more)) (sym says) tt
all_done (Some before) new tick turns more all says this =
    let here : ticks_in (turns ++ more) ≡ before ++ tick ∷ [] = ticks_on turns more ∙ ap (λ (ts : List Tick). ticks_in turns ++ ts) this ∙ ap (λ (ts : List Tick). ts ++ tick ∷ []) all in
    subst (λ ticks. HearsAll ticks (turns ++ more)) (sym says) here

-- or which is not done whole
pub first_done : {H : Type 0} (old new : Option (List Tick)) (tick : Option Tick) (turns : List (Turn H)) → HearsAll old turns → GoesOnSaying old new tick → HearsFirst new turns
first_done None new tick turns all says = subst (λ ticks. HearsFirst ticks turns) (sym says) tt
first_done (Some before) new tick turns all says =
    let here : before ++ told_by tick ≡ ticks_in turns ++ told_by tick = ap (λ (ts : List Tick). ts ++ told_by tick) (sym all) in
    subst (λ ticks. HearsFirst ticks turns) (sym says) (told_by tick, here)

-- ---- what a turn of the clock makes of a run

-- it says nothing
pub quiet : {T : Type 0} {m : Manner} {old : Moment m} {ticks : Option (List Tick)} {k : Option (List ℕ)} {q : List ℕ} {x : T}
    → GoesOnSaying old.ticks ticks None → Keeps (with_replies old.contents old.replies) (with_replies k q)
    → StepsTo m (λ (said : T). true) old (record old { ticks = ticks; contents = k; replies = q }) (Ok x)
quiet {m = m} {old = old} {ticks = ticks} {k = k} {q = q} says keeps = record { leads = by } where
  by : (began : Began) → IsUnderWay m began old → IsUnderWay m began (record old { ticks = ticks; contents = k; replies = q })
  by began serves =
      record {
        turns = serves.turns;
        left = serves.left;
        known = serves.known;
        no_feeds = serves.no_feeds;
        taken = serves.taken;
        read = serves.read;
        settings_are = serves.settings_are;
        holds = serves.holds;
        heard = all_quiet old.ticks ticks serves.turns serves.heard says;
        may_be = serves.may_be;
        answered = kept began.old (with_replies old.contents old.replies) (with_replies k q) (answers_of serves.turns) serves.answered keeps;
      }

-- it says one thing, which is obeyed
module _ {m : Manner} {old new : Moment m} {reply : Data} (tick : Tick) (says : GoesOnSaying old.ticks new.ticks (Some tick))
    (keeps : Keeps (with_replies old.contents old.replies) (with_replies new.contents new.replies)) (same : new.settings ≡ old.settings)
    (obeyed : (held : m.Held) → old.holds held → IsObeyed m old.settings (Ok (command_of_tick tick)) held new.holds old.failed new.failed reply)
    (same_end : new.at_end ≡ old.at_end) (same_left : new.left ≡ old.left) where
  obeyed_on : (began : Began) → IsUnderWay m began old → IsUnderWay m began new
  obeyed_on began serves =
      record {
        turns = serves.turns ++ more;
        left = serves.left;
        known = same_left ∙ serves.known;
        no_feeds = subst (AllByRecursion HasNoFeed) (sym lines) serves.no_feeds;
        taken = λ going. subst (λ ls. began.input ≡ flat_map with_feed ls ++ serves.left) (sym lines) (serves.taken (sym same_end ∙ going));
        read = λ ended. subst (λ ls. (lines_of began.input ≡ ls) × (serves.left ≡ [])) (sym lines) (serves.read (sym same_end ∙ ended));
        settings_are = same ∙ serves.settings_are;
        holds = subst new.holds (sym (held_on serves.turns more m.nothing)) done.holds;
        heard = all_done old.ticks new.ticks tick serves.turns more serves.heard says refl;
        may_be = record {
          flushes = may_be_on m began.settings serves.turns more m.nothing serves.may_be.flushes
              (record { reply = reply; obeys = done.obeys; silent = refl }, tt);
          causes = rw (failed_on serves.turns more, failed_one this)
              (causes_more began.before old.failed new.failed (failed_in serves.turns) done.failed serves.may_be.causes done.causes);
        };
        answered = subst (λ text. Appends began.old now text) (sym answers) (kept began.old was now (answers_of serves.turns) serves.answered keeps);
      } where
        was : Option (List ℕ)
        was = with_replies old.contents old.replies

        now : Option (List ℕ)
        now = with_replies new.contents new.replies

        held : m.Held
        held = held_after m.nothing serves.turns

        done : IsObeyed m began.settings (Ok (command_of_tick tick)) held new.holds old.failed new.failed reply
        done =
            subst (λ s. IsObeyed m s (Ok (command_of_tick tick)) held new.holds old.failed new.failed reply) serves.settings_are
            (obeyed held serves.holds)

        this : Turn m.Held
        this = record { said = Ticks tick; answer = []; failed = done.failed; left = done.left }

        more : List (Turn m.Held)
        more = this ∷ []

        lines : lines_in (serves.turns ++ more) ≡ lines_in serves.turns
        lines = lines_on serves.turns more ∙ append-nil (lines_in serves.turns)

        answers : answers_of (serves.turns ++ more) ≡ answers_of serves.turns
        answers = answers_on serves.turns more ∙ append-nil (answers_of serves.turns)

  pub tick_obeyed : {T : Type 0} {x : T} → StepsTo m (λ (said : T). true) old new (Ok x)
  tick_obeyed = record { leads = obeyed_on }
