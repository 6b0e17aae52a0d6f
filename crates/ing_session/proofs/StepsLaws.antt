-- What the calls of a step make of a run.
use Rattle.std.proofs.Common.{◌≡◌, ◌≢◌, ◌⊎◌, ℕ, ◌≤◌, Bool, true, false, List, [], ◌∷◌, ◌++◌, length, drop, refl, sym, ap, subst, ◌∙◌, arith, append_assoc, append-nil, None, Some, Ok, Err, inl}
use Rattle.std.specs.Prelude.{Option, Result, IfSome, IsTrue, MatchBool, OnOk}
use Rattle.std.specs.List.{AllByRecursion, flat_map}
use Rattle.std.specs.Io.KnownBytes.{Appends, Keeps, Consumes, IsAtEnd, prepend_known}
use Rattle.ing_commands.specs.declared.fault.LineFault.TheVariants.{BadCommand}
use Rattle.ing_session.specs.declared.ending.Ending.{Ending}
use Rattle.ing_session.specs.declared.ending.Ending.TheVariants.{NoMemory, InputFault, OutputFault}
use Rattle.ing_session.specs.declared.lines.NextLine.{NextLine}
use Rattle.ing_session.specs.declared.lines.NextLine.TheVariants.{Line, TooLong, End}
use Rattle.ing_session.specs.declared.ticks.Tick.{Tick}
use Rattle.ing_session.specs.Endings.{is_of_run}
use Rattle.ing_session.specs.Fronts.{AppendsFront, Grows}
use Rattle.ing_session.specs.Lines.{lines_of, with_feed, EndsLine, TakesLine}
use Rattle.ing_session.specs.Manners.{Manner, Turn, line_fault, answers_of, failed_in, held_after, lines_in}
use Rattle.ing_session.specs.Parts.{HasNoFeed}
use Rattle.ing_session.specs.Replies.{line_text}
use Rattle.ing_session.specs.Runs.{AnswersAhead, AnswersFirstLines, AnswersFront, HearsAll, HearsFirst, with_replies}
use Rattle.ing_session.specs.Steps.{Began, BreaksOffAt, EndsBy, HasAnswered, IsUnderWay, LeadsTo, Moment, StepsTo, Stops, StopsReading}
use Rattle.ing_session.proofs.CausesLaws.{causes_more, causes_on, no_failure}
use Rattle.ing_session.proofs.FrontsLaws.{front_held, grows_none, grows_on}
use Rattle.ing_session.proofs.KnownLaws.{if_some_then}
use Rattle.ing_session.proofs.LinesLaws.{lines_of-ended, lines_of-open_last, lines_of-rest}
use Rattle.ing_session.proofs.RunsLaws.{adds, all_on, alone, answers_on, failed_on, feeds_of, feeds_on, hears_first, hears_on, held_on, kept, lines_on, long_answers, may_be_on, no_lines}

-- ---- one step behind another

module _ {m : Manner} (began : Began) (a b c : Moment m) (grown : Grows a.contents b.contents) where
  -- how it ends is the same where the writer had grown before
  ends_behind : (e : Ending) → EndsBy m began b c e → EndsBy m began a c e
  ends_behind OutputFault ends = λ before. ends (grows_on began.old a.contents b.contents before grown)
  ends_behind _ ends = ends

  leads_behind : {T : Type 0} (goes_on : T → Bool) (r : Result T Ending) → LeadsTo m goes_on began b c r → LeadsTo m goes_on began a c r
  leads_behind goes_on (Ok done) leads = leads
  leads_behind goes_on (Err e) leads = ends_behind e leads

pub then_steps : {T U : Type 0} {m : Manner} {goes_on : U → Bool} {a b c : Moment m} {done : T} {r : Result U Ending}
    → StepsTo m (λ (x : T). true) a b (Ok done) → StepsTo m goes_on b c r → Grows a.contents b.contents → StepsTo m goes_on a c r
then_steps {goes_on = goes_on} {a = a} {b = b} {c = c} {r = r} one other grown =
    record { leads = λ began serves. leads_behind began a b c grown goes_on r (other.leads began (one.leads began serves)) }

-- results that say the same of how it goes on
pub alike : {T U : Type 0} {m : Manner} {goes_on : T → Bool} {goes_on_too : U → Bool} {a b : Moment m} {x : T} {y : U}
    → goes_on x ≡ goes_on_too y → StepsTo m goes_on a b (Ok x) → StepsTo m goes_on_too a b (Ok y)
alike {m = m} {a = a} {b = b} same step =
    record { leads = λ began serves. subst (λ more. MatchBool more (IsUnderWay m began b) (HasAnswered m began b)) same (step.leads began serves) }

-- ---- where it ends early

-- A call is not done whole: what the clock said last may not be done, no failure is forgotten, and what was held is left.
pub record Ceases (m : Manner) (old new : Moment m) : Type 0 where
  pub heard : (turns : List (Turn m.Held)) → HearsAll old.ticks turns → HearsFirst new.ticks turns
  pub risen : old.failed ≤ new.failed
  pub left : (held : m.Held) → old.holds held → new.holds held ⊎ new.leaves held

-- the lines that were answered are the first ones
first_lines : {m : Manner} {began : Began} {now : Moment m} (serves : IsUnderWay m began now) (b : Bool) → now.at_end ≡ b
    → lines_of began.input ≡ lines_in serves.turns ++ lines_of serves.left
first_lines serves true is =
    let read = serves.read is in
    read.0 ∙ sym (append-nil (lines_in serves.turns)) ∙ ap (λ l. lines_in serves.turns ++ lines_of l) (sym read.1)
first_lines serves false is = ap lines_of (serves.taken is) ∙ lines_of-rest (lines_in serves.turns) serves.left serves.no_feeds

module _ {m : Manner} {began : Began} {old : Moment m} (new : Moment m) (serves : IsUnderWay m began old) (ceases : Ceases m old new) where
  breaks_off : (written : List ℕ → Type 0) → written (answers_of serves.turns) → BreaksOffAt m began new written
  breaks_off written told =
      record {
        turns = serves.turns;
        others = lines_of serves.left;
        first = first_lines serves old.at_end refl;
        heard = ceases.heard serves.turns serves.heard;
        may_be = record {
          flushes = serves.may_be.flushes;
          causes = causes_on began.before old.failed new.failed (failed_in serves.turns) serves.may_be.causes ceases.risen;
        };
        answered = told;
        left = ceases.left (held_after m.nothing serves.turns) serves.holds;
      }

  stops : Keeps (with_replies old.contents old.replies) (with_replies new.contents new.replies) → Stops m began new
  stops keeps =
      let was = with_replies old.contents old.replies in
      let now = with_replies new.contents new.replies in
      breaks_off (Appends began.old now) (kept began.old was now (answers_of serves.turns) serves.answered keeps)

  is_cut : AppendsFront old.contents new.contents old.replies → Grows began.old old.contents
      → BreaksOffAt m began new (AppendsFront began.old new.contents)
  is_cut front grown =
      breaks_off (AppendsFront began.old new.contents)
      (front_held began.old old.contents new.contents old.replies (answers_of serves.turns) grown serves.answered front)

module _ {T : Type 0} {m : Manner} {goes_on : T → Bool} {old new : Moment m} {r : Result T Ending} {e : Ending} (is : r ≡ Err e) where
  -- an ending that is passed on
  pub ends : {fault : Ending} → e ≡ fault → ((began : Began) → IsUnderWay m began old → EndsBy m began old new fault) → StepsTo m goes_on old new r
  ends same by = record { leads = λ began serves. subst (LeadsTo m goes_on began old new) (sym (is ∙ ap (λ x. Err x) same)) (by began serves) }

  -- memory ran out
  pub runs_out : e ≡ NoMemory → Ceases m old new → Keeps (with_replies old.contents old.replies) (with_replies new.contents new.replies)
      → StepsTo m goes_on old new r
  runs_out same ceases keeps = ends same (λ began serves. stops new serves ceases keeps)

  -- a write failed
  pub breaks : e ≡ OutputFault → Ceases m old new → AppendsFront old.contents new.contents old.replies → StepsTo m goes_on old new r
  breaks same ceases front = ends same (λ began serves grown. is_cut new serves ceases front grown)

-- ---- the next line is not taken

-- what the reading of a line may change
abbrev pub read_on : {m : Manner} → Moment m → Option (List ℕ) → List ℕ → Bool → Option (List ℕ) → Option (List ℕ) → Moment m
read_on old contents replies at_end left rest = record old { contents = contents; replies = replies; at_end = at_end; left = left; rest = rest }

consumes_more : (input text left bytes : List ℕ) (rest : Option (List ℕ)) → input ≡ text ++ left → Consumes (Some left) rest bytes
    → Consumes (Some input) rest (text ++ bytes)
consumes_more input text left bytes None is consumed = absurd consumed
consumes_more input text left bytes (Some rest) is consumed = is ∙ ap (λ (l : List ℕ). text ++ l) consumed ∙ sym (append_assoc text bytes rest)

memory_is_no_output : NoMemory ≢ OutputFault
memory_is_no_output is = absurd cc

input_is_no_output : InputFault ≢ OutputFault
input_is_no_output is = absurd cc

module _ {m : Manner} {old : Moment m} (k : Option (List ℕ)) (q : List ℕ) (now : Bool) (l s : Option (List ℕ)) where
  ceases_there : Ceases m old (read_on old k q now l s)
  ceases_there = record { heard = hears_first old.ticks; risen = omega arith; left = λ held is_held. inl is_held }

  reads_off : {began : Began} (bytes : List ℕ) → IsUnderWay m began old → old.at_end ≡ false → HasNoFeed bytes → Consumes old.left s bytes
      → Keeps (with_replies old.contents old.replies) (with_replies k q) → StopsReading m began (read_on old k q now l s)
  reads_off {began = began} bytes serves going clean consumed keeps =
      let text = flat_map with_feed (lines_in serves.turns) in
      let here = subst (λ known. Consumes known s bytes) serves.known consumed in
      record {
        turns = serves.turns;
        last = bytes;
        no_feeds = serves.no_feeds;
        no_feed = clean;
        read = consumes_more began.input text serves.left bytes s (serves.taken going) here;
        heard = serves.heard;
        may_be = serves.may_be;
        answered = kept began.old (with_replies old.contents old.replies) (with_replies k q) (answers_of serves.turns) serves.answered keeps;
      }

  fails_by : {began : Began} (fault : Ending) → IsTrue (is_of_run fault)
      → (fault ≢ OutputFault → Keeps (with_replies old.contents old.replies) (with_replies k q))
      → (fault ≡ InputFault → (old.at_end ≡ false) × (bytes : List ℕ) × HasNoFeed bytes × Consumes old.left s bytes)
      → (fault ≡ OutputFault → AppendsFront old.contents k old.replies)
      → IsUnderWay m began old → EndsBy m began old (read_on old k q now l s) fault
  fails_by NoMemory of_run keeps reads front serves = stops (read_on old k q now l s) serves ceases_there (keeps memory_is_no_output)
  fails_by InputFault of_run keeps reads front serves =
      let read = reads refl in
      let same = keeps input_is_no_output in
      (reads_off read.1 serves read.0 read.2 read.3 same, stops (read_on old k q now l s) serves ceases_there same)
  fails_by OutputFault of_run keeps reads front serves = λ grown. is_cut (read_on old k q now l s) serves ceases_there (front refl) grown
  fails_by _ of_run keeps reads front serves = absurd cc

pub no_line : {T : Type 0} {m : Manner} {goes_on : T → Bool} {old : Moment m} {k : Option (List ℕ)} {q : List ℕ} {now : Bool} {l s : Option (List ℕ)}
    {r : Result T Ending} {e fault : Ending} → r ≡ Err e → e ≡ fault → IsTrue (is_of_run fault)
    → (fault ≢ OutputFault → Keeps (with_replies old.contents old.replies) (with_replies k q))
    → (fault ≡ InputFault → (old.at_end ≡ false) × (bytes : List ℕ) × HasNoFeed bytes × Consumes old.left s bytes)
    → (fault ≡ OutputFault → AppendsFront old.contents k old.replies) → StepsTo m goes_on old (read_on old k q now l s) r
no_line {k = k} {q = q} {now = now} {l = l} {s = s} {fault = fault} is same of_run keeps reads front =
    ends is same (λ began serves. fails_by k q now l s fault of_run keeps reads front serves)

-- ---- the next line is taken

-- no line is taken where nothing is left
none_left : (old new line : List ℕ) (at_end : Bool) → old ≡ [] → EndsLine old new at_end line → ⊥
none_left old new [] false empty ends = absurd cc
none_left old new (x ∷ xs) false empty ends = absurd cc
none_left old new line true empty ends = let nothing : line ≡ [] = sym ends.0 ∙ empty in absurd (omega (arith, ends.1, ap length nothing))

-- what is left is known
takes : {m : Manner} {began : Began} {old : Moment m} (serves : IsUnderWay m began old) (new : Option (List ℕ)) (now : Bool) (next : NextLine)
    (line : List ℕ) → ((old.at_end ≡ true → IsAtEnd old.left) → TakesLine old.left new now next line) → TakesLine (Some serves.left) new now next line
takes serves new now next line taken =
    subst (λ left. TakesLine left new now next line) serves.known (taken (λ e. subst IsAtEnd (sym serves.known) (serves.read e).1))

module _ {m : Manner} {began : Began} {old : Moment m} (new : Moment m) (serves : IsUnderWay m began old) (q line ahead : List ℕ) (taken : ℕ)
    (heard : new.ticks ≡ old.ticks) (keeps : Keeps (with_replies old.contents old.replies) (with_replies new.contents q))
    (same : new.settings ≡ began.settings)
    (answers : AnswersAhead m began.settings line ahead taken (held_after m.nothing serves.turns) new.holds old.failed new.failed q new.replies) where
  -- a line is taken, and those behind it that are answered with it
  some_lines : (more : List ℕ) → HasNoFeed line → EndsLine serves.left (ahead ++ more) new.at_end line → new.left ≡ Some (drop taken ahead ++ more)
      → IsUnderWay m began new
  some_lines more clean ended known =
      record {
        turns = serves.turns ++ answers.turns;
        left = behind;
        known = known;
        no_feeds = subst (AllByRecursion HasNoFeed) (sym lines)
            (all_on (lines_in serves.turns) taken_lines serves.no_feeds (clean, answers.no_feeds));
        taken = λ going. subst (λ ls. began.input ≡ flat_map with_feed ls ++ behind) (sym lines) (front new.at_end ended going);
        read = λ done. subst (λ ls. (lines_of began.input ≡ ls) × (behind ≡ [])) (sym lines) (end new.at_end ended done);
        settings_are = same;
        holds = subst new.holds (sym (held_on serves.turns answers.turns m.nothing)) answers.holds;
        heard = subst (λ ticks. HearsAll ticks (serves.turns ++ answers.turns)) (sym heard)
            (hears_on old.ticks serves.turns answers.turns serves.heard answers.quiet);
        may_be = record {
          flushes = may_be_on m began.settings serves.turns answers.turns m.nothing serves.may_be.flushes answers.may_be;
          causes = rw (failed_on serves.turns answers.turns)
              (causes_more began.before old.failed new.failed (failed_in serves.turns) (failed_in answers.turns) serves.may_be.causes answers.causes);
        };
        answered = rw (answers_on serves.turns answers.turns)
            (adds began.old old.contents new.contents old.replies q new.replies (answers_of serves.turns) (answers_of answers.turns) serves.answered keeps
            answers.told);
      } where
        behind : List ℕ
        behind = drop taken ahead ++ more

        taken_lines : List (List ℕ)
        taken_lines = line ∷ answers.others

        lines : lines_in (serves.turns ++ answers.turns) ≡ lines_in serves.turns ++ taken_lines
        lines = lines_on serves.turns answers.turns ∙ ap (λ (ls : List (List ℕ)). lines_in serves.turns ++ ls) answers.lines

        whole : ahead ++ more ≡ flat_map with_feed answers.others ++ behind
        whole = ap (λ (bytes : List ℕ). bytes ++ more) answers.front ∙ append_assoc (flat_map with_feed answers.others) (drop taken ahead) more

        so_far : (b : Bool) → old.at_end ≡ b → began.input ≡ flat_map with_feed (lines_in serves.turns) ++ serves.left
        so_far true is = absurd (none_left serves.left (ahead ++ more) line new.at_end (serves.read is).1 ended)
        so_far false is = serves.taken is

        -- what is said of what was left is said of the input
        of_input : (left : List ℕ) → serves.left ≡ left → began.input ≡ flat_map with_feed (lines_in serves.turns) ++ left
        of_input left is = so_far old.at_end refl ∙ ap (λ (l : List ℕ). flat_map with_feed (lines_in serves.turns) ++ l) is

        front : (b : Bool) → EndsLine serves.left (ahead ++ more) b line → b ≡ false
            → began.input ≡ flat_map with_feed (lines_in serves.turns ++ taken_lines) ++ behind
        front false is going =
            of_input (flat_map with_feed taken_lines ++ behind) (is ∙ ap (λ (l : List ℕ). line ++ 10 ∷ l) whole ∙ feeds_of line answers.others behind)
            ∙ feeds_on (lines_in serves.turns) taken_lines behind
        front true is going = absurd cc

        end : (b : Bool) → EndsLine serves.left (ahead ++ more) b line → b ≡ true
            → (lines_of began.input ≡ lines_in serves.turns ++ taken_lines) × (behind ≡ [])
        end false is going = absurd cc
        end true is going =
            let none = no_lines answers.others behind (sym whole ∙ is.2) in (
              ap lines_of (of_input line is.0) ∙ lines_of-open_last (lines_in serves.turns) line serves.no_feeds clean is.1
                  ∙ ap (λ (ls : List (List ℕ)). lines_in serves.turns ++ line ∷ ls) (sym none.0),
              none.1,
            )

  lines_taken : (known : Option (List ℕ)) → TakesLine (Some serves.left) (prepend_known ahead known) new.at_end Line line
      → new.left ≡ prepend_known (drop taken ahead) known → IsUnderWay m began new
  lines_taken None first left = absurd first
  lines_taken (Some more) first left = some_lines more first.0 first.1 left

-- it is answered, and with it those at hand
pub line_answered : {m : Manner} {old new : Moment m} {q said line ahead bytes unread : List ℕ} {taken : ℕ} {ended : Bool} (known : Option (List ℕ))
    → ((old.at_end ≡ true → IsAtEnd old.left) → TakesLine old.left (prepend_known bytes known) ended Line line)
    → Keeps (with_replies old.contents old.replies) (with_replies new.contents q)
    → ((held : m.Held) → old.holds held → AnswersAhead m old.settings said ahead taken held new.holds old.failed new.failed q new.replies)
    → said ≡ line → ahead ≡ bytes → new.ticks ≡ old.ticks → new.settings ≡ old.settings → new.at_end ≡ ended
    → new.left ≡ prepend_known unread known → unread ≡ drop taken bytes → StepsTo m (λ (more : Bool). more) old new (Ok true)
line_answered {m = m} {old = old} {new = new} {q = q} {said = said} {line = line} {ahead = ahead} {bytes = bytes} {taken = taken}
    known first keeps answers same_line same_bytes heard same same_end left skipped =
    record { leads = by } where
      by : (began : Began) → IsUnderWay m began old → IsUnderWay m began new
      by began serves =
          let held = held_after m.nothing serves.turns in
          let first_line = takes serves (prepend_known bytes known) _ Line line first in
          let told : AnswersAhead m began.settings line bytes taken held new.holds old.failed new.failed q new.replies =
          subst (λ set. AnswersAhead m set line bytes taken held new.holds old.failed new.failed q new.replies) serves.settings_are
          (subst (λ x. AnswersAhead m old.settings x bytes taken held new.holds old.failed new.failed q new.replies) same_line
          (subst (λ x. AnswersAhead m old.settings said x taken held new.holds old.failed new.failed q new.replies) same_bytes
          (answers held serves.holds))) in
          lines_taken new serves q line bytes taken heard keeps (same ∙ serves.settings_are) told known
          (subst (λ b. TakesLine (Some serves.left) (prepend_known bytes known) b Line line) (sym same_end) first_line)
          (left ∙ ap (λ u. prepend_known u known) skipped)

module _ {m : Manner} {old : Moment m} (k : Option (List ℕ)) (q s line : List ℕ) (now : Bool) (rest : Option (List ℕ)) where
  refused : {began : Began} (left : Option (List ℕ)) → (serves : IsUnderWay m began old) → TakesLine (Some serves.left) left now TooLong line
      → Keeps (with_replies old.contents old.replies) (with_replies k q) → s ≡ q ++ line_text (line_fault BadCommand)
      → IsUnderWay m began (read_on old k s now left rest)
  refused None serves first keeps told = absurd first
  refused {began = began} (Some more) serves first keeps told =
      let held = held_after m.nothing serves.turns in
      let answers = long_answers m began.settings first.0 held old.holds old.failed q s first.3 told serves.holds in
      some_lines (read_on old k s now (Some more) rest) serves q first.0 [] 0 refl keeps serves.settings_are
      (alone m began.settings first.0 [] held old.holds old.failed old.failed q s answers) more first.1 first.2 refl

-- it is too long, and is refused
pub line_refused : {m : Manner} {old : Moment m} {k : Option (List ℕ)} {s : List ℕ} {now : Bool} {left rest : Option (List ℕ)} (q line : List ℕ)
    → ((old.at_end ≡ true → IsAtEnd old.left) → TakesLine old.left left now TooLong line)
    → Keeps (with_replies old.contents old.replies) (with_replies k q) → s ≡ q ++ line_text (line_fault BadCommand)
    → StepsTo m (λ (more : Bool). more) old (read_on old k s now left rest) (Ok true)
line_refused {k = k} {s = s} {now = now} {left = left} {rest = rest} q line first keeps told =
    record { leads = λ began serves. refused k q s line now rest left serves (takes serves left now TooLong line first) keeps told }

-- there is none
all_lines : {m : Manner} {began : Began} {old : Moment m} (serves : IsUnderWay m began old) → serves.left ≡ [] → (b : Bool) → old.at_end ≡ b
    → lines_of began.input ≡ lines_in serves.turns
all_lines serves empty true is = (serves.read is).0
all_lines serves empty false is =
    let lines = lines_in serves.turns in
    let none_more = ap (λ (l : List ℕ). flat_map with_feed lines ++ l) empty ∙ append-nil (flat_map with_feed lines) in
    ap lines_of (serves.taken is ∙ none_more) ∙ lines_of-ended lines serves.no_feeds

nothing_left : (old line : List ℕ) (new : Option (List ℕ)) (now : Bool) → TakesLine (Some old) new now End line → old ≡ []
nothing_left old line None now none = absurd none
nothing_left old line (Some new) now none = none.0

pub no_line_left : {m : Manner} {old : Moment m} {k : Option (List ℕ)} {q : List ℕ} {now : Bool} {left rest : Option (List ℕ)} (line : List ℕ)
    → ((old.at_end ≡ true → IsAtEnd old.left) → TakesLine old.left left now End line)
    → Keeps (with_replies old.contents old.replies) (with_replies k q)
    → StepsTo m (λ (more : Bool). more) old (read_on old k q now left rest) (Ok false)
no_line_left {m = m} {old = old} {k = k} {q = q} {now = now} {left = left} {rest = rest} line none keeps = record { leads = by } where
  by : (began : Began) → IsUnderWay m began old → HasAnswered m began (read_on old k q now left rest)
  by began serves =
      record {
        turns = serves.turns;
        all = all_lines serves (nothing_left serves.left line left now (takes serves left now End line none)) old.at_end refl;
        holds = serves.holds;
        heard = serves.heard;
        may_be = serves.may_be;
        answered = kept began.old (with_replies old.contents old.replies) (with_replies k q) (answers_of serves.turns) serves.answered keeps;
      }

-- ---- a run begins

-- with what there is to read, at this moment
abbrev pub beginning : {m : Manner} → Moment m → List ℕ → Began
beginning now input = record { settings = now.settings; input = input; before = now.failed; old = now.contents }

pub record Begins (m : Manner) (now : Moment m) (known : Option (List ℕ)) : Type 0 where
  pub under_way : IfSome known (λ input. IsUnderWay m (beginning now input) now)

nothing_added : (known : Option (List ℕ)) (replies : List ℕ) → replies ≡ [] → Appends known (with_replies known replies) []
nothing_added None replies none = tt
nothing_added (Some x) replies none = ap (λ (l : List ℕ). x ++ l) none

nothing_said : (H : Type 0) (known : Option (List Tick)) → IfSome known (λ said. said ≡ []) → HearsAll {H = H} known []
nothing_said H None none = tt
nothing_said H (Some said) none = sym none

-- before the first line
pub begins : {m : Manner} {now : Moment m} {ahead : List ℕ} (known : Option (List ℕ)) → now.replies ≡ [] → now.at_end ≡ false → ahead ≡ []
    → now.left ≡ prepend_known ahead known → now.holds m.nothing → IfSome now.ticks (λ said. said ≡ []) → Begins m now known
begins None none going unread same empty unsaid = record { under_way = tt }
begins {m = m} {now = now} {ahead = ahead} (Some input) none going unread same empty unsaid =
    record {
      under_way = record {
        turns = [];
        left = ahead ++ input;
        known = same;
        no_feeds = tt;
        taken = λ is. ap (λ (l : List ℕ). l ++ input) (sym unread);
        read = λ is. (let both : false ≡ true = sym going ∙ is in absurd cc);
        settings_are = refl;
        holds = empty;
        heard = nothing_said m.Held now.ticks unsaid;
        may_be = record { flushes = tt; causes = no_failure now.failed };
        answered = nothing_added now.contents now.replies none;
      };
    }

-- ---- how a run ends that begins with a step

-- all lines are answered
pub answered_all : {T : Type 0} {m : Manner} {now new : Moment m} {known : Option (List ℕ)} (r : Result T Ending)
    → StepsTo m (λ (x : T). false) now new r → Begins m now known → OnOk r (IfSome known (λ input. HasAnswered m (beginning now input) new))
answered_all {m = m} {now = now} {new = new} {known = known} (Ok done) step begun =
    if_some_then (λ input. IsUnderWay m (beginning now input) now) (λ input. HasAnswered m (beginning now input) new) known
    (λ input serves. step.leads (beginning now input) serves) begun.under_way
answered_all (Err e) step begun = tt

module _ {T : Type 0} {m : Manner} {goes_on : T → Bool} {now new : Moment m} {r : Result T Ending} {known : Option (List ℕ)}
    (step : StepsTo m goes_on now new r) (begun : Begins m now known) where
  -- of each ending
  ends_by : (e : Ending) (Q : List ℕ → Type 0) → ((input : List ℕ) → EndsBy m (beginning now input) now new e → Q input) → r ≡ Err e → IfSome known Q
  ends_by e Q then is =
      let failed = subst (StepsTo m goes_on now new) is step in
      if_some_then (λ input. IsUnderWay m (beginning now input) now) Q known
      (λ input serves. then input (failed.leads (beginning now input) serves)) begun.under_way

  -- a read failed
  pub read_failed : r ≡ Err InputFault → IfSome known (λ input. StopsReading m (beginning now input) new)
  read_failed is = ends_by InputFault (λ input. StopsReading m (beginning now input) new) (λ input both. both.0) is

  -- memory ran out
  pub memory_ran_out : r ≡ Err NoMemory → IfSome known (λ input.
      AnswersFirstLines m now.settings new.ticks input now.failed new.failed now.contents (with_replies new.contents new.replies))
  memory_ran_out is =
      ends_by NoMemory
      (λ input. AnswersFirstLines m now.settings new.ticks input now.failed new.failed now.contents (with_replies new.contents new.replies))
      (λ input off. record {
        turns = off.turns;
        others = off.others;
        first = off.first;
        heard = off.heard;
        may_be = off.may_be;
        answered = off.answered;
      }) is

  -- a write failed
  pub write_failed : r ≡ Err OutputFault → IfSome known (λ input.
      AnswersFront m now.settings new.ticks input now.failed new.failed now.contents new.contents)
  write_failed is =
      ends_by OutputFault (λ input. AnswersFront m now.settings new.ticks input now.failed new.failed now.contents new.contents)
      (λ input cut. (
      let off = cut (grows_none now.contents) in
      record { turns = off.turns; others = off.others; first = off.first; heard = off.heard; may_be = off.may_be; front = inl off.answered }
      )) is

  -- it is cut off there
  pub is_cut_off : r ≡ Err OutputFault → IfSome known (λ input. BreaksOffAt m (beginning now input) new (AppendsFront now.contents new.contents))
  is_cut_off is =
      ends_by OutputFault (λ input. BreaksOffAt m (beginning now input) new (AppendsFront now.contents new.contents))
      (λ input cut. cut (grows_none now.contents)) is

  -- or it stops behind its first lines
  stops_by : (e : Ending) → e ≢ OutputFault → (input : List ℕ) → EndsBy m (beginning now input) now new e → Stops m (beginning now input) new
  stops_by InputFault other input both = both.1
  stops_by NoMemory other input off = off
  stops_by OutputFault other input cut = absurd (other refl)
  stops_by _ other input none = absurd none

  pub stops_off : (e : Ending) → r ≡ Err e → e ≢ OutputFault → IfSome known (λ input. Stops m (beginning now input) new)
  stops_off e is other = ends_by e (λ input. Stops m (beginning now input) new) (stops_by e other) is
