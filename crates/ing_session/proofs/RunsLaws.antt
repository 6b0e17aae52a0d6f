-- One more line of the input is answered, or the run ends.
use Rattle.std.proofs.Common.{◌≡◌, ◌≢◌, ℕ, ◌+◌, ◌<◌, true, List, [], ◌∷◌, ◌++◌, length, refl, sym, ap, subst, ◌∙◌, arith, append_assoc, append-nil, None, Some, Ok, Err, inl, inr}
use Rattle.std.specs.Prelude.{Option, Result, IfSome, IfErr, OnOk, OnErr, IsTrue}
use Rattle.std.specs.List.{AllByRecursion, flat_map}
use Rattle.std.specs.Io.KnownBytes.{Appends, Keeps}
use Rattle.std.proofs.KnownBytes.{Appends-nil}
use Rattle.std.proofs.lemmas.Grind.{flat_map-append}
use Rattle.std.proofs.lemmas.List.{length-append}
use Rattle.std.proofs.lemmas.List.Concat.{flat_map-cons}
use Rattle.std.proofs.lemmas.List.Sums.{sum_by-append, sum_by-cons}
use Rattle.std.proofs.lemmas.Bool.Decides.{nat_tests}
use Rattle.ing_limits.specs.Settings.{StoreSettings}
use Rattle.ing_commands.specs.declared.fault.LineFault.TheVariants.{BadCommand}
use Rattle.ing_session.specs.declared.ending.Ending.{Ending}
use Rattle.ing_session.specs.declared.ending.Ending.TheVariants.{NoMemory, NotToml, UnknownSetting, BadSetting, InputFault, OutputFault, BadArguments, NoSettings, NoFolder, NoObjects, FolderInUse, MissingLog, NotRecovered, NotServed, Differs}
use Rattle.ing_session.specs.Endings.{is_of_run}
use Rattle.ing_session.specs.Fronts.{AppendsFront, Grows}
use Rattle.ing_session.specs.Lines.{lines_of, with_feed}
use Rattle.ing_session.specs.Parts.{HasNoFeed, max_line}
use Rattle.ing_session.specs.Replies.{line_text}
use Rattle.ing_session.specs.Manners.{Manner, Turn, turn, MayBeFrom, is_long, line_fault, answers_of, failed_in, held_after, line_in, lines_in, output_of, tick_in, ticks_in}
use Rattle.ing_session.specs.Causes.{HaveCause}
use Rattle.ing_session.specs.declared.ticks.Tick.{Tick}
use Rattle.ing_session.specs.Runs.{HearsAll, HearsFirst, AnswersAll, AnswersWhatWasRead, AnswersFirstLines, AnswersFront, Answers, AnswersAhead, AnswersLines, BreaksOff, HasWritten, IsUnbegun, Reports, Seen, with_replies}
use Rattle.ing_session.proofs.CausesLaws.{no_failure}
use Rattle.ing_session.proofs.FrontsLaws.{all_written, front_held, front_of}
use Rattle.ing_session.proofs.LinesLaws.{lines_of-rest}

-- ---- what is written and held back

-- text is put behind the replies
pub adds : (first c k : Option (List ℕ)) (r q s before text : List ℕ) → Appends first (with_replies c r) before → Keeps (with_replies c r) (with_replies k q) → s ≡ q ++ text
    → Appends first (with_replies k s) (before ++ text)
adds None c k r q s before text so_far keeps more = tt
adds (Some x) None k r q s before text so_far keeps more = absurd so_far
adds (Some x) (Some y) None r q s before text so_far keeps more = absurd keeps
adds (Some x) (Some y) (Some z) r q s before text so_far keeps more =
    ap (λ (l : List ℕ). z ++ l) more ∙ sym (append_assoc z q text) ∙ ap (λ (l : List ℕ). l ++ text) (keeps ∙ so_far) ∙ append_assoc x before text

pub kept : (first h k : Option (List ℕ)) (before : List ℕ) → Appends first h before → Keeps h k → Appends first k before
kept None h k before so_far keeps = tt
kept (Some x) None k before so_far keeps = absurd so_far
kept (Some x) (Some y) None before so_far keeps = absurd keeps
kept (Some x) (Some y) (Some z) before so_far keeps = keeps ∙ so_far

-- replies that are written out
pub keeps_written : (c k : Option (List ℕ)) (r q : List ℕ) → Appends c k r → q ≡ [] → Keeps (with_replies c r) (with_replies k q)
keeps_written None k r q written none = tt
keeps_written (Some x) None r q written none = absurd written
keeps_written (Some x) (Some y) r q written none = ap (λ (l : List ℕ). y ++ l) none ∙ append-nil y ∙ written

pub keeps_trans : (a b c : Option (List ℕ)) → Keeps a b → Keeps b c → Keeps a c
keeps_trans None b c h k = tt
keeps_trans (Some x) None c h k = absurd h
keeps_trans (Some x) (Some y) None h k = absurd k
keeps_trans (Some x) (Some y) (Some z) h k = k ∙ h

-- replies that stay as they were
pub held_same : (h k : Option (List ℕ)) (q s : List ℕ) → Keeps h (with_replies k q) → s ≡ q → Keeps h (with_replies k s)
held_same h k q s keeps same = subst (λ l. Keeps h (with_replies k l)) (sym same) keeps

pub keeps_same : (a : Option (List ℕ)) → Keeps a a
keeps_same None = tt
keeps_same (Some x) = refl

-- ---- lines more

pub held_on : {H : Type 0} (turns more : List (Turn H)) (held : H) → held_after held (turns ++ more) ≡ held_after (held_after held turns) more
held_on [] more held = refl
held_on (u ∷ us) more held = held_on us more u.left

pub answers_on : {H : Type 0} (turns more : List (Turn H)) → answers_of (turns ++ more) ≡ answers_of turns ++ answers_of more
answers_on [] more = refl
answers_on (u ∷ us) more = ap (λ (text : List ℕ). u.answer ++ text) (answers_on us more) ∙ sym (append_assoc u.answer (answers_of us) (answers_of more))

pub may_be_on : (m : Manner) (settings : StoreSettings) (turns more : List (Turn m.Held)) (held : m.Held) → MayBeFrom m settings held turns → MayBeFrom m settings (held_after held turns) more
    → MayBeFrom m settings held (turns ++ more)
may_be_on m settings [] more held before these = these
may_be_on m settings (u ∷ us) more held before these = (before.0, may_be_on m settings us more u.left before.1 these)

pub failed_on : {H : Type 0} (turns more : List (Turn H)) → failed_in (turns ++ more) ≡ failed_in turns + failed_in more
failed_on {H = H} turns more = sum_by-append (λ (u : Turn H). u.failed) turns more

pub failed_one : {H : Type 0} (t : Turn H) → failed_in (t ∷ []) ≡ t.failed
failed_one {H = H} t = sum_by-cons (λ (u : Turn H). u.failed) t [] ∙ omega arith

pub lines_on : {H : Type 0} (turns more : List (Turn H)) → lines_in (turns ++ more) ≡ lines_in turns ++ lines_in more
lines_on [] more = refl
lines_on (u ∷ us) more = ap (λ (ls : List (List ℕ)). line_in u.said ++ ls) (lines_on us more) ∙ sym (append_assoc (line_in u.said) (lines_in us) (lines_in more))

pub ticks_on : {H : Type 0} (turns more : List (Turn H)) → ticks_in (turns ++ more) ≡ ticks_in turns ++ ticks_in more
ticks_on [] more = refl
ticks_on (u ∷ us) more = ap (λ (ts : List Tick). tick_in u.said ++ ts) (ticks_on us more) ∙ sym (append_assoc (tick_in u.said) (ticks_in us) (ticks_in more))

-- ---- what a clock has said

-- all of it is the first of it
pub hears_first : {H : Type 0} (ticks : Option (List Tick)) (turns : List (Turn H)) → HearsAll ticks turns → HearsFirst ticks turns
hears_first None turns all = tt
hears_first (Some said) turns all = ([], sym all ∙ sym (append-nil (ticks_in turns)))

-- of whatever it said nothing was done yet
hears_none : (H : Type 0) (ticks : Option (List Tick)) → HearsFirst {H = H} ticks []
hears_none H None = tt
hears_none H (Some said) = (said, refl)

-- lines at which it says nothing
pub hears_on : {H : Type 0} (ticks : Option (List Tick)) (turns more : List (Turn H)) → HearsAll ticks turns → ticks_in more ≡ [] → HearsAll ticks (turns ++ more)
hears_on None turns more all quiet = tt
hears_on (Some said) turns more all quiet = ticks_on turns more ∙ ap (λ (ts : List Tick). ticks_in turns ++ ts) quiet ∙ append-nil (ticks_in turns) ∙ all

pub all_on : (lines more : List (List ℕ)) → AllByRecursion HasNoFeed lines → AllByRecursion HasNoFeed more → AllByRecursion HasNoFeed (lines ++ more)
all_on [] more h k = k
all_on (l ∷ ls) more h k = (h.0, all_on ls more h.1 k)

pub feeds_on : (lines more : List (List ℕ)) (rest : List ℕ) → flat_map with_feed lines ++ (flat_map with_feed more ++ rest) ≡ flat_map with_feed (lines ++ more) ++ rest
feeds_on lines more rest =
    sym (append_assoc (flat_map with_feed lines) (flat_map with_feed more) rest) ∙ ap (λ (bytes : List ℕ). bytes ++ rest) (sym (flat_map-append with_feed lines more))

-- a line and those behind it
pub feeds_of : (line : List ℕ) (others : List (List ℕ)) (rest : List ℕ) → line ++ 10 ∷ (flat_map with_feed others ++ rest) ≡ flat_map with_feed (line ∷ others) ++ rest
feeds_of line others rest =
    sym (append_assoc line (10 ∷ []) (flat_map with_feed others ++ rest))
    ∙ sym (append_assoc (with_feed line) (flat_map with_feed others) rest)
    ∙ ap (λ (bytes : List ℕ). bytes ++ rest) (sym (flat_map-cons with_feed line others))

-- lines that take nothing are none
pub no_lines : (lines : List (List ℕ)) (rest : List ℕ) → flat_map with_feed lines ++ rest ≡ [] → (lines ≡ []) × (rest ≡ [])
no_lines [] rest none = (refl, none)
no_lines (l ∷ ls) rest none =
    let long : length (l ++ 10 ∷ (flat_map with_feed ls ++ rest)) ≡ 0 = ap length (feeds_of l ls rest ∙ none) in
    let more = length-append l (10 ∷ (flat_map with_feed ls ++ rest)) in
    absurd (grind (arith, long, more))

-- a line is answered alone
pub alone : (m : Manner) (settings : StoreSettings) (line ahead : List ℕ) (held : m.Held) (holds : m.Held → Type 0) (b1 b2 : ℕ) (q s : List ℕ) → Answers m settings line held holds b1 b2 q s
    → AnswersAhead m settings line ahead 0 held holds b1 b2 q s
alone m settings line ahead held holds b1 b2 q s answers =
    let t = turn line answers.answer answers.failed answers.left in
    record {
      turns = t ∷ [];
      others = [];
      lines = refl;
      quiet = refl;
      no_feeds = tt;
      front = refl;
      may_be = (answers.may_be, tt);
      told = answers.told ∙ ap (λ (text : List ℕ). q ++ text) (sym (append-nil answers.answer));
      causes = subst (HaveCause b1 b2) (sym (failed_one t)) answers.causes;
      holds = answers.holds;
    }

-- a line that is too long is refused, and changes nothing
pub long_answers : (m : Manner) (settings : StoreSettings) (line : List ℕ) (held : m.Held) (holds : m.Held → Type 0) (n : ℕ) (q s : List ℕ) → max_line < length line
    → s ≡ q ++ line_text (line_fault BadCommand) → holds held → Answers m settings line held holds n n q s
long_answers m settings line held holds n q s long refused is_held =
    let is : is_long line ≡ true = grind (arith, nat_tests) in
    record {
      answer = line_text (line_fault BadCommand);
      failed = 0;
      left = held;
      may_be = rw is (record { reply = line_fault BadCommand; obeys = record { told = refl; left = refl; failures = refl }; written = refl });
      told = refused;
      causes = no_failure n;
      holds = is_held;
    }

-- ---- the report

module _ (m : Manner) (settings : StoreSettings) (ticks : Option (List Tick)) (holds : m.Held → Type 0) (input : List ℕ) (before after : ℕ) (first c : Option (List ℕ)) (r s : List ℕ) (lines : AnswersLines m settings ticks holds input before after first (with_replies c r)) where
  -- it is made
  pub reported : ((held : m.Held) → holds held → Reports m held r s) → AnswersAll m settings ticks input before after first (with_replies c s)
  reported reports =
      let made = reports (held_after m.nothing lines.turns) lines.holds in
      record {
        turns = lines.turns;
        all = lines.all;
        heard = lines.heard;
        may_be = lines.may_be;
        report = made.report;
        reports = made.reports;
        answered = adds first c c r r s (answers_of lines.turns) (line_text made.report) lines.answered (keeps_same (with_replies c r)) made.told;
      }

  -- memory ran out
  pub unreported : s ≡ r → AnswersFirstLines m settings ticks input before after first (with_replies c s)
  unreported same =
      record {
        turns = lines.turns;
        others = [];
        first = lines.all ∙ sym (append-nil (lines_in lines.turns));
        heard = hears_first ticks lines.turns lines.heard;
        may_be = lines.may_be;
        answered = subst (λ q. Appends first (with_replies c q) (answers_of lines.turns)) (sym same) lines.answered;
      }

-- ---- what has been written when it ends early

-- of a channel, whose answers were still to be written
module _ (m : Manner) (settings : StoreSettings) (ticks : Option (List Tick)) (is_left : m.Held → Type 0) (before after : ℕ) (first c k : Option (List ℕ)) (r : List ℕ) where
  -- a front of them is, since a write failed
  pub channel_cut : (known : Option (List ℕ)) → IfSome known (λ input. BreaksOff m settings ticks is_left input before after (Appends first (with_replies c r))) → Grows first c → AppendsFront c k r
      → IfSome known (λ input. BreaksOff m settings ticks is_left input before after (AppendsFront first k))
  channel_cut None broken grown f = tt
  channel_cut (Some input) broken grown f =
      record {
        turns = broken.turns;
        others = broken.others;
        first = broken.first;
        heard = broken.heard;
        may_be = broken.may_be;
        answered = front_held first c k r (answers_of broken.turns) grown broken.answered f;
        left = broken.left;
      }

  -- all of them are
  pub channel_written : (known : Option (List ℕ)) → IfSome known (λ input. BreaksOff m settings ticks is_left input before after (Appends first (with_replies c r))) → Grows first c → Appends c k r
      → IfSome known (λ input. BreaksOff m settings ticks is_left input before after (AppendsFront first k))
  channel_written known broken grown written = channel_cut known broken grown (front_of c k r written)

  -- all lines were answered, and a front of the answers is written
  pub channel_lost : (holds : m.Held → Type 0) (known : Option (List ℕ)) → IfSome known (λ input. AnswersLines m settings ticks holds input before after first (with_replies c r)) → Grows first c
      → AppendsFront c k r → ((held : m.Held) → holds held → is_left held) → IfSome known (λ input. BreaksOff m settings ticks is_left input before after (AppendsFront first k))
  channel_lost holds None lines grown f stays = tt
  channel_lost holds (Some input) lines grown f stays =
      record {
        turns = lines.turns;
        others = [];
        first = lines.all ∙ sym (append-nil (lines_in lines.turns));
        heard = hears_first ticks lines.turns lines.heard;
        may_be = lines.may_be;
        answered = front_held first c k r (answers_of lines.turns) grown lines.answered f;
        left = stays (held_after m.nothing lines.turns) lines.holds;
      }

-- all lines were answered, and the answers are written
pub channel_answered : (m : Manner) (settings : StoreSettings) (ticks : Option (List Tick)) (holds : m.Held → Type 0) (before after : ℕ) (first c k : Option (List ℕ)) (r : List ℕ) (known : Option (List ℕ))
    → IfSome known (λ input. AnswersLines m settings ticks holds input before after first (with_replies c r)) → Appends c k r → IfSome known (λ input. AnswersLines m settings ticks holds input before after first k)
channel_answered m settings ticks holds before after first c k r None lines written = tt
channel_answered m settings ticks holds before after first c k r (Some input) lines written =
    record {
      turns = lines.turns;
      all = lines.all;
      holds = lines.holds;
      heard = lines.heard;
      may_be = lines.may_be;
      answered = all_written first c k r (answers_of lines.turns) lines.answered written;
    }

-- nothing was answered yet
none_added : (known : Option (List ℕ)) (replies : List ℕ) → replies ≡ [] → Appends known (with_replies known replies) []
none_added None replies none = tt
none_added (Some x) replies none = ap (λ (l : List ℕ). x ++ l) none

pub channel_unread : (m : Manner) (settings : StoreSettings) (ticks : Option (List Tick)) (is_left : m.Held → Type 0) (n : ℕ) (contents : Option (List ℕ)) (replies : List ℕ) → replies ≡ [] → is_left m.nothing → (known : Option (List ℕ))
    → IfSome known (λ input. BreaksOff m settings ticks is_left input n n (Appends contents (with_replies contents replies)))
channel_unread m settings ticks is_left n contents replies none stays None = tt
channel_unread m settings ticks is_left n contents replies none stays (Some input) =
    record {
      turns = [];
      others = lines_of input;
      first = refl;
      heard = hears_none m.Held ticks;
      may_be = record { flushes = tt; causes = no_failure n };
      answered = none_added contents replies none;
      left = stays;
    }

-- a channel ends, with what was still to be written
module _ (m : Manner) (settings : StoreSettings) (ticks : Option (List Tick)) (holds is_left : m.Held → Type 0) (before after : ℕ) (first c k : Option (List ℕ)) (r : List ℕ) (known : Option (List ℕ)) (ended : Result (Unit {0}) Ending)
    (other : ended ≢ Err OutputFault) (grown : Grows first c)
    (broken : (e : Ending) → ended ≡ Err e → e ≢ OutputFault → IfSome known (λ input. BreaksOff m settings ticks is_left input before after (Appends first (with_replies c r)))) where
  -- it is not written whole
  pub channel_breaks : (b : Result (Unit {0}) Ending) → ended ≡ b → OnOk b (IfSome known (λ input. AnswersLines m settings ticks holds input before after first (with_replies c r))) → AppendsFront c k r
      → ((held : m.Held) → holds held → is_left held) → IfSome known (λ input. BreaksOff m settings ticks is_left input before after (AppendsFront first k))
  channel_breaks (Ok done) is lines f stays = channel_lost m settings ticks is_left before after first c k r holds known lines grown f stays
  channel_breaks (Err e) is lines f stays = channel_cut m settings ticks is_left before after first c k r known (broken e is (λ (same : e ≡ OutputFault). other (is ∙ ap (λ x. Err x) same))) grown f

  -- it is
  pub channel_ends : (b : Result (Unit {0}) Ending) → ended ≡ b → Appends c k r → OnErr b (IfSome known (λ input. BreaksOff m settings ticks is_left input before after (AppendsFront first k)))
  channel_ends (Ok done) is written = tt
  channel_ends (Err e) is written = channel_written m settings ticks is_left before after first c k r known (broken e is (λ (same : e ≡ OutputFault). other (is ∙ ap (λ x. Err x) same))) grown written

-- the last write failed
module _ (m : Manner) (settings : StoreSettings) (ticks : Option (List Tick)) (input : List ℕ) (before after : ℕ) (first c k : Option (List ℕ)) (r : List ℕ) (grown : Grows first c) (f : AppendsFront c k r) where
  -- of all answers and the report
  breaks_all : AnswersAll m settings ticks input before after first (with_replies c r) → AnswersFront m settings ticks input before after first k
  breaks_all a =
      record {
        turns = a.turns;
        others = [];
        first = a.all ∙ sym (append-nil (lines_in a.turns));
        heard = hears_first ticks a.turns a.heard;
        may_be = a.may_be;
        front = inr (refl, record { report = a.report; reports = a.reports; front = front_held first c k r (output_of a.turns a.report) grown a.answered f });
      }

  -- of the answers where memory had run out
  breaks_first : AnswersFirstLines m settings ticks input before after first (with_replies c r) → AnswersFront m settings ticks input before after first k
  breaks_first a =
      record {
        turns = a.turns;
        others = a.others;
        first = a.first;
        heard = a.heard;
        may_be = a.may_be;
        front = inl (front_held first c k r (answers_of a.turns) grown a.answered f);
      }

  -- of the answers where a read had failed
  breaks_read : (rest : Option (List ℕ)) → AnswersWhatWasRead m settings ticks input rest before after first (with_replies c r) → AnswersFront m settings ticks input before after first k
  breaks_read None a = absurd a.read
  breaks_read (Some rest) a =
      record {
        turns = a.turns;
        others = lines_of (a.last ++ rest);
        first = ap lines_of (a.read ∙ append_assoc (flat_map with_feed (lines_in a.turns)) a.last rest) ∙ lines_of-rest (lines_in a.turns) (a.last ++ rest) a.no_feeds;
        heard = hears_first ticks a.turns a.heard;
        may_be = a.may_be;
        front = inl (front_held first c k r (answers_of a.turns) grown a.answered f);
      }

  breaks_known : (rest : Option (List ℕ)) (ended : Result (Unit {0}) Ending) → ended ≢ Err OutputFault → IfErr ended (λ e. IsTrue (is_of_run e))
      → OnOk ended (AnswersAll m settings ticks input before after first (with_replies c r))
      → (ended ≡ Err InputFault → AnswersWhatWasRead m settings ticks input rest before after first (with_replies c r))
      → (ended ≡ Err NoMemory → AnswersFirstLines m settings ticks input before after first (with_replies c r))
      → AnswersFront m settings ticks input before after first k
  breaks_known rest (Ok done) other of_run all read memory = breaks_all all
  breaks_known rest (Err NoMemory) other of_run all read memory = breaks_first (memory refl)
  breaks_known rest (Err InputFault) other of_run all read memory = breaks_read rest (read refl)
  breaks_known rest (Err OutputFault) other of_run all read memory = absurd (other refl)
  breaks_known rest (Err NotToml) other of_run all read memory = absurd cc
  breaks_known rest (Err (UnknownSetting name)) other of_run all read memory = absurd cc
  breaks_known rest (Err (BadSetting name)) other of_run all read memory = absurd cc
  breaks_known rest (Err BadArguments) other of_run all read memory = absurd cc
  breaks_known rest (Err NoSettings) other of_run all read memory = absurd cc
  breaks_known rest (Err NoFolder) other of_run all read memory = absurd cc
  breaks_known rest (Err NoObjects) other of_run all read memory = absurd cc
  breaks_known rest (Err FolderInUse) other of_run all read memory = absurd cc
  breaks_known rest (Err MissingLog) other of_run all read memory = absurd cc
  breaks_known rest (Err (NotRecovered fault)) other of_run all read memory = absurd cc
  breaks_known rest (Err (NotServed refusal)) other of_run all read memory = absurd cc
  breaks_known rest (Err (Differs place)) other of_run all read memory = absurd cc

-- the same, of what is known of the input
pub breaks_ended : (m : Manner) (settings : StoreSettings) (ticks : Option (List Tick)) (before after : ℕ) (first c k : Option (List ℕ)) (r : List ℕ) (known rest : Option (List ℕ)) (ended : Result (Unit {0}) Ending) → Grows first c → AppendsFront c k r
    → ended ≢ Err OutputFault → IfErr ended (λ e. IsTrue (is_of_run e))
    → OnOk ended (IfSome known (λ input. AnswersAll m settings ticks input before after first (with_replies c r)))
    → (ended ≡ Err InputFault → IfSome known (λ input. AnswersWhatWasRead m settings ticks input rest before after first (with_replies c r)))
    → (ended ≡ Err NoMemory → IfSome known (λ input. AnswersFirstLines m settings ticks input before after first (with_replies c r)))
    → IfSome known (λ input. AnswersFront m settings ticks input before after first k)
breaks_ended m settings ticks before after first c k r None rest ended grown f other of_run all read memory = tt
breaks_ended m settings ticks before after first c k r (Some input) rest ended grown f other of_run all read memory =
    breaks_known m settings ticks input before after first c k r grown f rest ended other of_run all read memory

-- ---- by how it ends

-- what each ending says is what the run has written
pub has_written : {T : Type 0} (m : Manner) (settings : StoreSettings) (seen : Seen) (ended : Result T Ending)
    → OnOk ended (IfSome seen.input (λ input. AnswersAll m settings seen.ticks input seen.before seen.after seen.old seen.new))
    → (ended ≡ Err InputFault → IfSome seen.input (λ input. AnswersWhatWasRead m settings seen.ticks input seen.rest seen.before seen.after seen.old seen.new))
    → (ended ≡ Err NoMemory → IfSome seen.input (λ input. AnswersFirstLines m settings seen.ticks input seen.before seen.after seen.old seen.new))
    → (ended ≡ Err OutputFault → IfSome seen.input (λ input. AnswersFront m settings seen.ticks input seen.before seen.after seen.old seen.new))
    → IfErr ended (λ e. IsTrue (is_of_run e)) → HasWritten m settings seen ended
has_written m settings seen (Ok done) all read first front ending = all
has_written m settings seen (Err InputFault) all read first front ending = read refl
has_written m settings seen (Err NoMemory) all read first front ending = first refl
has_written m settings seen (Err OutputFault) all read first front ending = front refl
has_written m settings seen (Err NotToml) all read first front ending = absurd cc
has_written m settings seen (Err (UnknownSetting name)) all read first front ending = absurd cc
has_written m settings seen (Err (BadSetting name)) all read first front ending = absurd cc
has_written m settings seen (Err BadArguments) all read first front ending = absurd cc
has_written m settings seen (Err NoSettings) all read first front ending = absurd cc
has_written m settings seen (Err NoFolder) all read first front ending = absurd cc
has_written m settings seen (Err NoObjects) all read first front ending = absurd cc
has_written m settings seen (Err FolderInUse) all read first front ending = absurd cc
has_written m settings seen (Err MissingLog) all read first front ending = absurd cc
has_written m settings seen (Err (NotRecovered fault)) all read first front ending = absurd cc
has_written m settings seen (Err (NotServed refusal)) all read first front ending = absurd cc
has_written m settings seen (Err (Differs place)) all read first front ending = absurd cc

-- where memory ran out before anything was read, there are answers to no line
nothing_answered : (m : Manner) (settings : StoreSettings) (seen : Seen) → seen.after ≡ seen.before → seen.new ≡ seen.old
    → (known : Option (List ℕ)) → IfSome known (λ input. AnswersFirstLines m settings seen.ticks input seen.before seen.after seen.old seen.new)
nothing_answered m settings seen calm same None = tt
nothing_answered m settings seen calm same (Some input) =
    record {
      turns = [];
      others = lines_of input;
      first = refl;
      heard = hears_none m.Held seen.ticks;
      may_be = record { flushes = tt; causes = subst (λ n. HaveCause seen.before n 0) (sym calm) (no_failure seen.before) };
      answered = subst (λ w. Appends seen.old w []) (sym same) (Appends-nil seen.old);
    }

pub no_room : {T : Type 0} (m : Manner) (settings : StoreSettings) (seen : Seen) (ended : Result T Ending) (e : Ending) → ended ≡ Err e → e ≡ NoMemory
    → seen.after ≡ seen.before → seen.new ≡ seen.old → HasWritten m settings seen ended
no_room m settings seen ended e is memory calm same =
    subst (HasWritten m settings seen) (sym (is ∙ ap (λ x. Err x) memory)) (nothing_answered m settings seen calm same seen.input)

-- how it ends is one of its endings
pub ends_of_run : {T : Type 0} (m : Manner) (settings : StoreSettings) (seen : Seen) (ended : Result T Ending) → HasWritten m settings seen ended
    → IfErr ended (λ e. IsTrue (is_of_run e))
ends_of_run m settings seen (Ok done) written = tt
ends_of_run m settings seen (Err InputFault) written = refl
ends_of_run m settings seen (Err NoMemory) written = refl
ends_of_run m settings seen (Err OutputFault) written = refl
ends_of_run m settings seen (Err NotToml) written = absurd written
ends_of_run m settings seen (Err (UnknownSetting name)) written = absurd written
ends_of_run m settings seen (Err (BadSetting name)) written = absurd written
ends_of_run m settings seen (Err BadArguments) written = absurd written
ends_of_run m settings seen (Err NoSettings) written = absurd written
ends_of_run m settings seen (Err NoFolder) written = absurd written
ends_of_run m settings seen (Err NoObjects) written = absurd written
ends_of_run m settings seen (Err FolderInUse) written = absurd written
ends_of_run m settings seen (Err MissingLog) written = absurd written
ends_of_run m settings seen (Err (NotRecovered fault)) written = absurd written
ends_of_run m settings seen (Err (NotServed refusal)) written = absurd written
ends_of_run m settings seen (Err (Differs place)) written = absurd written

-- what ends neither reading nor writing ends a run before it begins
unbegun_by : (T : Type 0) {W : Type 0} (old new : W) (e : Ending) → e ≢ InputFault → e ≢ OutputFault → new ≡ old → IsUnbegun {T = T} old new (Err e)
unbegun_by T old new InputFault read written same = absurd (read refl)
unbegun_by T old new OutputFault read written same = absurd (written refl)
unbegun_by T old new NoMemory read written same = same
unbegun_by T old new NotToml read written same = same
unbegun_by T old new (UnknownSetting name) read written same = same
unbegun_by T old new (BadSetting name) read written same = same
unbegun_by T old new BadArguments read written same = same
unbegun_by T old new NoSettings read written same = same
unbegun_by T old new NoFolder read written same = same
unbegun_by T old new NoObjects read written same = same
unbegun_by T old new FolderInUse read written same = same
unbegun_by T old new MissingLog read written same = same
unbegun_by T old new (NotRecovered fault) read written same = same
unbegun_by T old new (NotServed refusal) read written same = same
unbegun_by T old new (Differs place) read written same = same

pub unbegun : {T W : Type 0} (old new : W) (ended : Result T Ending) (e : Ending) → ended ≡ Err e → e ≢ InputFault → e ≢ OutputFault → new ≡ old → IsUnbegun old new ended
unbegun {T} old new ended e is read written same = subst (IsUnbegun {T = T} old new) (sym is) (unbegun_by T old new e read written same)
