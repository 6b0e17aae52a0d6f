-- Pushes that lines at hand command, and what is answered to these lines.
use Rattle.std.proofs.Common.{◌≡◌, ℕ, ◌+◌, ◌-◌, List, [], ◌∷◌, ◌++◌, length, drop, refl, sym, subst, ap, ◌∙◌, arith}
use Rattle.std.specs.List.{AllByRecursion, flat_map}
use Rattle.std.proofs.lemmas.List.{drop_at, length-append}
use Rattle.std.proofs.lemmas.List.Sums.{sum_by-cons}
use Rattle.ing_limits.specs.Settings.{StoreSettings}
use Rattle.serde_json.specs.Data.{Data}
use Rattle.ing_commands.specs.Commands.{Push}
use Rattle.ing_commands.specs.PushCommands.{PushCommand}
use Rattle.ing_session.specs.Lines.{with_feed}
use Rattle.ing_session.specs.Manners.{Manner, Obeys, Turn, turn, MayBe, MayBeFrom, answers_of, failed_in, held_after, lines_in, ticks_in}
use Rattle.ing_session.specs.Parts.{HasNoFeed}
use Rattle.ing_session.specs.PushLines.{SaysPush, TakesPushes}
use Rattle.ing_session.specs.Replies.{line_text}
use Rattle.ing_session.specs.Runs.{AnswersAhead, ObeysEach, PushesLines, lines_text}
use Rattle.ing_session.proofs.CausesLaws.{no_failure}
use Rattle.ing_session.proofs.RunsLaws.{feeds_of}

-- each line says its push
abbrev AllSay : List (List ℕ) → List PushCommand → Type 0
AllSay [] [] = Unit {0}
AllSay (line ∷ lines) (push ∷ pushes) = SaysPush line push × AllSay lines pushes
AllSay [] (push ∷ pushes) = ⊥
AllSay (line ∷ lines) [] = ⊥

-- the lines that were taken
record Taken (bytes rest : List ℕ) (pushes : List PushCommand) : Type 0 where
  lines : List (List ℕ)
  no_feeds : AllByRecursion HasNoFeed lines
  front : bytes ≡ flat_map with_feed lines ++ rest
  say : AllSay lines pushes

taken : (pushes : List PushCommand) (bytes rest : List ℕ) → TakesPushes bytes rest pushes → Taken bytes rest pushes
taken [] bytes rest takes = record { lines = []; no_feeds = tt; front = sym takes; say = tt }
taken (p ∷ ps) bytes rest takes =
    let this = takes.1 in
    let others = taken ps takes.0 rest takes.2 in
    record {
      lines = this.line ∷ others.lines;
      no_feeds = (this.no_feed, others.no_feeds);
      front = this.front ∙ ap (λ (l : List ℕ). this.line ++ 10 ∷ l) others.front ∙ feeds_of this.line others.lines rest;
      say = (this.says, others.say);
    }

-- what is answered to them
record AreAnswered (m : Manner) (settings : StoreSettings) (lines : List (List ℕ)) (old left : m.Held) (replies : List Data) : Type 0 where
  turns : List (Turn m.Held)
  are : lines_in turns ≡ lines
  quiet : ticks_in turns ≡ []
  may_be : MayBeFrom m settings old turns
  told : answers_of turns ≡ lines_text replies
  none : failed_in turns ≡ 0
  leave : held_after old turns ≡ left

module _ (m : Manner) (settings : StoreSettings) where
  says_so : (line : List ℕ) (push : PushCommand) (old mid : m.Held) (reply : Data) → SaysPush line push → m.obeys settings old mid 0 reply (Push push) → MayBe m settings (turn line (line_text reply) 0 mid) old
  says_so line push old mid reply says obeys =
      rw (says.short, says.filled) (record { reply = reply; obeys = subst (Obeys m settings old mid 0 reply) (sym says.said) obeys; written = refl })

  answered : (lines : List (List ℕ)) (pushes : List PushCommand) (old left : m.Held) (replies : List Data) → AllSay lines pushes → ObeysEach m settings pushes old left replies
      → AreAnswered m settings lines old left replies
  answered [] [] old left replies say obeys =
      record { turns = []; are = refl; quiet = refl; may_be = tt; told = sym (ap lines_text obeys.1); none = refl; leave = sym obeys.0 }
  answered [] (p ∷ ps) old left replies say obeys = absurd say
  answered (l ∷ ls) [] old left replies say obeys = absurd say
  answered (l ∷ ls) (p ∷ ps) old left replies say obeys =
      let t = turn l (line_text obeys.1) 0 obeys.0 in
      let others = answered ls ps obeys.0 left obeys.2 say.1 obeys.4 in
      let more : failed_in (t ∷ others.turns) ≡ 0 + failed_in others.turns = sum_by-cons (λ (u : Turn m.Held). u.failed) t others.turns in
      record {
        turns = t ∷ others.turns;
        are = ap (λ (lines : List (List ℕ)). l ∷ lines) others.are;
        quiet = others.quiet;
        may_be = (says_so l p old obeys.0 obeys.1 say.0 obeys.3, others.may_be);
        told = ap (λ (text : List ℕ). line_text obeys.1 ++ text) others.told ∙ sym (ap lines_text obeys.5);
        none = omega (arith, more, others.none);
        leave = others.leave;
      }

  -- a line that commands a push, and those behind it
  pub pushed_lines : (line : List ℕ) (push : PushCommand) (ahead rest : List ℕ) (count : ℕ) (old : m.Held) (holds : m.Held → Type 0) (n : ℕ) (replies : List Data) (q s : List ℕ)
      → SaysPush line push → PushesLines m settings push ahead rest old holds replies → count ≡ length ahead - length rest → s ≡ q ++ lines_text replies
      → AnswersAhead m settings line ahead count old holds n n q s
  pushed_lines line push ahead rest count old holds n replies q s says pushes many told =
      let lines = taken pushes.others ahead rest pushes.taken in
      let turns = answered (line ∷ lines.lines) (push ∷ pushes.others) old pushes.left replies (says, lines.say) pushes.obeys in
      let long : length ahead ≡ length (flat_map with_feed lines.lines) + length rest = ap length lines.front ∙ length-append (flat_map with_feed lines.lines) rest in
      let here : length (flat_map with_feed lines.lines) ≡ count = omega (arith, long, many) in
      let behind : drop count ahead ≡ rest = ap (drop count) lines.front ∙ drop_at (flat_map with_feed lines.lines) rest count here in
      record {
        turns = turns.turns;
        others = lines.lines;
        lines = turns.are;
        quiet = turns.quiet;
        no_feeds = lines.no_feeds;
        front = lines.front ∙ ap (λ (l : List ℕ). flat_map with_feed lines.lines ++ l) (sym behind);
        may_be = turns.may_be;
        told = told ∙ ap (λ (text : List ℕ). q ++ text) (sym turns.told);
        causes = rw turns.none (no_failure n);
        holds = subst holds (sym turns.leave) pushes.holds;
      }
