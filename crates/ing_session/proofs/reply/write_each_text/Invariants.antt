use Rattle.std.proofs.Common.{◌≡◌, ◌++◌, map, take}
use Rattle.ing_session.specs.Views.{text_data}
use Rattle.ing_session.specs.Written.{tokens_of_each}
use Rattle.ing_session.proofs.reply.write_each_text.Given as goal

-- the tokens of the texts so far are added
abbrev pub invariant-loop-text : goal.invariant-loop-text
invariant-loop-text l =
    record {
      tokens : l.out.tokens ≡ l.initial.out.tokens ++ tokens_of_each (map text_data (take l.text-index l.texts));
      before : l.out.before ≡ l.initial.out.before;
    }
