-- What a command does, from what it is made of.
use Rattle.std.proofs.Common.{◌≡◌, ◌≢◌, ℕ, true, false, List, [], ◌++◌, append-nil, refl, subst, sym, ◌∙◌, Result, Ok, Err}
use Rattle.std.specs.Prelude.{IfOk, IsErr}
use Rattle.std.specs.declared.alloc.AllocError.{AllocError}
use Rattle.serde_json.specs.Data.{Data}
use Rattle.ing_limits.specs.Settings.{StoreSettings}
use Rattle.ing_commands.specs.declared.fault.LineFault.{LineFault}
use Rattle.ing_commands.specs.declared.fault.LineFault.TheVariants.{NoMemory}
use Rattle.ing_session.specs.declared.reply.Reply.{Reply}
use Rattle.ing_commands.specs.Commands.{Command, command_of}
use Rattle.ing_session.specs.Replies.{line_text}
use Rattle.ing_session.specs.Manners.{Manner, Obeys, is_blank, is_long, line_fault}
use Rattle.ing_session.specs.Runs.{Answers, IsObeyed}
use Rattle.ing_session.specs.Views.{reply_data}
use Rattle.ing_session.proofs.CausesLaws.{no_failure}

-- what works nothing off and asks no store
pub obeyed : (m : Manner) (settings : StoreSettings) (old left : m.Held) (now_holds : m.Held → Type 0) (said : Result Command LineFault) (n : ℕ) (reply : Data) → now_holds left → Obeys m settings old left 0 reply said
    → IsObeyed m settings said old now_holds n n reply
obeyed m settings old left now_holds said n reply holds obeys = record { failed = 0; left = left; obeys = obeys; causes = no_failure n; holds = holds }

-- what is replied to a fault that is no want of memory
pub obeys_fault : (m : Manner) (settings : StoreSettings) (now_holds : m.Held → Type 0) (said : Result Command LineFault) (n : ℕ) (fault : LineFault) (r : Result Reply AllocError)
    → (fault ≡ NoMemory → IsErr r) → (fault ≢ NoMemory → said ≡ Err fault) → IfOk r (λ reply. reply_data reply ≡ line_fault fault)
    → IfOk r (λ reply. (old : m.Held) → now_holds old → IsObeyed m settings said old now_holds n n (reply_data reply))
obeys_fault m settings now_holds said n fault (Err e) memory refused told = tt
obeys_fault m settings now_holds said n fault (Ok reply) memory refused told = λ old is_held.
    subst (λ s. IsObeyed m settings s old now_holds n n (reply_data reply)) (sym (refused (λ is. (let no = memory is in absurd cc))))
    (obeyed m settings old old now_holds (Err fault) n (reply_data reply) is_held (record { told = told; left = refl; failures = refl }))

-- a line, by what it says
module _ (m : Manner) (settings : StoreSettings) (line : List ℕ) (old : m.Held) (now_holds : m.Held → Type 0) (q s : List ℕ) (short : is_long line ≡ false) where
  pub answers_blank : (n : ℕ) → is_blank line ≡ true → s ≡ q → now_holds old → Answers m settings line old now_holds n n q s
  answers_blank n blank same holds =
      record {
        answer = [];
        failed = 0;
        left = old;
        may_be = rw (short, blank) (record { written = refl; left = refl; failures = refl });
        told = same ∙ sym (append-nil q);
        causes = no_failure n;
        holds = holds;
      }

  pub answers : (before after : ℕ) (reply : Data) → is_blank line ≡ false → s ≡ q ++ line_text reply → IsObeyed m settings (command_of line) old now_holds before after reply
      → Answers m settings line old now_holds before after q s
  answers before after reply said told obeyed =
      record {
        answer = line_text reply;
        failed = obeyed.failed;
        left = obeyed.left;
        may_be = rw (short, said) (record { reply = reply; obeys = obeyed.obeys; written = refl });
        told = told;
        causes = obeyed.causes;
        holds = obeyed.holds;
      }
