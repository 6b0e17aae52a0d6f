-- What is asked of a function that flushes. It stands beside a service, since it may start threads, which a method of a trait may not.
use Rattle.std.specs.Prelude.{◌≡◌, Bool, true, false, IfOk, Ok, Result, ℕ}
use Rattle.std.specs.Borrow.{MutBor}
use Rattle.ing_limits.specs.Settings.{StoreSettings}
use Rattle.ing_commands.specs.Commands.{Command, Flush}
use Rattle.ing_commands.specs.Views.{flush_view}
use Rattle.ing_commands.specs.declared.flush.Flush as code
use Rattle.ing_session.specs.declared.reply.Reply.{Reply}
use Rattle.ing_session.specs.Causes.{GoesOn}
use Rattle.ing_session.specs.Manners.{Manner}
use Rattle.ing_session.specs.Runs.{IsObeyed}
use Rattle.ing_session.specs.Views.{reply_data}

abbrev pub is_flush : Command → Bool
is_flush (Flush flush) = true
is_flush _ = false

-- a flush that leaves this behind, with this result, is obeyed
pub record ObeysFlush {C S E : Type 0} (m : Manner) (holds leaves : C → m.Held → Type 0) (settings_of : C → StoreSettings) (failures : S → ℕ) (never_fails : S → Type 0)
    (flush : code.Flush) (old new : C) (before after : S) (result : Result Reply E) : Type 0 where
  pub obeyed : IfOk result (λ reply. (held : m.Held) → holds old held →
      IsObeyed m (settings_of old) (Ok (Flush (flush_view flush))) held (holds new) (failures before) (failures after) (reply_data reply))
  pub left : (held : m.Held) → holds old held → leaves new held
  pub settings : settings_of new ≡ settings_of old
  pub end : GoesOn never_fails failures before after

-- each call of a function, of which this is what it may do, obeys its flush
abbrev pub FlushesSo : {C S E : Type 0} → (m : Manner) → (C → m.Held → Type 0) → (C → m.Held → Type 0) → (C → StoreSettings) → (S → ℕ) → (S → Type 0)
    → (MutBor C → MutBor S → code.Flush → Result Reply E → MutBor C → MutBor S → Type 0) → Type 0
FlushesSo {C} {S} {E} m holds leaves settings_of failures never_fails may_do =
    (service : MutBor C) (end : MutBor S) (flush : code.Flush) (result : Result Reply E) (left : MutBor C) (end_left : MutBor S) →
    may_do service end flush result left end_left →
    ObeysFlush m holds leaves settings_of failures never_fails flush service.now left.now end.now end_left.now result
