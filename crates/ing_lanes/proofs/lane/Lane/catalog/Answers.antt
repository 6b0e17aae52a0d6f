use Rattle.std.proofs.Common.{◌≡◌, ◌≢◌, List, [], ℕ, Result, Ok, Err, Some, ap, refl, subst, sym}
use Rattle.std.specs.Prelude.{IfOk, IsErr}
use Rattle.std.specs.Option.{option_map}
use Rattle.std.specs.declared.alloc.AllocError.{AllocError}
use Rattle.ing_labels.specs.TextFaults.{IsSelectorFault, text_fault_place, text_refusal_of}
use Rattle.ing_labels.specs.declared.text_fault.TextFault.{TextFault}
use Rattle.ing_labels.specs.declared.text_fault.TextFault.TheVariants.{NoMemory}
use Rattle.ing_limits.specs.Settings.{StoreSettings}
use Rattle.ing_commands.specs.CatalogCommands.{CatalogCommand}
use Rattle.ing_commands.specs.Views.{catalog_view}
use Rattle.ing_session.specs.declared.reply.Reply.{Reply}
use Rattle.ing_session.specs.Replies.{fault_data}
use Rattle.ing_session.specs.Selecting.{AsksBy, IsTextRefused}
use Rattle.ing_session.specs.Views.{reply_data}
use Rattle.ing_lanes.specs.ByLane.{ListsSo, NoSelector, Stays, Told, told_by}
use Rattle.ing_lanes.proofs.lane.Lane.catalog.Goals as goal

-- its text is refused
refused : (settings : StoreSettings) (question : CatalogCommand) (known : Told) (text : List ℕ) (fault : TextFault) (r : Result Reply AllocError)
    → question.text ≡ Some text → IsSelectorFault text fault → (fault ≡ NoMemory → IsErr r)
    → IfOk r (λ reply. reply_data reply ≡ fault_data (text_refusal_of fault) (text_fault_place fault))
    → IfOk r (λ reply. (told : Told) → Stays known told → ListsSo settings question told (reply_data reply))
refused settings question known text fault (Err e) at is memory told = tt
refused settings question known text fault (Ok reply) at is memory made = λ told same.
    let other : fault ≢ NoMemory = λ none. (let no = memory none in absurd cc) in
    record { listing = NoSelector fault; may_be = subst (λ t. IsTextRefused t fault) (sym at) (is, other); told = made }

pub returns-in-Ok-clause-came : goal.returns-in-Ok-clause-came
returns-in-Ok-clause-came g c =
    c.list-in-Ok.ensures.came (subst (λ text. AsksBy text c.in-Ok.selector) (sym (ap (option_map (λ text. text.now)) c.in-Some.is)) (c.in-Ok.ensures.selector, c.in-Ok.ensures.narrow))

pub returns-in-Err-clause-came : goal.returns-in-Err-clause-came
returns-in-Err-clause-came g c =
    refused g.N.NodeName.settings (catalog_view c.args.catalog.now) (told_by c.args.self.now.pusher) c.in-Some.text.now c.in-Err.fault
    c.selector_fault.result (ap (option_map (λ text. text.now)) c.in-Some.is) c.in-Err.ensures.fault c.selector_fault.ensures.memory c.selector_fault.ensures.reply

pub returns-in_default-clause-came : goal.returns-in_default-clause-came
returns-in_default-clause-came g c = c.list.ensures.came (subst (λ text. AsksBy text []) (sym (ap (option_map (λ text. text.now)) c.in_default.is)) refl)
