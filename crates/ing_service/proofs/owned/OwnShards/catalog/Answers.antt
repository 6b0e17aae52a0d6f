use Rattle.std.proofs.Common.{◌≡◌, ◌≢◌, List, [], ℕ, Result, Ok, Err, Some, ap, map, refl, subst, sym}
use Rattle.std.specs.Prelude.{IfOk, IsErr}
use Rattle.std.specs.Option.{option_map}
use Rattle.std.specs.declared.alloc.AllocError.{AllocError}
use Rattle.ing_labels.specs.TextFaults.{IsSelectorFault, text_fault_place, text_refusal_of}
use Rattle.ing_labels.specs.declared.text_fault.TextFault.{TextFault}
use Rattle.ing_labels.specs.declared.text_fault.TextFault.TheVariants.{NoMemory}
use Rattle.ing_commands.specs.CatalogCommands.{CatalogCommand}
use Rattle.ing_commands.specs.Views.{catalog_view}
use Rattle.ing_session.specs.declared.reply.Reply.{Reply}
use Rattle.ing_session.specs.Replies.{fault_data}
use Rattle.ing_session.specs.Selecting.{AsksBy, IsTextRefused}
use Rattle.ing_session.specs.Views.{reply_data}
use Rattle.ing_service.specs.ByShards.{ObeysCatalog}
use Rattle.ing_service.specs.Catalogs.{NoSelector}
use Rattle.ing_service.specs.Held.{Held, held_in, shard_held}
use Rattle.ing_service.proofs.owned.OwnShards.catalog.Goals as goal

-- its text is refused
refused : (question : CatalogCommand) (held : Held) (text : List ℕ) (fault : TextFault) (r : Result Reply AllocError) → question.text ≡ Some text
    → IsSelectorFault text fault → (fault ≡ NoMemory → IsErr r)
    → IfOk r (λ reply. reply_data reply ≡ fault_data (text_refusal_of fault) (text_fault_place fault))
    → IfOk r (λ reply. ObeysCatalog question held held 0 (reply_data reply))
refused question held text fault (Err e) at is memory told = tt
refused question held text fault (Ok reply) at is memory told =
    let other : fault ≢ NoMemory = λ none. (let no = memory none in absurd cc) in
    record {
      listing = NoSelector fault;
      may_be = subst (λ t. IsTextRefused t fault) (sym at) (is, other);
      told = told;
      left = refl;
      failures = refl;
    }

pub returns-in-Ok : goal.returns-in-Ok
returns-in-Ok g c =
    c.list-in-Ok.ensures (subst (λ text. AsksBy text c.in-Ok.selector) (sym (ap (option_map (λ text. text.now)) c.in-Some.is)) (c.in-Ok.ensures.selector, c.in-Ok.ensures.narrow))

pub returns-in-Err : goal.returns-in-Err
returns-in-Err g c =
    let own = c.args.self.now in
    refused (catalog_view c.args.catalog.now) (held_in (map (λ seat. shard_held seat.shard) own.seats.items) own.ops.items) c.in-Some.text.now c.in-Err.fault
    c.selector_fault.result (ap (option_map (λ text. text.now)) c.in-Some.is) c.in-Err.ensures.fault c.selector_fault.ensures.memory c.selector_fault.ensures.reply

pub returns-in_default : goal.returns-in_default
returns-in_default g c = c.list.ensures (subst (λ text. AsksBy text []) (sym (ap (option_map (λ text. text.now)) c.in_default.is)) refl)
