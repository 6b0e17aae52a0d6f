-- What a command does, from what it is made of.
use Rattle.std.proofs.Common.{◌≡◌, ◌≢◌, ℕ, ◌≤◌, List, [], ◌∷◌, ◌++◌, ap, arith, length, refl, subst, sym, Result, Ok, Err, None}
use Rattle.std.specs.Prelude.{IfOk, IsErr}
use Rattle.std.specs.declared.alloc.AllocError.{AllocError}
use Rattle.serde_json.specs.Data.{Data}
use Rattle.ing_labels.specs.TextFaults.{IsSelectorFault, text_fault_place, text_refusal_of}
use Rattle.ing_labels.specs.declared.text_fault.TextFault.{TextFault}
use Rattle.ing_labels.specs.declared.text_fault.TextFault.TheVariants as texts
use Rattle.ing_limits.specs.Ranges.{rules_for}
use Rattle.ing_limits.specs.Settings.{StoreSettings}
use Rattle.ing_query.specs.Fetched.{Counts, NotBad}
use Rattle.ing_query.specs.declared.fault.QueryFault.{QueryFault}
use Rattle.ing_query.specs.declared.fault.QueryFault.TheVariants.{NoMemory, StoreFault, BadObject}
use Rattle.ing_query.specs.QueryFaults.{query_refusal_of}
use Rattle.ing_commands.specs.Commands.{Command, Flush, Query}
use Rattle.ing_commands.specs.FlushCommands.{FlushCommand}
use Rattle.ing_commands.specs.PushCommands.{PushCommand}
use Rattle.ing_commands.specs.QueryCommands.{QueryCommand}
use Rattle.ing_durable.specs.Op.{Op}
use Rattle.ing_session.specs.declared.reply.Reply.{Reply}
use Rattle.ing_session.specs.Causes.{HaveCause}
use Rattle.ing_session.specs.Replies.{fault_data, flush_data, push_data}
use Rattle.ing_session.specs.Runs.{IsObeyed, ObeysEach}
use Rattle.ing_session.specs.Views.{reply_data}
use Rattle.ing_session.proofs.CausesLaws.{no_failure, one_failure, same_count}
use Rattle.ing_session.proofs.ObeyLaws.{obeyed}
use Rattle.ing_service.specs.ByShards.{BeginsFlush, Flushes, ObeysCommand, Pushes, Queries, by_shards, query_reply, reports_of, rows_of, shard_report}
use Rattle.ing_service.specs.Flushes.{IsFlushed}
use Rattle.ing_service.specs.Drafts.{PushesEach}
use Rattle.ing_service.specs.Held.{Begun, Held, ShardHeld, held_in}
use Rattle.ing_service.specs.Queries.{Answer, Refused, Failed, Damaged, QueryMayBe, failed_of}
use Rattle.ing_session.specs.Selecting.{Reads, page_of}

module _ (honest : Type 0) (begun : Begun) (settings : StoreSettings) (old new : Held) where
  -- what works nothing off and asks no store, from what is held
  pub obeys : (command : Command) (n : ℕ) (reply : Data) → ObeysCommand honest begun.logged settings old new 0 reply command → (held : Held) → held ≡ old
      → IsObeyed (by_shards honest begun) settings (Ok command) held (λ left. left ≡ new) n n reply
  obeys command n reply does held is =
      subst (λ h. IsObeyed (by_shards honest begun) settings (Ok command) h (λ left. left ≡ new) n n reply) (sym is)
      (obeyed (by_shards honest begun) settings old new (λ left. left ≡ new) (Ok command) n reply refl does)

  -- a flush
  pub obeys_flush : (flush : FlushCommand) (sealed : ℕ) (mid : Held) (before after failed stored : ℕ) → BeginsFlush settings flush.forced sealed old mid
      → IsFlushed begun.logged settings mid.ops mid.shards new.shards before after failed stored → new.ops ≡ []
      → IsObeyed (by_shards honest begun) settings (Ok (Flush flush)) old (λ left. left ≡ new) before after (flush_data failed sealed stored)
  obeys_flush flush sealed mid before after failed stored begins worked none =
      record {
        failed = failed;
        left = new;
        obeys = Flushes (record {
          sealed = sealed;
          mid = mid;
          begins = begins;
          settled = worked.settled;
          works = worked.works;
          ops = none;
          told = rw (worked.failures, worked.successes) refl;
          failures = worked.failures;
        });
        causes = worked.causes;
        holds = refl;
      }

-- pushes, one after another
pub obeys_each : (honest : Type 0) (begun : Begun) (settings : StoreSettings) (ops : List Op) (pushes : List PushCommand) (olds news : List ShardHeld) (replies : List Data)
    → PushesEach (rules_for settings) pushes olds news replies → ObeysEach (by_shards honest begun) settings pushes (held_in olds ops) (held_in news ops) replies
obeys_each honest begun settings ops [] olds news replies each = (ap (λ shards. held_in shards ops) each.0, each.1)
obeys_each honest begun settings ops (p ∷ ps) olds news replies each = (
  held_in each.0 ops,
  push_data each.1,
  each.2,
  Pushes (record { replies = each.1; pushes = each.3; ops = refl; told = refl; failures = refl }),
  obeys_each honest begun settings ops ps each.0 news each.2 each.4,
  each.5,
)

-- a query
module _ (honest : Type 0) (begun : Begun) (settings : StoreSettings) (query : QueryCommand) (held : Held) where
  -- it came to this
  pub obeys_query : (answer : Answer) (before after : ℕ) (reply : Data) → QueryMayBe honest query answer (rows_of held.shards)
      → reply ≡ query_reply (page_of query) answer held.shards → HaveCause before after (failed_of answer)
      → IsObeyed (by_shards honest begun) settings (Ok (Query query)) held (λ left. left ≡ held) before after reply
  obeys_query answer before after reply may_be told causes =
      record {
        failed = failed_of answer;
        left = held;
        obeys = Queries (record { answer = answer; may_be = may_be; told = told; left = refl; failures = refl });
        causes = causes;
        holds = refl;
      }

  -- its text is refused
  pub refused : (n : ℕ) (fault : TextFault) (r : Result Reply AllocError) → IsSelectorFault query.text fault → (fault ≡ texts.NoMemory → IsErr r)
      → IfOk r (λ reply. reply_data reply ≡ fault_data (text_refusal_of fault) (text_fault_place fault))
      → IfOk r (λ reply. IsObeyed (by_shards honest begun) settings (Ok (Query query)) held (λ left. left ≡ held) n n (reply_data reply))
  refused n fault (Err e) is memory told = tt
  refused n fault (Ok reply) is memory told =
      let other : fault ≢ texts.NoMemory = λ none. (let no = memory none in absurd cc) in
      obeys_query (Refused fault) n n (reply_data reply) (is, other) told (no_failure n)

  -- the store does not let it be answered
  pub not_answered : (before after : ℕ) (fault : QueryFault) (r : Result Reply AllocError) → Reads query.text → (honest → NotBad fault) → Counts before after fault
      → (fault ≡ NoMemory → IsErr r) → IfOk r (λ reply. reply_data reply ≡ fault_data (query_refusal_of fault) None)
      → IfOk r (λ reply. IsObeyed (by_shards honest begun) settings (Ok (Query query)) held (λ left. left ≡ held) before after (reply_data reply))
  not_answered before after fault (Err e) reads good counted memory told = tt
  not_answered before after NoMemory (Ok reply) reads good counted memory told = let no = memory refl in absurd cc
  not_answered before after (StoreFault key) (Ok reply) reads good counted memory told =
      obeys_query Failed before after (reply_data reply) reads told (one_failure before after counted.0 counted.1)
  not_answered before after (BadObject key) (Ok reply) reads good counted memory told =
      obeys_query Damaged before after (reply_data reply) (reads, good) told (same_count before after counted)

-- a fault of a query lets the count of failures not fall
pub risen : (before after : ℕ) (fault : QueryFault) → Counts before after fault → before ≤ after
risen before after NoMemory counted = omega (arith, counted)
risen before after (StoreFault key) counted = counted.0
risen before after (BadObject key) counted = omega (arith, counted)

-- one report more
pub reports_more : (recovered : List ℕ) (shards : List ShardHeld) (count : ℕ) (shard : ShardHeld) → length recovered ≡ length shards
    → reports_of (recovered ++ count ∷ []) (shards ++ shard ∷ []) ≡ reports_of recovered shards ++ shard_report count shard.state ∷ []
reports_more [] [] count shard same = refl
reports_more (n ∷ ns) (h ∷ hs) count shard same = ap (λ l. shard_report n h.state ∷ l) (reports_more ns hs count shard (omega (arith, same)))
reports_more [] (h ∷ hs) count shard same = absurd (omega (arith, same))
reports_more (n ∷ ns) [] count shard same = absurd (omega (arith, same))
