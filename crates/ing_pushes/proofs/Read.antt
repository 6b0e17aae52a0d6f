-- What objects of a push are read as.
use Rattle.std.proofs.Common.{◌≡◌, ◌≤◌, ◌<◌, ℕ, List, [], ◌∷◌, length, get_or, codes, true, IfSome, Option, Some, None, Ok, Err, if◌then◌else◌, refl, ap, ◌∙◌, arith}
use Rattle.std.specs.Option.{ok_or, option_and_then}
use Rattle.std.specs.Str.{is_utf8}
use Rattle.json.specs.Json as json
use Rattle.json.specs.Lex.{tokens}
use Rattle.json.specs.Value.{items_of}
use Rattle.serde_json.specs.Read.{of_json, read}
use Rattle.ing_refusals.specs.Results.{◌>>=◌}
use Rattle.ing_rows.specs.Texts.{is_tenant, stamp_of}
use Rattle.ing_rows.specs.declared.entry.Entry.{Entry}
use Rattle.ing_commands.specs.declared.fault.LineFault.TheVariants.{BadCommand}
use Rattle.ing_commands.specs.Commands.{Push, said_by, command_of}
use Rattle.ing_commands.specs.PushCommands.{StreamEntries, PushCommand, raw_stream, raw_push}
use Rattle.ing_pushes.specs.Usual.{AreLabels, HasParts, HasStream, IsStream, IsPush, push_said, stream_said}
use Rattle.ing_pushes.proofs.Entries.{EntriesRead, StreamsRead}

-- the two values of a list of two
pub two : {A : Type 0} (xs : List A) (a b : A) → 2 ≤ length xs → length xs < 3 → a ≡ get_or xs 0 a → b ≡ get_or xs 1 b → xs ≡ a ∷ b ∷ []
two [] a b some few first second = absurd (omega arith)
two (x ∷ []) a b some few first second = absurd (omega arith)
two (x ∷ y ∷ []) a b some few first second = rw (first, second) refl
two (x ∷ y ∷ z ∷ xs) a b some few first second = absurd (omega arith)

-- a stream, by its two members
pub stream_read : (ms named : json.Members) (js : List json.Json) (labels : List (List ℕ × List ℕ)) (es : List Entry) → HasStream ms named (items_of js) → AreLabels named labels → EntriesRead js es → IsStream (json.object ms) (record { labels = labels; entries = es })
unfolding raw_stream
stream_read ms named js labels es parts of_labels timed = record {
  said = stream_said of_labels.said timed.said;
  raw = record { labels = labels; values = timed.raws };
  read = parts of_labels.said timed.said of_labels.read timed.read;
  shape = rw (of_labels.shape, timed.shape) refl;
  bare = timed.bare;
  timed = timed.timed;
  stream = rw timed.entries refl;
}

-- a push, by its four members
pub push_read : (ms : json.Members) (cmd tenant text : List ℕ) (now : ℕ) (js : List json.Json) (ss : List StreamEntries) → HasParts ms cmd tenant text (items_of js) → cmd ≡ codes "push" → is_tenant tenant ≡ true → stamp_of text ≡ Some now → StreamsRead js ss → IsPush (json.object ms) (record { tenant = tenant; now = now; streams = ss })
unfolding said_by raw_push
push_read ms cmd tenant text now js ss parts push named timed streams = record {
  said = push_said cmd tenant text streams.said;
  read = parts streams.said streams.read;
  command = rw (push, streams.shape, streams.bare, named, timed, streams.timed, streams.streams) refl;
}

-- a line that is read so commands the push
pub commanded : (line : List ℕ) (j : json.Json) (push : PushCommand) → is_utf8 line ≡ true → option_and_then (λ p. json.if_last p.0 p.1) (json.value 127 (tokens line)) ≡ Some j → IsPush j push → command_of line ≡ Ok (Push push)
commanded line j push utf8 value is =
    ap (λ b. (if b then ok_or (read line) BadCommand else Err BadCommand) >>= said_by) utf8
    ∙ ap (λ o. ok_or o BadCommand >>= said_by) (ap (option_and_then of_json) value ∙ is.read)
    ∙ is.command

-- what holds of a value that is there
pub some_weaker : {A : Type 0} (P Q : A → Type 0) (o : Option A) → ((x : A) → P x → Q x) → IfSome o P → IfSome o Q
some_weaker P Q None f h = tt
some_weaker P Q (Some x) f h = f x h
