-- Commands of a load.
use Rattle.std.proofs.Common.{◌≡◌, ℕ, ◌<◌, true, List, [], ◌∷◌, length, Result, Ok, Err, ap, arith}
use Rattle.std.specs.Prelude.{IfOk, OnOk}
use Rattle.std.specs.List.{list_all}
use Rattle.serde_json.specs.Written.{compact_text}
use Rattle.ing_rows.specs.declared.entry.Entry.{Entry}
use Rattle.ctl_feed.specs.Loads.{IsCommand, IsLoad, sizes_of}
use Rattle.ctl_feed.specs.Pushes.{Says, is_stamp, push_data, push_of}
use Rattle.ctl_feed.proofs.SizeLaws.{command_short, values_within}

module _ {X E : Type 0} (items : X → List ℕ) (tenant : List ℕ) (now : ℕ) (labels : List (List ℕ × List ℕ)) (size : ℕ) (entries : List Entry) where
  -- the line of the entries is a command
  pub waiting_said : (r : Result X E) → 0 < length entries → IsLoad tenant now labels size entries → IfOk r (λ line. Says (items line) (push_of tenant now labels entries)) → OnOk r (list_all is_stamp entries ≡ true)
      → IfOk r (λ line. items line ≡ compact_text (push_data tenant now labels entries)) → IfOk r (λ line. IsCommand (items line) tenant now labels entries)
  waiting_said (Err e) some load says stamps text = tt
  waiting_said (Ok line) some load says stamps text = record {
    says = says;
    some = some;
    few = load.few;
    small = omega (arith, load.size_is, load.small);
    encoded = omega (arith, load.size_is, load.small, values_within entries stamps);
    short = omega (arith, ap length text, command_short tenant now labels entries stamps, load.size_is, load.small, load.head);
  }

-- entries that take some room are some
pub some_wait : (size : ℕ) (entries : List Entry) → size ≡ sizes_of entries → 0 < size → 0 < length entries
some_wait size [] is some = absurd (omega arith)
some_wait size (entry ∷ entries) is some = omega arith
