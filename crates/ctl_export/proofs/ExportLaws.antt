-- What was written of a stream that was read.
use Rattle.std.proofs.Common.{◌≡◌, ℕ, List, Option, Some, Result, Ok, Err, sym, subst}
use Rattle.std.specs.Prelude.{OnOk}
use Rattle.ing_chunk.specs.declared.numbered.Numbered.{Numbered}
use Rattle.ing_limits.specs.Ranges.{rules_for}
use Rattle.ing_limits.specs.Settings.{StoreSettings}
use Rattle.ing_rows.specs.Rows.{Row, StreamKey}
use Rattle.ctl_export.specs.Exports.{ExportsOf, Writes}
use Rattle.ctl_export.specs.Reads.{AreInOrder, AreOf}

module _ {X E : Type 0} (honest : Type 0) (settings : StoreSettings) (s : StreamKey) (rows : List Row) (entries : List Numbered) (before after : Option (List ℕ)) where
  pub exports : (r : Result X E) (o : Option StreamKey) (most : ℕ) → o ≡ Some s → most ≡ (rules_for settings s.tenant).max_entries_per_push
      → (honest → AreOf s rows entries) → AreInOrder entries
      → OnOk r (Writes most s entries before after) → OnOk r (ExportsOf honest settings o rows before after)
  exports (Err e) o most is same are in_order writes = tt
  exports (Ok x) o most is same are in_order writes =
      subst (λ (k : Option StreamKey). ExportsOf honest settings k rows before after) (sym is)
      (record { entries = entries; are = are; in_order = in_order; writes = subst (λ n. Writes n s entries before after) same writes })
