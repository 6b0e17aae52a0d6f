-- Records of pushes that wait behind a log.
use Rattle.std.proofs.Common.{◌≡◌, ◌∙◌, true, false, true≢false, List, [], ◌∷◌, ◌++◌, refl, sym, Option, Some, None}
use Rattle.std.specs.Prelude.{is_some}
use Rattle.ing_rows.specs.Rows.{State}
use Rattle.ing_wal.specs.Logs.{LogState}
use Rattle.ing_begun.specs.Kept.{DurableContents, whose}
use Rattle.ing_begun.specs.UnsyncedRecords.{WaitsBehind, was_torn}
use Rattle.ing_begun.specs.Unsynced.{Unsynced}
use Rattle.ing_node.specs.Waiting.{WaitBehind}

module _ {D : Type 0} (honest : Type 0) (seen : D → LogState) where
  -- one record more waits, or the first
  pub waits_more : (old new : DurableContents D) (before after : Option Unsynced) → new.torn ≡ true → is_some after ≡ true → was_torn after new.torn ≡ was_torn before old.torn
      → (honest → was_torn before old.torn ≡ false → (states : List State) → WaitsBehind (whose old.memory) (seen old.log) states old.memory.state before
      → WaitsBehind (whose new.memory) (seen new.log) (states ++ old.memory.state ∷ []) new.memory.state after)
      → WaitBehind honest seen old before → WaitBehind honest seen new after
  waits_more old new before None torn some was behind waits = absurd (true≢false (sym some))
  waits_more old new None (Some u) torn some was behind waits =
      (torn, λ h whole. (old.memory.state ∷ [], behind h (sym was ∙ whole) [] refl))
  waits_more old new (Some v) (Some u) torn some was behind waits =
      (torn, λ h whole. (let b = waits.1 h (sym was ∙ whole) in (b.0 ++ old.memory.state ∷ [], behind h (sym was ∙ whole) b.0 b.1)))
