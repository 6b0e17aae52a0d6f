-- What holds of a reply to a fault that is no want of memory, where that gives no reply.
use Rattle.std.proofs.Common.{◌≡◌, ◌≢◌, refl, inl, inr}
use Rattle.std.specs.Prelude.{◌⊎◌, Result, IfOk, IsErr}
use Rattle.std.proofs.lemmas.Result.{IfOk-from_err}
use Rattle.ing_labels.specs.declared.fault.LabelFault.{LabelFault}
use Rattle.ing_labels.specs.declared.fault.LabelFault.TheVariants as labels
use Rattle.ing_refusals.specs.declared.push_fault.PushFault.{PushFault}
use Rattle.ing_refusals.specs.declared.push_fault.PushFault.TheVariants.{NoMemory, CounterFull, TooManyEntries}

is_no_memory : (fault : PushFault) → (fault ≡ NoMemory) ⊎ (fault ≢ NoMemory)
is_no_memory NoMemory = inl refl
is_no_memory CounterFull = inr (λ e. cc)
is_no_memory TooManyEntries = inr (λ e. cc)

pub IfOk-unless : {T E : Type 0} (r : Result T E) (fault : PushFault) (P : T → Type 0) → (fault ≡ NoMemory → IsErr r) → (fault ≢ NoMemory → IfOk r P) → IfOk r P
IfOk-unless r fault P memory other = elim (is_no_memory fault) [ inl is ↦ IfOk-from_err r P (memory is) | inr not ↦ other not ]

-- the same of the fault of labels

is_no_label_memory : (fault : LabelFault) → (fault ≡ labels.NoMemory) ⊎ (fault ≢ labels.NoMemory)
is_no_label_memory labels.NoMemory = inl refl
is_no_label_memory (labels.BadName at) = inr (λ e. cc)
is_no_label_memory (labels.TwiceNamed at) = inr (λ e. cc)
is_no_label_memory labels.NoLabels = inr (λ e. cc)
is_no_label_memory labels.TooMany = inr (λ e. cc)
is_no_label_memory (labels.NameTooLong at) = inr (λ e. cc)
is_no_label_memory (labels.ValueTooLong at) = inr (λ e. cc)

pub IfOk-unless_label : {T E : Type 0} (r : Result T E) (fault : LabelFault) (P : T → Type 0) → (fault ≡ labels.NoMemory → IsErr r) → (fault ≢ labels.NoMemory → IfOk r P) → IfOk r P
IfOk-unless_label r fault P memory other = elim (is_no_label_memory fault) [ inl is ↦ IfOk-from_err r P (memory is) | inr not ↦ other not ]
