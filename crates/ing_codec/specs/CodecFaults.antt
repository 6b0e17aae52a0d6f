-- Which refusal a fault of bytes is, and the place that it speaks of.
use Rattle.std.specs.Prelude.{ℕ, Option, Some, None}
use Rattle.ing_refusals.specs.declared.refusal.Refusal.{Refusal}
use Rattle.ing_refusals.specs.declared.refusal.Refusal.TheVariants as refusal
use Rattle.ing_codec.specs.declared.fault.CodecFault.{CodecFault}
use Rattle.ing_codec.specs.declared.fault.CodecFault.TheVariants.{NoMemory, Truncated, BadMagic, BadVersion, BadField, OutOfOrder, Trailing}

-- the refusal of the same name
abbrev pub codec_refusal_of : CodecFault → Refusal
codec_refusal_of NoMemory = refusal.NoMemory
codec_refusal_of Truncated = refusal.Truncated
codec_refusal_of BadMagic = refusal.BadMagic
codec_refusal_of BadVersion = refusal.BadVersion
codec_refusal_of (BadField _) = refusal.BadField
codec_refusal_of OutOfOrder = refusal.OutOfOrder
codec_refusal_of Trailing = refusal.Trailing

-- the offset of a bad value
abbrev pub codec_fault_place : CodecFault → Option ℕ
codec_fault_place NoMemory = None
codec_fault_place Truncated = None
codec_fault_place BadMagic = None
codec_fault_place BadVersion = None
codec_fault_place (BadField at) = Some at
codec_fault_place OutOfOrder = None
codec_fault_place Trailing = None
