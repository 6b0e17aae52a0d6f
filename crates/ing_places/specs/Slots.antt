-- What a slot keeps.
use Rattle.std.specs.Prelude.{◌≡◌, ℕ, List, IfSome, drop, string_bytes, take}
use Rattle.ing_rows.specs.Placement.{shard_of}
use Rattle.ing_places.specs.declared.slot.Slot.{Slot}

-- the two parts of its text
abbrev pub tenant_in : Slot → List ℕ
tenant_in slot = take slot.split (string_bytes slot.text)

abbrev pub name_in : Slot → List ℕ
name_in slot = drop slot.split (string_bytes slot.text)

-- if it keeps a stream, then with the shard that is that stream's
abbrev pub IsOwn : ℕ → Slot → Type 0
IsOwn shards slot = IfSome slot.shard (λ shard.
    shard ≡ shard_of (tenant_in slot) (name_in slot) shards)
