-- Worked canonical names, byte by byte, and worked refusals.
use Rattle.std.specs.Prelude.{◌≡◌, [], ◌∷◌, codes, Err}
use Rattle.std.specs.FinMap.{from_entries}
use Rattle.ing_labels.specs.Labels.{with_values, labels_of}
use Rattle.ing_labels.specs.declared.fault.LabelLimits.{LabelLimits}
use Rattle.ing_labels.specs.declared.fault.LabelFault.TheVariants.{BadName, TwiceNamed, NoLabels}
use Rattle.ing_labels.specs.Canonical.{canonical_of}

-- the pairs b=2, a=1 and c with an empty value: `{a="1", b="2"}`
abbrev pub EmptyValuesAreAbsent : Type 0
EmptyValuesAreAbsent =
    canonical_of (from_entries (with_values ((codes "b", codes "2") ∷ (codes "a", codes "1") ∷ (codes "c", []) ∷ []))) ≡ codes "{a=\"1\", b=\"2\"}"

-- m with the value a, quote, b, backslash, c, line feed, d: `{m="a\"b\\c\nd"}`, 16 bytes
abbrev pub CanonicalEscapes : Type 0
CanonicalEscapes =
    canonical_of (from_entries ((codes "m", 0x61 ∷ 0x22 ∷ 0x62 ∷ 0x5c ∷ 0x63 ∷ 0x0a ∷ 0x64 ∷ []) ∷ []))
    ≡ 0x7b ∷ 0x6d ∷ 0x3d ∷ 0x22 ∷ 0x61 ∷ 0x5c ∷ 0x22 ∷ 0x62 ∷ 0x5c ∷ 0x5c ∷ 0x63 ∷ 0x5c ∷ 0x6e ∷ 0x64 ∷ 0x22 ∷ 0x7d ∷ []

-- limits that no worked list exceeds
abbrev pub wide_limits : LabelLimits
wide_limits = record { names = 15; name_bytes = 1024; value_bytes = 2048 }

-- a name with a colon is no label name, and is found before the name that stands twice
abbrev pub BadNameComesFirst : Type 0
BadNameComesFirst =
    labels_of wide_limits ((codes "a:b", codes "x") ∷ (codes "a", codes "y") ∷ (codes "a", codes "z") ∷ []) ≡ Err (BadName 0)

-- a name may not stand twice, even with an empty value
abbrev pub EmptyValueRepeats : Type 0
EmptyValueRepeats = labels_of wide_limits ((codes "a", codes "y") ∷ (codes "a", []) ∷ []) ≡ Err (TwiceNamed 1)

-- one label with an empty value is no label
abbrev pub NoValueNoLabels : Type 0
NoValueNoLabels = labels_of wide_limits ((codes "a", []) ∷ []) ≡ Err NoLabels
