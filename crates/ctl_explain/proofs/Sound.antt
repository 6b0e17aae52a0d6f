-- What a walk finds is at fault.
use Rattle.std.proofs.Common.{◌≡◌, ℕ, suc, ◌+◌, ◌==◌, Bool, true, false, cond, List, [], ◌∷◌, Option, Some, None, Result, Ok, Err, refl, sym, ap, ◌∙◌, arith}
use Rattle.std.specs.Prelude.{codes, bytes_eq, option_map, option_and_then}
use Rattle.std.specs.Option.{option_or, unwrap_or}
use Rattle.serde_json.specs.Data.{Data, Items, no_items, item, Members, no_members, member}
use Rattle.serde_json.specs.Find.{get, get_item, as_array, as_object}
use Rattle.ing_refusals.specs.Refusals.{refusal_number}
use Rattle.ing_commands.specs.declared.fault.LineFault.{LineFault}
use Rattle.ing_commands.specs.declared.fault.LineFault.TheVariants.{NoMemory, BadCommand, Metadata, BadTenant, BadStamp}
use Rattle.ing_commands.specs.Faults.{refusal_of}
use Rattle.ing_commands.specs.Shapes.{text_at}
use Rattle.ctl_explain.specs.declared.member.Field.{Field}
use Rattle.ctl_explain.specs.declared.member.Field.TheVariants.{Cmd}
use Rattle.ctl_explain.specs.declared.member.Part.{Part}
use Rattle.ctl_explain.specs.declared.member.Part.TheVariants as part
use Rattle.ctl_explain.specs.declared.member.Member.{Member}
use Rattle.ctl_explain.specs.declared.member.Member.TheVariants.{Own, OfStream}
use Rattle.ctl_explain.specs.Members.{Test, field_test, part_test, label_test, value_test, label_in, IsAtFault}
use Rattle.ctl_explain.specs.Walks.{is_fault, value_has, label_has, first_item, first_label, first_field, items_at, members_at, label_found, value_found, first_part, first_of_streams, fields_of, rest_of, first_of_command, first_member}

-- ---- faults

same_fault : (a b : LineFault) → (refusal_number (refusal_of a) == refusal_number (refusal_of b)) ≡ true → a ≡ b
same_fault NoMemory NoMemory e = refl
same_fault NoMemory BadCommand e = absurd cc
same_fault NoMemory Metadata e = absurd cc
same_fault NoMemory BadTenant e = absurd cc
same_fault NoMemory BadStamp e = absurd cc
same_fault BadCommand NoMemory e = absurd cc
same_fault BadCommand BadCommand e = refl
same_fault BadCommand Metadata e = absurd cc
same_fault BadCommand BadTenant e = absurd cc
same_fault BadCommand BadStamp e = absurd cc
same_fault Metadata NoMemory e = absurd cc
same_fault Metadata BadCommand e = absurd cc
same_fault Metadata Metadata e = refl
same_fault Metadata BadTenant e = absurd cc
same_fault Metadata BadStamp e = absurd cc
same_fault BadTenant NoMemory e = absurd cc
same_fault BadTenant BadCommand e = absurd cc
same_fault BadTenant Metadata e = absurd cc
same_fault BadTenant BadTenant e = refl
same_fault BadTenant BadStamp e = absurd cc
same_fault BadStamp NoMemory e = absurd cc
same_fault BadStamp BadCommand e = absurd cc
same_fault BadStamp Metadata e = absurd cc
same_fault BadStamp BadTenant e = absurd cc
same_fault BadStamp BadStamp e = refl

pub is_fault_is : (fault : LineFault) (test : Test) → is_fault fault test ≡ true → test ≡ Err fault
is_fault_is fault (Ok x) e = absurd cc
is_fault_is fault (Err found) e = ap (λ f. Err f) (same_fault found fault e)

-- ---- members of the line's object

first_field_at : (b : Bool) (fault : LineFault) (f : Field) (d : Data) (rest : Option Member) (m : Member)
    → is_fault fault (field_test f d) ≡ b → cond b (Some (Own f)) rest ≡ Some m → (rest ≡ Some m → IsAtFault d fault m) → IsAtFault d fault m
first_field_at true fault f d rest m is e later = let same : Own f ≡ m = cc in rw (sym same) (is_fault_is fault (field_test f d) is)
first_field_at false fault f d rest m is e later = later e

pub first_field_sound : (fault : LineFault) (fs : List Field) (d : Data) (m : Member) → first_field fault fs d ≡ Some m → IsAtFault d fault m
first_field_sound fault [] d m e = absurd cc
first_field_sound fault (f ∷ fs) d m e =
    first_field_at (is_fault fault (field_test f d)) fault f d (first_field fault fs d) m refl e (λ h. first_field_sound fault fs d m h)

-- ---- elements and labels

-- an element that passes stands at this place, counted from a number
pub record Found (p : Data → Bool) (at : ℕ) (get : ℕ → Option Data) (n : ℕ) : Type 0 where
  pub place : ℕ
  pub element : Data
  pub counted : n ≡ at + place
  pub there : get place ≡ Some element
  pub passes : p element ≡ true

found_here : (p : Data → Bool) (at : ℕ) (get : ℕ → Option Data) (n : ℕ) (d : Data) → at ≡ n → get 0 ≡ Some d → p d ≡ true → Found p at get n
found_here p at get n d e there pass = record { place = 0; element = d; counted = omega (arith, e); there = there; passes = pass }

found_later : (p : Data → Bool) (at : ℕ) (get : ℕ → Option Data) (n : ℕ) → Found p (at + 1) (λ k. get (suc k)) n → Found p at get n
found_later p at get n f =
    let counted = f.counted in
    record { place = suc f.place; element = f.element; counted = omega (arith, counted); there = f.there; passes = f.passes }

first_at : (b : Bool) (p : Data → Bool) (at : ℕ) (get : ℕ → Option Data) (rest : Option ℕ) (n : ℕ) (d : Data)
    → p d ≡ b → get 0 ≡ Some d → cond b (Some at) rest ≡ Some n → (rest ≡ Some n → Found p (at + 1) (λ k. get (suc k)) n) → Found p at get n
first_at true p at get rest n d is there e later = found_here p at get n d (cc) there is
first_at false p at get rest n d is there e later = found_later p at get n (later e)

pub first_item_sound : (p : Data → Bool) (at : ℕ) (items : Items) (n : ℕ) → first_item p at items ≡ Some n → Found p at (λ k. get_item k items) n
first_item_sound p at no_items n e = absurd cc
first_item_sound p at (item d ds) n e =
    first_at (p d) p at (λ k. get_item k (item d ds)) (first_item p (at + 1) ds) n d refl refl e (λ h. first_item_sound p (at + 1) ds n h)

pub first_label_sound : (p : Data → Bool) (at : ℕ) (ms : Members) (n : ℕ) → first_label p at ms ≡ Some n → Found p at (λ k. label_in k ms) n
first_label_sound p at no_members n e = absurd cc
first_label_sound p at (member name d ms) n e =
    first_at (p d) p at (λ k. label_in k (member name d ms)) (first_label p (at + 1) ms) n d refl refl e (λ h. first_label_sound p (at + 1) ms n h)

from_zero : (p : Data → Bool) (get : ℕ → Option Data) (n : ℕ) → Found p 0 get n → (d : Data) × (get n ≡ Some d) × (p d ≡ true)
from_zero p get n f = let counted = f.counted in let same : n ≡ f.place = omega (arith, counted) in (f.element, ap get same ∙ f.there, f.passes)

item_of : (o : Option Items) (n : ℕ) (d : Data) → get_item n (unwrap_or o no_items) ≡ Some d → option_and_then (get_item n) o ≡ Some d
item_of None n d e = absurd cc
item_of (Some items) n d e = e

label_of : (o : Option Members) (n : ℕ) (d : Data) → label_in n (unwrap_or o no_members) ≡ Some d → option_and_then (label_in n) o ≡ Some d
label_of None n d e = absurd cc
label_of (Some ms) n d e = e

-- ---- parts of a stream

value_sound_at : (o : Option ℕ) (fault : LineFault) (d : Data) (p : Part) → first_item (value_has fault) 0 (items_at (codes "values") d) ≡ o → option_map (λ n. part.Value n) o ≡ Some p → part_test p d ≡ Err fault
value_sound_at None fault d p is e = absurd cc
value_sound_at (Some n) fault d p is e =
    let same : part.Value n ≡ p = cc in
    let found = from_zero (value_has fault) (λ k. get_item k (items_at (codes "values") d)) n (first_item_sound (value_has fault) 0 (items_at (codes "values") d) n is) in
    let there = item_of (option_and_then as_array (get (codes "values") d)) n found.0 found.1 in
    rw (sym same, there) (is_fault_is fault (value_test found.0) found.2)

label_sound_at : (o : Option ℕ) (fault : LineFault) (d : Data) (p : Part) → first_label (label_has fault) 0 (members_at (codes "stream") d) ≡ o → option_map (λ n. part.Label n) o ≡ Some p → part_test p d ≡ Err fault
label_sound_at None fault d p is e = absurd cc
label_sound_at (Some n) fault d p is e =
    let same : part.Label n ≡ p = cc in
    let found = from_zero (label_has fault) (λ k. label_in k (members_at (codes "stream") d)) n (first_label_sound (label_has fault) 0 (members_at (codes "stream") d) n is) in
    let there = label_of (option_and_then as_object (get (codes "stream") d)) n found.0 found.1 in
    rw (sym same, there) (is_fault_is fault (label_test found.0) found.2)

-- a whole part, or what comes after it
whole_at : (b : Bool) (fault : LineFault) (q : Part) (d : Data) (rest : Option Part) (p : Part)
    → is_fault fault (part_test q d) ≡ b → cond b (Some q) rest ≡ Some p → (rest ≡ Some p → part_test p d ≡ Err fault) → part_test p d ≡ Err fault
whole_at true fault q d rest p is e later = let same : q ≡ p = cc in rw (sym same) (is_fault_is fault (part_test q d) is)
whole_at false fault q d rest p is e later = later e

either : {A : Type 0} (o rest : Option A) (a : A) (P : Type 0) → option_or o rest ≡ Some a → (o ≡ Some a → P) → (rest ≡ Some a → P) → P
either None rest a P e first later = later e
either (Some x) rest a P e first later = first e

pub first_part_sound : (fault : LineFault) (d : Data) (p : Part) → first_part fault d ≡ Some p → part_test p d ≡ Err fault
first_part_sound fault d p e =
    whole_at (is_fault fault (part_test part.Labels d)) fault part.Labels d _ p refl e (λ h.
    either (label_found fault d) _ p (part_test p d ≡ Err fault) h
    (λ l. label_sound_at (first_label (label_has fault) 0 (members_at (codes "stream") d)) fault d p refl l)
    (λ r. whole_at (is_fault fault (part_test part.Values d)) fault part.Values d (value_found fault d) p refl r (λ v.
    value_sound_at (first_item (value_has fault) 0 (items_at (codes "values") d)) fault d p refl v)))

-- ---- streams

-- a part at fault of a stream that stands at this place, counted from a number
pub record FoundPart (fault : LineFault) (at : ℕ) (items : Items) (m : Member) : Type 0 where
  pub place : ℕ
  pub part : Part
  pub stream : Data
  pub is : m ≡ OfStream (at + place) part
  pub there : get_item place items ≡ Some stream
  pub at_fault : part_test part stream ≡ Err fault

stream_at : (o : Option Part) (fault : LineFault) (at : ℕ) (d : Data) (ds : Items) (rest : Option Member) (m : Member)
    → first_part fault d ≡ o → option_or (option_map (λ p. OfStream at p) o) rest ≡ Some m → (rest ≡ Some m → FoundPart fault (at + 1) ds m) → FoundPart fault at (item d ds) m
stream_at None fault at d ds rest m is e later =
    let f = later e in
    let next : at + 1 + f.place ≡ at + suc f.place = omega arith in
    record { place = suc f.place; part = f.part; stream = f.stream; is = f.is ∙ ap (λ n. OfStream n f.part) next; there = f.there; at_fault = f.at_fault }
stream_at (Some p) fault at d ds rest m is e later =
    let same : m ≡ OfStream at p = cc in
    let here : at ≡ at + 0 = omega arith in
    record { place = 0; part = p; stream = d; is = same ∙ ap (λ n. OfStream n p) here; there = refl; at_fault = first_part_sound fault d p is }

pub first_of_streams_sound : (fault : LineFault) (at : ℕ) (items : Items) (m : Member) → first_of_streams fault at items ≡ Some m → FoundPart fault at items m
first_of_streams_sound fault at no_items m e = absurd cc
first_of_streams_sound fault at (item d ds) m e =
    stream_at (first_part fault d) fault at d ds (first_of_streams fault (at + 1) ds) m refl e (λ h. first_of_streams_sound fault (at + 1) ds m h)

in_streams : (fault : LineFault) (d : Data) (m : Member) → FoundPart fault 0 (items_at (codes "streams") d) m → IsAtFault d fault m
in_streams fault d m f =
    let zero_more : 0 + f.place ≡ f.place = omega arith in
    let same : m ≡ OfStream f.place f.part = f.is ∙ ap (λ n. OfStream n f.part) zero_more in
    let there = item_of (option_and_then as_array (get (codes "streams") d)) f.place f.stream f.there in
    rw (same, there) f.at_fault

rest_sound : (b : Bool) (fault : LineFault) (d : Data) (m : Member) → cond b (first_of_streams fault 0 (items_at (codes "streams") d)) None ≡ Some m → IsAtFault d fault m
rest_sound true fault d m e = in_streams fault d m (first_of_streams_sound fault 0 (items_at (codes "streams") d) m e)
rest_sound false fault d m e = absurd cc

command_sound : (r : Result (List ℕ) LineFault) (fault : LineFault) (d : Data) (m : Member) → first_of_command fault d r ≡ Some m → IsAtFault d fault m
command_sound (Ok cmd) fault d m e =
    either (first_field fault (fields_of cmd) d) (rest_of fault cmd d) m (IsAtFault d fault m) e
    (λ h. first_field_sound fault (fields_of cmd) d m h)
    (λ h. rest_sound (bytes_eq cmd (codes "push")) fault d m h)
command_sound (Err other) fault d m e = first_field_sound fault (Cmd ∷ []) d m e

-- what is found has the fault by itself
pub first_member_sound : (fault : LineFault) (d : Data) (m : Member) → first_member fault d ≡ Some m → IsAtFault d fault m
unfolding first_member
first_member_sound fault d m e = command_sound (text_at (codes "cmd") d) fault d m e
