-- Members of a push, met in any order.
use Rattle.std.proofs.Common.{◌≡◌, ℕ, ◌+◌, ◌<◌, ◌≤◌, List, length, get_or, codes, false, Option, Some, None, IfSome, refl, ap, subst}
use Rattle.std.specs.Option.{option_map, is_some}
use Rattle.std.specs.Borrow.{Bor}
use Rattle.std.specs.declared.alloc.Global.{Global}
use Rattle.json.specs.Json as json
use Rattle.json.specs.Value.{value_view, items_view, members_view}
use Rattle.json.specs.declared.value.Value.{Value}
use Rattle.serde_json.specs.Data.{Data, string, array, Items, Members, no_members, member, put}
use Rattle.serde_json.specs.Read.{of_items, of_members}
use Rattle.ing_pushes.specs.Usual.{HasParts}
use Rattle.ing_pushes.proofs.OneByOne.{Member, Reads, reads_all, reads_more}

-- a member, if it is there
abbrev pub if_met : List ℕ → Option Data → Members → Members
if_met name None more = more
if_met name (Some value) more = member name value more

-- the members of a push that were met, in byte order of their names
abbrev pub met_said : Option Data → Option Data → Option Data → Option Data → Members
met_said cmd now streams tenant =
    if_met (codes "cmd") cmd (if_met (codes "now") now
    (if_met (codes "streams") streams (if_met (codes "tenant") tenant no_members)))

-- what is put for the first time goes to its place
pub put_cmd : (v : Data) (n s t : Option Data) → put (codes "cmd") v (met_said None n s t) ≡ met_said (Some v) n s t
put_cmd v None None None = refl
put_cmd v None None (Some t) = refl
put_cmd v None (Some s) t = refl
put_cmd v (Some n) s t = refl

pub put_now : (v : Data) (c s t : Option Data) → put (codes "now") v (met_said c None s t) ≡ met_said c (Some v) s t
put_now v None None None = refl
put_now v None None (Some t) = refl
put_now v None (Some s) t = refl
put_now v (Some c) None None = refl
put_now v (Some c) None (Some t) = refl
put_now v (Some c) (Some s) t = refl

pub put_streams : (v : Data) (c n t : Option Data) → put (codes "streams") v (met_said c n None t) ≡ met_said c n (Some v) t
put_streams v None None None = refl
put_streams v None None (Some t) = refl
put_streams v None (Some n) None = refl
put_streams v None (Some n) (Some t) = refl
put_streams v (Some c) None None = refl
put_streams v (Some c) None (Some t) = refl
put_streams v (Some c) (Some n) None = refl
put_streams v (Some c) (Some n) (Some t) = refl

pub put_tenant : (v : Data) (c n s : Option Data) → put (codes "tenant") v (met_said c n s None) ≡ met_said c n s (Some v)
put_tenant v None None None = refl
put_tenant v None None (Some s) = refl
put_tenant v None (Some n) None = refl
put_tenant v None (Some n) (Some s) = refl
put_tenant v (Some c) None None = refl
put_tenant v (Some c) None (Some s) = refl
put_tenant v (Some c) (Some n) None = refl
put_tenant v (Some c) (Some n) (Some s) = refl

abbrev pub Text : Type 0
Text = Option (Bor (List ℕ))

abbrev pub Values : Type 0
Values = Option (Bor (List (Value Global)))

-- what a text says, if it was met
abbrev pub text_said : Text → Option Data
text_said text = option_map (λ t. string t.now) text

-- what the members that were met say, where the streams say this
abbrev pub said_of : Text → Text → Values → Text → Items → Members
said_of cmd now streams tenant said = met_said (text_said cmd) (text_said now) (option_map (λ _. array said) streams) (text_said tenant)

-- the streams, if they were met, say this
abbrev pub AreRead : Values → Items → Type 0
AreRead streams said = IfSome streams (λ values. of_items (items_view values.now) ≡ Some said)

-- what so many members were met as
pub record MetAs (ms : List Member) (at : ℕ) (cmd now : Text) (streams : Values) (tenant : Text) : Type 0 where
  pub read : (said : Items) → AreRead streams said → Reads ms at (said_of cmd now streams tenant said)

-- before the first
pub met_none : (ms : List Member) → MetAs ms 0 None None None None
met_none ms = record { read = λ said are rest. refl }

-- the member makes these of those
abbrev pub IsNext : Member → (Items → Members) → (Items → Members) → Values → Values → Type 0
IsNext m old new before after =
    (said : Items) → AreRead after said
    → AreRead before said × ((rest : json.Members) → of_members (json.member m.0.now (value_view m.1) rest) (old said) ≡ of_members rest (new said))

-- one more member
pub met_more : (ms : List Member) (at : ℕ) (m : Member) (c n : Text) (s : Values) (t : Text) (c' n' : Text) (s' : Values) (t' : Text) → at < length ms → m ≡ get_or ms at m → MetAs ms at c n s t → IsNext m (said_of c n s t) (said_of c' n' s' t') s s' → MetAs ms (at + 1) c' n' s' t'
met_more ms at m c n s t c' n' s' t' within is met step = record { read = λ said are. reads_more ms at m (said_of c n s t said) (said_of c' n' s' t' said) within is (met.read said (step said are).0) (step said are).1 }

-- what was not met
missing : {A : Type 0} (o : Option A) → is_some o ≡ false → o ≡ None
missing None none = refl
missing (Some x) none = absurd (cc none)

-- one more member, which is met for the first time
module _ {ms : List Member} {at : ℕ} {m : Member} {c n : Text} {s : Values} {t : Text} {c' n' : Text} {s' : Values} {t' : Text} (within : at < length ms) (is : m ≡ get_or ms at m) (met : MetAs ms at c n s t) where
  pub met_cmd : (text : Bor (List ℕ)) → m.0.now ≡ codes "cmd" → is_some c ≡ false → value_view m.1 ≡ json.string text.now → c' ≡ Some text → n' ≡ n → s' ≡ s → t' ≡ t → MetAs ms (at + 1) c' n' s' t'
  met_cmd text named first has c'is n'is s'is t'is =
      let before = subst (λ o. MetAs ms at o n s t) (missing c first) met in
      let next : IsNext m (said_of None n s t) (said_of (Some text) n s t) s s = λ said are. (are, λ rest. rw (named, has) (ap (of_members rest) (put_cmd (string text.now) (text_said n) (option_map (λ _. array said) s) (text_said t)))) in
      rw (c'is, n'is, s'is, t'is) (met_more ms at m None n s t (Some text) n s t within is before next)

  pub met_now : (text : Bor (List ℕ)) → m.0.now ≡ codes "now" → is_some n ≡ false → value_view m.1 ≡ json.string text.now → c' ≡ c → n' ≡ Some text → s' ≡ s → t' ≡ t → MetAs ms (at + 1) c' n' s' t'
  met_now text named first has c'is n'is s'is t'is =
      let before = subst (λ o. MetAs ms at c o s t) (missing n first) met in
      let next : IsNext m (said_of c None s t) (said_of c (Some text) s t) s s = λ said are. (are, λ rest. rw (named, has) (ap (of_members rest) (put_now (string text.now) (text_said c) (option_map (λ _. array said) s) (text_said t)))) in
      rw (c'is, n'is, s'is, t'is) (met_more ms at m c None s t c (Some text) s t within is before next)

  pub met_streams : (values : Bor (List (Value Global))) → m.0.now ≡ codes "streams" → is_some s ≡ false → value_view m.1 ≡ json.array (items_view values.now) → c' ≡ c → n' ≡ n → s' ≡ Some values → t' ≡ t → MetAs ms (at + 1) c' n' s' t'
  met_streams values named first has c'is n'is s'is t'is =
      let before = subst (λ o. MetAs ms at c n o t) (missing s first) met in
      let next : IsNext m (said_of c n None t) (said_of c n (Some values) t) None (Some values) = λ said are. (tt, λ rest. rw (named, has, are) (ap (of_members rest) (put_streams (array said) (text_said c) (text_said n) (text_said t)))) in
      rw (c'is, n'is, s'is, t'is) (met_more ms at m c n None t c n (Some values) t within is before next)

  pub met_tenant : (text : Bor (List ℕ)) → m.0.now ≡ codes "tenant" → is_some t ≡ false → value_view m.1 ≡ json.string text.now → c' ≡ c → n' ≡ n → s' ≡ s → t' ≡ Some text → MetAs ms (at + 1) c' n' s' t'
  met_tenant text named first has c'is n'is s'is t'is =
      let before = subst (λ o. MetAs ms at c n s o) (missing t first) met in
      let next : IsNext m (said_of c n s None) (said_of c n s (Some text)) s s = λ said are. (are, λ rest. rw (named, has) (ap (of_members rest) (put_tenant (string text.now) (text_said c) (text_said n) (option_map (λ _. array said) s)))) in
      rw (c'is, n'is, s'is, t'is) (met_more ms at m c n s None c n s (Some text) within is before next)

-- all of them
pub met_all : (ms : List Member) (at : ℕ) {oc on : Text} {os : Values} {ot : Text} (c n : Bor (List ℕ)) (s : Bor (List (Value Global))) (t : Bor (List ℕ)) → length ms ≤ at → MetAs ms at oc on os ot → oc ≡ Some c → on ≡ Some n → os ≡ Some s → ot ≡ Some t → HasParts (members_view ms) c.now t.now n.now (items_view s.now)
met_all ms at {oc} {on} {os} {ot} c n s t all met c-is n-is s-is t-is said are =
    let there : AreRead os said = rw s-is are in
    let read = reads_all ms at (said_of oc on os ot said) all (met.read said there) in
    rw (read, c-is, n-is, s-is, t-is) refl
