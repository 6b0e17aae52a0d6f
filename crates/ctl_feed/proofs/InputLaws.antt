-- Lines of an input, and what is written of them.
use Rattle.std.proofs.Common.{◌≡◌, ℕ, ◌+◌, ◌<◌, ◌≤◌, ◌^◌, cond, Bool, true, false, List, [], ◌∷◌, ◌++◌, length, Option, Some, None, Result, Ok, Err, refl, sym, ap, subst, ◌∙◌, arith, append_assoc, append-nil, length-append}
use Rattle.std.specs.Prelude.{IfSome, OnOk, not, nat_lt, nat_le}
use Rattle.std.specs.Str.Lossy.{utf8_lossy}
use Rattle.std.specs.Io.KnownBytes.{Appends}
use Rattle.std.proofs.lemmas.Bool.Decides.{nat_tests}
use Rattle.std.proofs.lemmas.Grind.{flat_map-append}
use Rattle.ing_refusals.specs.Results.{◌>>=◌}
use Rattle.ing_rows.specs.declared.entry.Entry.{Entry}
use Rattle.ctl_feed.specs.declared.load_fault.LoadFault.{LoadFault}
use Rattle.ctl_feed.specs.declared.load_fault.LoadFault.TheVariants.{NoStamp, TooLong}
use Rattle.ctl_feed.specs.Loads.{Finishes, Load, Takes, entry_at, entry_of, max_bytes, size_of, sized, stamp_for, stamped, with_entry}
use Rattle.ctl_feed.specs.declared.lines.NextLine.TheVariants as NextLine
use Rattle.ctl_feed.specs.declared.lines.NextLine.TheVariants.{Line, End}
use Rattle.ctl_feed.specs.Lines.{TakesLine, lines_of, with_feed}
use Rattle.ctl_feed.specs.Inputs.{AreCommands, AreOf, IsAbove, Loads, LoadsAll, LoadsFront, LoadsUntil, concat, last_of}

-- ---- one line after another

pub Appends-nil : (o : Option (List ℕ)) → Appends o o []
Appends-nil None = tt
Appends-nil (Some xs) = sym (append-nil xs)

pub Appends-trans : (x y z : Option (List ℕ)) (a b : List ℕ) → Appends x y a → Appends y z b → Appends x z (a ++ b)
Appends-trans None y z a b h k = tt
Appends-trans (Some xs) None z a b h k = absurd h
Appends-trans (Some xs) (Some ys) None a b h k = absurd k
Appends-trans (Some xs) (Some ys) (Some zs) a b h k = k ∙ ap (λ l. l ++ b) h ∙ append_assoc xs a b

last_of-append : (last : Option ℕ) (es fs : List Entry) → last_of last (es ++ fs) ≡ last_of (last_of last es) fs
last_of-append last [] fs = refl
last_of-append last (e ∷ es) fs = last_of-append (Some e.stamp) es fs

AreOf-append : (read : List ℕ → Option ℕ × List ℕ) (now : ℕ) (last : Option ℕ) (ls ms : List (List ℕ)) (es fs : List Entry) → AreOf read now last ls es → AreOf read now (last_of last es) ms fs → AreOf read now last (ls ++ ms) (es ++ fs)
AreOf-append read now last [] ms [] fs h k = k
AreOf-append read now last [] ms (e ∷ es) fs h k = absurd h
AreOf-append read now last (l ∷ ls) ms [] fs h k = absurd h
AreOf-append read now last (l ∷ ls) ms (e ∷ es) fs h k = (h.0, h.1, AreOf-append read now (Some e.stamp) ls ms es fs h.2 k)

pub AreCommands-append : (tenant : List ℕ) (now : ℕ) (labels : List (List ℕ × List ℕ)) (cs ds : List (List ℕ)) (gs hs : List (List Entry)) → AreCommands tenant now labels cs gs → AreCommands tenant now labels ds hs
    → AreCommands tenant now labels (cs ++ ds) (gs ++ hs)
AreCommands-append tenant now labels [] ds [] hs h k = k
AreCommands-append tenant now labels [] ds (g ∷ gs) hs h k = absurd h
AreCommands-append tenant now labels (c ∷ cs) ds [] hs h k = absurd h
AreCommands-append tenant now labels (c ∷ cs) ds (g ∷ gs) hs h k = (h.0, AreCommands-append tenant now labels cs ds gs hs h.1 k)

pub whole_both : (a e f g h b c : List Entry) → a ++ e ≡ g ++ b → b ++ f ≡ h ++ c → a ++ (e ++ f) ≡ (g ++ h) ++ c
whole_both a e f g h b c first second =
    sym (append_assoc a e f) ∙ ap (λ l. l ++ f) first ∙ append_assoc g b f ∙ ap (λ l. g ++ l) second ∙ sym (append_assoc g h c)

-- ---- the stamp of one line

sized_same : (b : Bool) (made entry : Entry) → ◌≡◌ {A = Result Entry LoadFault} (cond b (Ok made) (Err TooLong)) (Ok entry) → made ≡ entry
sized_same true made entry h = cc
sized_same false made entry h = absurd cc

stamped_as : (b : Bool) (stamp : ℕ) (text : List ℕ) (entry : Entry) → (cond b (Ok (record { stamp = stamp; line = text })) (Err NoStamp) >>= sized) ≡ Ok entry → entry.stamp ≡ stamp
stamped_as true stamp text entry h =
    let made : Entry = record { stamp = stamp; line = text } in
    ap (λ e. e.stamp) (sym (sized_same (nat_le (size_of made) max_bytes) made entry h))
stamped_as false stamp text entry h = absurd cc

stamp_above : (now : ℕ) (last time : Option ℕ) (stamp : ℕ) → stamp ≡ stamp_for now last time → IsAbove last stamp
stamp_above now None time stamp h = tt
stamp_above now (Some last) time stamp h = omega arith

within : (b : Bool) (r : Result Entry LoadFault) (entry : Entry) → ◌≡◌ {A = Result Entry LoadFault} (cond b r (Err TooLong)) (Ok entry) → r ≡ Ok entry
within true r entry h = h
within false r entry h = absurd cc

too_long : (load : Load) (time : Option ℕ) (line : List ℕ) → max_bytes < length line → entry_of load time line ≡ Err TooLong
too_long load time line h = let long : nat_le (length line) max_bytes ≡ false = grind (arith, nat_tests) in rw long

entry_above : (now : ℕ) (last time : Option ℕ) (line : List ℕ) (entry : Entry) → entry_at now last time line ≡ Ok entry → IsAbove last entry.stamp
entry_above now last time line entry h = stamp_above now last time entry.stamp (stamped_as (nat_lt (stamp_for now last time) (2 ^ 63)) (stamp_for now last time) (utf8_lossy line) entry (within (nat_le (length line) max_bytes) (stamped (stamp_for now last time) line >>= sized) entry h))

module _ (read : List ℕ → Option ℕ × List ℕ) where
  -- none yet
  pub loads_none : (load : Load) (o : Option (List ℕ)) → Loads read load load [] o o
  loads_none load o = record { entries = []; of_lines = tt; commands = []; groups = []; are_commands = tt; whole = append-nil load.entries; next = refl; written = Appends-nil o }

  -- these, and then those
  pub loads_both : (a b c : Load) (ls ms : List (List ℕ)) (x y z : Option (List ℕ)) → Loads read a b ls x y → Loads read b c ms y z → Loads read a c (ls ++ ms) x z
  loads_both a b c ls ms x y z first second =
      let then = subst (λ load. Loads read load c ms y z) first.next second in
      record {
        entries = first.entries ++ then.entries;
        of_lines = AreOf-append read a.now a.last ls ms first.entries then.entries first.of_lines then.of_lines;
        commands = first.commands ++ then.commands;
        groups = first.groups ++ then.groups;
        are_commands = AreCommands-append a.tenant a.now a.labels first.commands then.commands first.groups then.groups first.are_commands then.are_commands;
        whole = whole_both a.entries first.entries then.entries (concat first.groups) (concat then.groups) b.entries c.entries first.whole then.whole
            ∙ ap (λ l. l ++ c.entries) (sym (flat_map-append (λ (es : List Entry). es) first.groups then.groups));
        next = then.next ∙ ap (λ l. record a { last = l; entries = c.entries }) (sym (last_of-append a.last first.entries then.entries));
        written = subst (λ l. Appends x z l) (sym (flat_map-append with_feed first.commands then.commands)) (Appends-trans x y z _ _ first.written then.written);
      }

  -- one line, beside those that wait
  pub loads_beside : (old new : Load) (line text : List ℕ) (t : Option ℕ) (o : Option (List ℕ)) → (t, text) ≡ read line → (entry : Entry) × (entry_of old t text ≡ Ok entry) × Takes old new entry None → Loads read old new (line ∷ []) o o
  loads_beside old new line text t o same taken =
      let entry = taken.0 in
      let made : entry_at old.now old.last (read line).0 (read line).1 ≡ Ok entry = subst (λ (u : Option ℕ × List ℕ). entry_at old.now old.last u.0 u.1 ≡ Ok entry) same taken.1 in
      let is : new ≡ with_entry old entry = taken.2.2 ∙ ap (λ load. with_entry load entry) taken.2.1.1 in
      let entries : new.entries ≡ old.entries ++ entry ∷ [] = ap (λ load. load.entries) is in
      record {
        entries = entry ∷ [];
        of_lines = (made, entry_above old.now old.last (read line).0 (read line).1 entry made, tt);
        commands = [];
        groups = [];
        are_commands = tt;
        whole = sym entries;
        next = is ∙ ap (λ l. record old { last = Some entry.stamp; entries = l }) (sym entries);
        written = Appends-nil o;
      }

  -- one line, and the command of those that waited
  pub loads_after : (old new : Load) (line text command : List ℕ) (t : Option ℕ) (x y : Option (List ℕ)) → (t, text) ≡ read line → (entry : Entry) × (entry_of old t text ≡ Ok entry) × Takes old new entry (Some command)
      → Appends x y (with_feed command) → Loads read old new (line ∷ []) x y
  loads_after old new line text command t x y same taken put =
      let entry = taken.0 in
      let made : entry_at old.now old.last (read line).0 (read line).1 ≡ Ok entry = subst (λ (u : Option ℕ × List ℕ). entry_at old.now old.last u.0 u.1 ≡ Ok entry) same taken.1 in
      let is : new ≡ record old { last = Some entry.stamp; entries = entry ∷ [] } = taken.2.2 ∙ ap (λ load. with_entry load entry) taken.2.1.2 in
      let entries : new.entries ≡ entry ∷ [] = ap (λ load. load.entries) is in
      record {
        entries = entry ∷ [];
        of_lines = (made, entry_above old.now old.last (read line).0 (read line).1 entry made, tt);
        commands = command ∷ [];
        groups = old.entries ∷ [];
        are_commands = (taken.2.1.1, tt);
        whole = ap (λ l. old.entries ++ l) (sym entries) ∙ ap (λ l. l ++ new.entries) (sym (append-nil old.entries));
        next = is ∙ ap (λ l. record old { last = Some entry.stamp; entries = l }) (sym entries);
        written = subst (λ l. Appends x y l) (sym (append-nil (with_feed command))) put;
      }

  -- the command of those that wait
  pub loads_rest : (old new : Load) (command : List ℕ) (x y : Option (List ℕ)) → Finishes old new (Some command) → Appends x y (with_feed command) → Loads read old new [] x y
  loads_rest old new command x y finished put =
      let entries : new.entries ≡ [] = ap (λ load. load.entries) finished.1 in
      record {
        entries = [];
        of_lines = tt;
        commands = command ∷ [];
        groups = old.entries ∷ [];
        are_commands = (finished.0, tt);
        whole = sym (append-nil (old.entries ++ [])) ∙ ap (λ l. (old.entries ++ []) ++ l) (sym entries);
        next = finished.1 ∙ ap (λ l. record old { entries = l }) (sym entries);
        written = subst (λ l. Appends x y l) (sym (append-nil (with_feed command))) put;
      }

  -- ---- the front of an input

  pub front_begins : (load : Load) (input : List ℕ) (left o : Option (List ℕ)) → left ≡ Some input → LoadsFront read load load input left o o 1
  front_begins load input left o is = record { taken = []; rest = input; left_is = is; lines = refl; numbered = refl; loads = loads_none load o }

  pub front_more : (a b c : Load) (input line : List ℕ) (left new x y z : Option (List ℕ)) (n : ℕ) → LoadsFront read a b input left x y n → IfSome left (λ old. TakesLine (max_bytes + 1) old new line Line)
      → Loads read b c (line ∷ []) y z → LoadsFront read a c input new x z (n + 1)
  front_more a b c input line left new x y z n front next loads =
      let more = rw front.left_is at next in
      record {
        taken = front.taken ++ line ∷ [];
        rest = more.0;
        left_is = more.1;
        lines = front.lines ∙ ap (λ ls. front.taken ++ ls) more.2 ∙ sym (append_assoc front.taken (line ∷ []) (lines_of more.0));
        numbered = omega (arith, front.numbered, length-append front.taken (line ∷ []));
        loads = loads_both a b c front.taken (line ∷ []) x y z front.loads loads;
      }

  pub front_ends : (a b : Load) (input line : List ℕ) (left new x y : Option (List ℕ)) (n : ℕ) → LoadsFront read a b input left x y n → IfSome left (λ old. TakesLine (max_bytes + 1) old new line End) → LoadsAll read a b input new x y
  front_ends a b input line left new x y n front next =
      let none = rw front.left_is at next in
      (none.1, subst (λ ls. Loads read a b ls x y) (sym (front.lines ∙ ap (λ ls. front.taken ++ ls) none.0 ∙ append-nil front.taken)) front.loads)

  pub front_refused : (a b : Load) (input line : List ℕ) (left new x y : Option (List ℕ)) (n : ℕ) (fault : LoadFault) → LoadsFront read a b input left x y n → IfSome left (λ old. TakesLine (max_bytes + 1) old new line Line)
      → entry_of b (read line).0 (read line).1 ≡ Err fault → LoadsUntil read a b input new x y n fault
  front_refused a b input line left new x y n fault front next refused =
      let more = rw front.left_is at next in
      record {
        taken = front.taken;
        line = line;
        rest = more.0;
        left_is = more.1;
        lines = front.lines ∙ ap (λ ls. front.taken ++ ls) more.2;
        numbered = front.numbered;
        refused = refused;
        loads = front.loads;
      }

  -- the same, by a loader and a writer that stay
  pub refused_here : (a b c : Load) (input line : List ℕ) (left new x y z : Option (List ℕ)) (n : ℕ) (fault : LoadFault) → LoadsFront read a b input left x y n → IfSome left (λ old. TakesLine (max_bytes + 1) old new line Line)
      → (entry_of b (read line).0 (read line).1 ≡ Err fault) × (c ≡ b) × (z ≡ y) → LoadsUntil read a c input new x z n fault
  refused_here a b c input line left new x y z n fault front next refused =
      rw (refused.1, refused.2) (front_refused a b input line left new x y n fault front next refused.0)

  -- the same, of a line that was skipped
  pub skipped_here : (a b : Load) (input kept : List ℕ) (left new x y : Option (List ℕ)) (n : ℕ) → ((line : List ℕ) → length line ≤ length (read line).1 + 1) → LoadsFront read a b input left x y n
      → IfSome left (λ old. TakesLine (max_bytes + 1) old new kept NextLine.TooLong) → LoadsUntil read a b input new x y n TooLong
  skipped_here a b input kept left new x y n nearly front next =
      let more = rw front.left_is at next in
      record {
        taken = front.taken;
        line = more.0;
        rest = more.1;
        left_is = more.2;
        lines = front.lines ∙ ap (λ ls. front.taken ++ ls) more.3;
        numbered = front.numbered;
        refused = too_long b (read more.0).0 (read more.0).1 (omega (arith, nearly more.0, more.4));
        loads = front.loads;
      }

-- ---- results

pub if_some_of : {X : Type 0} (o : Option X) (P : X → Type 0) → ((x : X) → o ≡ Some x → P x) → IfSome o P
if_some_of None P h = tt
if_some_of (Some x) P h = h x refl

pub none_of : {X : Type 0} (o : Option X) → ((x : X) → o ≡ Some x → ⊥) → o ≡ None
none_of None h = refl
none_of (Some x) h = absurd (h x refl)

pub on_ok_of : {X E : Type 0} (r : Result X E) (P Q : Type 0) → (P → Q) → OnOk r P → OnOk r Q
on_ok_of (Ok x) P Q f h = f h
on_ok_of (Err e) P Q f h = tt

pub not_false : (b : Bool) → not b ≡ false → b ≡ true
not_false true h = refl
not_false false h = absurd cc
