-- What is written of entries, one after another.
use Rattle.std.proofs.Common.{◌≡◌, ℕ, ◌<◌, ◌≤◌, List, [], ◌∷◌, ◌++◌, length, Option, Some, None, refl, sym, ap, subst, ◌∙◌, arith, append-nil, length-append}
use Rattle.std.specs.List.{AllByRecursion}
use Rattle.std.specs.Io.KnownBytes.{Appends}
use Rattle.std.proofs.lemmas.Grind.{flat_map-append}
use Rattle.ing_rows.specs.declared.entry.Entry.{Entry}
use Rattle.ctl_feed.specs.Feeds.{Feeds, FeedsAll, HasAtMost}
use Rattle.ctl_feed.specs.Inputs.{concat}
use Rattle.ctl_feed.specs.Lines.{with_feed}
use Rattle.ctl_feed.specs.Loads.{Finishes, Load, Takes, with_entry}
use Rattle.ctl_feed.proofs.InputLaws.{Appends-nil, Appends-trans, AreCommands-append, whole_both}

few-append : (most : ℕ) (gs hs : List (List Entry)) → AllByRecursion (HasAtMost most) gs → AllByRecursion (HasAtMost most) hs → AllByRecursion (HasAtMost most) (gs ++ hs)
few-append most [] hs h k = k
few-append most (g ∷ gs) hs h k = (h.0, few-append most gs hs h.1 k)

module _ (most : ℕ) where
  -- none yet
  pub feeds_none : (load : Load) (o : Option (List ℕ)) → Feeds most load load [] o o
  feeds_none load o = record { commands = []; groups = []; are_commands = tt; few = tt; whole = append-nil load.entries; next = refl; written = Appends-nil o }

  -- these, and then those
  pub feeds_both : (a b c : Load) (es fs : List Entry) (x y z : Option (List ℕ)) → Feeds most a b es x y → Feeds most b c fs y z → Feeds most a c (es ++ fs) x z
  feeds_both a b c es fs x y z first second =
      let then = subst (λ load. Feeds most load c fs y z) first.next second in
      record {
        commands = first.commands ++ then.commands;
        groups = first.groups ++ then.groups;
        are_commands = AreCommands-append a.tenant a.now a.labels first.commands then.commands first.groups then.groups first.are_commands then.are_commands;
        few = few-append most first.groups then.groups first.few then.few;
        whole = whole_both a.entries es fs (concat first.groups) (concat then.groups) b.entries c.entries first.whole then.whole
            ∙ ap (λ l. l ++ c.entries) (sym (flat_map-append (λ (es : List Entry). es) first.groups then.groups));
        next = then.next;
        written = subst (λ l. Appends x z l) (sym (flat_map-append with_feed first.commands then.commands)) (Appends-trans x y z _ _ first.written then.written);
      }

  -- the command of those that wait
  pub feeds_rest : (old new : Load) (command : List ℕ) (x y : Option (List ℕ)) → length old.entries ≤ most → Finishes old new (Some command) → Appends x y (with_feed command) → Feeds most old new [] x y
  feeds_rest old new command x y few finished put =
      let entries : new.entries ≡ [] = ap (λ load. load.entries) finished.1 in
      record {
        commands = command ∷ [];
        groups = old.entries ∷ [];
        are_commands = (finished.0, tt);
        few = (few, tt);
        whole = sym (append-nil (old.entries ++ [])) ∙ ap (λ l. (old.entries ++ []) ++ l) (sym entries);
        next = finished.1 ∙ ap (λ load. record old { last = load.last; entries = load.entries }) (sym finished.1);
        written = subst (λ l. Appends x y l) (sym (append-nil (with_feed command))) put;
      }

  -- one entry, beside those that wait
  pub feeds_beside : (old new : Load) (entry : Entry) (o : Option (List ℕ)) → Takes old new entry None → Feeds most old new (entry ∷ []) o o
  feeds_beside old new entry o taken =
      let is : new ≡ with_entry old entry = taken.2 ∙ ap (λ load. with_entry load entry) taken.1.1 in
      record {
        commands = [];
        groups = [];
        are_commands = tt;
        few = tt;
        whole = sym (ap (λ load. load.entries) is);
        next = is ∙ ap (λ load. record old { last = load.last; entries = load.entries }) (sym is);
        written = Appends-nil o;
      }

  -- one entry, and the command of those that waited
  pub feeds_after : (old new : Load) (entry : Entry) (command : List ℕ) (x y : Option (List ℕ)) → length old.entries ≤ most → Takes old new entry (Some command) → Appends x y (with_feed command) → Feeds most old new (entry ∷ []) x y
  feeds_after old new entry command x y few taken put =
      let is : new ≡ record old { last = Some entry.stamp; entries = entry ∷ [] } = taken.2 ∙ ap (λ load. with_entry load entry) taken.1.2 in
      let entries : new.entries ≡ entry ∷ [] = ap (λ load. load.entries) is in
      record {
        commands = command ∷ [];
        groups = old.entries ∷ [];
        are_commands = (taken.1.1, tt);
        few = (few, tt);
        whole = ap (λ l. old.entries ++ l) (sym entries) ∙ ap (λ l. l ++ new.entries) (sym (append-nil old.entries));
        next = is ∙ ap (λ load. record old { last = load.last; entries = load.entries }) (sym is);
        written = subst (λ l. Appends x y l) (sym (append-nil (with_feed command))) put;
      }

  -- no more wait than there may be
  pub taken_few : (old new : Load) (entry : Entry) (o : Option (List ℕ)) → length old.entries < most → Takes old new entry o → length new.entries ≤ most
  taken_few old new entry None below taken =
      let is : new ≡ with_entry old entry = taken.2 ∙ ap (λ load. with_entry load entry) taken.1.1 in
      rw is (omega (arith, below, length-append old.entries (entry ∷ [])))
  taken_few old new entry (Some command) below taken =
      let is : new ≡ record old { last = Some entry.stamp; entries = entry ∷ [] } = taken.2 ∙ ap (λ load. with_entry load entry) taken.1.2 in
      rw is (omega (arith, below))

  -- all of them, where none waited and none waits
  pub feeds_all : (old new : Load) (entries : List Entry) (x y : Option (List ℕ)) → old.entries ≡ [] → new.entries ≡ [] → Feeds most old new entries x y → FeedsAll most old.tenant old.now old.labels entries x y
  feeds_all old new entries x y before after feeds = record {
    commands = feeds.commands;
    groups = feeds.groups;
    are_commands = feeds.are_commands;
    few = feeds.few;
    whole = ap (λ l. l ++ entries) (sym before) ∙ feeds.whole ∙ ap (λ l. concat feeds.groups ++ l) after ∙ append-nil (concat feeds.groups);
    written = feeds.written;
  }
