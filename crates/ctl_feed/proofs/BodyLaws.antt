-- Bodies of an input, and what is written of them.
use Rattle.std.proofs.Common.{◌≡◌, ℕ, ◌+◌, List, [], ◌∷◌, ◌++◌, Option, Some, refl, sym, ap, subst, ◌∙◌, arith, append_assoc, append-nil, length-append, inl}
use Rattle.std.specs.Prelude.{IfSome}
use Rattle.std.specs.Io.KnownBytes.{Appends}
use Rattle.std.proofs.lemmas.Grind.{flat_map-append}
use Rattle.ctl_feed.specs.declared.lines.NextLine.TheVariants.{Line, End}
use Rattle.ctl_feed.specs.declared.lines.NextLine.TheVariants as NextLine
use Rattle.ctl_feed.specs.declared.wrap.WrapFault.{WrapFault}
use Rattle.ctl_feed.specs.declared.wrap.WrapFault.TheVariants.{TooLong}
use Rattle.ctl_feed.specs.Lines.{TakesLine, lines_of, with_feed}
use Rattle.ctl_feed.specs.Pushes.{max_line}
use Rattle.ctl_feed.specs.Wraps.{AreWrapped, IsRefused, IsWrapped, Wraps, WrapsAll, WrapsFront, WrapsUntil}
use Rattle.ctl_feed.proofs.InputLaws.{Appends-nil, Appends-trans}

module _ (tenant : List ℕ) (now : ℕ) where
  one_more : (bodies lines : List (List ℕ)) (body line : List ℕ) → AreWrapped tenant now bodies lines → IsWrapped tenant now body line → AreWrapped tenant now (bodies ++ body ∷ []) (lines ++ line ∷ [])
  one_more [] [] body line h k = (k, tt)
  one_more [] (l ∷ ls) body line h k = absurd h
  one_more (b ∷ bs) [] body line h k = absurd h
  one_more (b ∷ bs) (l ∷ ls) body line h k = (h.0, one_more bs ls body line h.1 k)

  pub front_begins : (input : List ℕ) (left o : Option (List ℕ)) → left ≡ Some input → WrapsFront tenant now input left o o 1
  front_begins input left o is = record {
    bodies = [];
    rest = input;
    left_is = is;
    all = refl;
    numbered = refl;
    wraps = record { lines = []; are_wrapped = tt; written = Appends-nil o };
  }

  pub front_more : (input body line : List ℕ) (left new x y z : Option (List ℕ)) (n : ℕ) → WrapsFront tenant now input left x y n → IfSome left (λ old. TakesLine max_line old new body Line)
      → IsWrapped tenant now body line → Appends y z (with_feed line) → WrapsFront tenant now input new x z (n + 1)
  front_more input body line left new x y z n front next wrapped put =
      let more = rw front.left_is at next in
      record {
        bodies = front.bodies ++ body ∷ [];
        rest = more.0;
        left_is = more.1;
        all = front.all ∙ ap (λ ls. front.bodies ++ ls) more.2 ∙ sym (append_assoc front.bodies (body ∷ []) (lines_of more.0));
        numbered = omega (arith, front.numbered, length-append front.bodies (body ∷ []));
        wraps = record {
          lines = front.wraps.lines ++ line ∷ [];
          are_wrapped = one_more front.bodies front.wraps.lines body line front.wraps.are_wrapped wrapped;
          written = subst (λ l. Appends x z l) (sym (flat_map-append with_feed front.wraps.lines (line ∷ [])))
              (Appends-trans x y z _ _ front.wraps.written (subst (λ l. Appends y z l) (sym (append-nil (with_feed line))) put));
        };
      }

  pub front_ends : (input body : List ℕ) (left new x y : Option (List ℕ)) (n : ℕ) → WrapsFront tenant now input left x y n → IfSome left (λ old. TakesLine max_line old new body End) → WrapsAll tenant now input new x y
  front_ends input body left new x y n front next =
      let none = rw front.left_is at next in
      (none.1, subst (λ ls. Wraps tenant now ls x y) (sym (front.all ∙ ap (λ ls. front.bodies ++ ls) none.0 ∙ append-nil front.bodies)) front.wraps)

  pub refused_here : (input body : List ℕ) (left new x y z : Option (List ℕ)) (n : ℕ) (fault : WrapFault) → WrapsFront tenant now input left x y n → IfSome left (λ old. TakesLine max_line old new body Line)
      → IsRefused tenant now body fault × (z ≡ y) → WrapsUntil tenant now input new x z n fault
  refused_here input body left new x y z n fault front next refused =
      let more = rw front.left_is at next in
      rw refused.1 (record {
        bodies = front.bodies;
        body = body;
        rest = more.0;
        left_is = more.1;
        all = front.all ∙ ap (λ ls. front.bodies ++ ls) more.2;
        numbered = front.numbered;
        refused = refused.0;
        wraps = front.wraps;
      })

  pub skipped_here : (input kept : List ℕ) (left new x y : Option (List ℕ)) (n : ℕ) → WrapsFront tenant now input left x y n → IfSome left (λ old. TakesLine max_line old new kept NextLine.TooLong) → WrapsUntil tenant now input new x y n TooLong
  skipped_here input kept left new x y n front next =
      let more = rw front.left_is at next in
      record {
        bodies = front.bodies;
        body = more.0;
        rest = more.1;
        left_is = more.2;
        all = front.all ∙ ap (λ ls. front.bodies ++ ls) more.3;
        numbered = front.numbered;
        refused = inl more.4;
        wraps = front.wraps;
      }
