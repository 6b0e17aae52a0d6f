-- What open tickets keep.
use Rattle.std.proofs.Common.{◌≡◌, ◌≢◌, ℕ, zero, suc, inl, inr, ◌⊎◌, ◌<◌, List, [], ◌∷◌, ◌++◌, length, refl, ap, sym, ◌∙◌, subst, arith, get_or, set, Option, Some, None}
use Rattle.std.specs.Prelude.{slice_get}
use Rattle.std.proofs.lemmas.List.{set-get_or}
use Rattle.std.proofs.lemmas.Option.{slice_get-get_or}
use Rattle.ing_tally.specs.Books.{BookName, ShareState}
use Rattle.ing_shard.specs.Contents.{AreSharesOf, Contents, IsOnly, IsSameShard}
use Rattle.ing_shard.specs.Flights.{FlightsStay, Flown, IsInFlight, OtherFlightsStay}
use Rattle.ing_world.specs.declared.event.Object.{Object}
use Rattle.ing_world.specs.declared.event.Object.TheVariants.{Chunk, Row}
use Rattle.ing_world.specs.Held.{TicketsAreHeld}
use Rattle.ing_world.specs.Worlds.{Becomes, OpenState, joined, open_at, opened, with_object}

abbrev pub Tickets : Type 0
Tickets = List (Option OpenState)

same_or : (u t : ℕ) → (u ≡ t) ⊎ (u ≢ t)
same_or zero zero = inl refl
same_or zero (suc t) = inr (λ is. omega (arith, is))
same_or (suc u) zero = inr (λ is. omega (arith, is))
same_or (suc u) (suc t) = by (same_or u t) where
  by : (u ≡ t) ⊎ (u ≢ t) → (suc u ≡ suc t) ⊎ (suc u ≢ suc t)
  by (inl is) = inl (ap suc is)
  by (inr other) = inr (λ is. other (omega (arith, is)))

-- ---- where a ticket is

set_same : (ts : Tickets) (t : ℕ) (o : Option OpenState) → t < length ts → slice_get (set ts t o) t ≡ Some o
set_same [] t o below = absurd (omega arith)
set_same (x ∷ ts) zero o below = refl
set_same (x ∷ ts) (suc t) o below = let less : t < length ts = omega arith in set_same ts t o less

set_other : (ts : Tickets) (t u : ℕ) (o : Option OpenState) → u ≢ t → slice_get (set ts t o) u ≡ slice_get ts u
set_other [] t u o other = refl
set_other (x ∷ ts) zero zero o other = absurd (other refl)
set_other (x ∷ ts) zero (suc u) o other = refl
set_other (x ∷ ts) (suc t) zero o other = refl
set_other (x ∷ ts) (suc t) (suc u) o other = set_other ts t u o (λ same. other (ap suc same))

-- a ticket that is written becomes what was written
pub becomes : (ts : Tickets) (t : ℕ) (o : Option OpenState) → t < length ts → Becomes t o ts (set ts t o)
becomes ts t o below = record { at = set_same ts t o below; others = λ u other. set_other ts t u o other }

-- what an index gives is the ticket there, and to write it again changes nothing
pub is_there : (ts : Tickets) (t : ℕ) (o : Option OpenState) → t < length ts → o ≡ get_or ts t o → open_at ts t ≡ o
is_there ts t o below is = ap joined (slice_get-get_or ts t o below ∙ ap (λ p. Some p) (sym is))

pub unchanged : (ts : Tickets) (t : ℕ) (o : Option OpenState) → o ≡ get_or ts t o → set ts t o ≡ ts
unchanged ts t o is = ap (set ts t) is ∙ set-get_or ts t o

-- the last of one ticket more is that ticket
pub open_more : (ts : Tickets) (o p : OpenState) (t : ℕ) → open_at (ts ++ Some o ∷ []) t ≡ Some p → (open_at ts t ≡ Some p) ⊎ ((t ≡ length ts) × (p ≡ o))
open_more [] o p zero is = inr (refl, cc)
open_more [] o p (suc t) is = absurd cc
open_more (x ∷ ts) o p zero is = inl is
open_more (x ∷ ts) o p (suc t) is = by (open_more ts o p t is) where
  by : (open_at ts t ≡ Some p) ⊎ ((t ≡ length ts) × (p ≡ o)) → (open_at ts t ≡ Some p) ⊎ ((suc t ≡ suc (length ts)) × (p ≡ o))
  by (inl there) = inl there
  by (inr last) = inr (ap suc last.0, last.1)

past : (ts : Tickets) (o : OpenState) → open_at ts (length ts) ≡ Some o → ⊥
past [] o is = cc
past (x ∷ ts) o is = past ts o is

-- each but the last of one ticket more is where it was
pub open_before : (ts : Tickets) (x : Option OpenState) (t : ℕ) (o : OpenState) → open_at ts t ≡ Some o → open_at (ts ++ x ∷ []) t ≡ Some o
open_before [] x t o is = absurd cc
open_before (y ∷ ts) x zero o is = is
open_before (y ∷ ts) x (suc t) o is = open_before ts x t o is

pub open_last : (ts : Tickets) (o : OpenState) → open_at (ts ++ Some o ∷ []) (length ts) ≡ Some o
open_last [] o = refl
open_last (x ∷ ts) o = open_last ts o

-- ---- what is held

-- the only shard stays the only one
pub only_on : (old new : Contents) → IsOnly old → IsSameShard old new → IsOnly new
only_on old new only same = record { one = ap (λ s. s.shards) same.settings ∙ only.one; first = same.number ∙ only.first }

-- what was in flight stays so
pub held_on : (old new : Contents) (ts : Tickets) → TicketsAreHeld old ts → FlightsStay old new → IsSameShard old new → TicketsAreHeld new ts
held_on old new ts held stay same =
    record {
      flies = λ t o is. stay o.flown (held.flies t o is);
      lent = λ t o is. held.lent t o is ∙ sym (ap (λ n. n.flight) same.books);
      apart = held.apart;
      only = only_on old new held.only same;
    }

-- and the shares stay those of its books
pub shares_on : (old new : Contents) (p q pushing tally : ShareState) → AreSharesOf old.books p q → IsSameShard old new → pushing.book ≡ p.book → tally.book ≡ q.book → AreSharesOf new.books pushing tally
shares_on old new p q pushing tally shares same one other = record {
  accepted = one ∙ shares.accepted ∙ sym (ap (λ n. n.accepted) same.books);
  stored = other ∙ shares.stored ∙ sym (ap (λ n. n.stored) same.books);
}

pub with_flown : (object : Object) (o : OpenState) → (with_object object o).flown ≡ o.flown
with_flown Chunk o = refl
with_flown Row o = refl

pub with_book : (object : Object) (o : OpenState) → (with_object object o).book ≡ o.book
with_book Chunk o = refl
with_book Row o = refl

-- a ticket has one receipt more
pub held_with : (shard : Contents) (ts us : Tickets) (t : ℕ) (o p : OpenState) → TicketsAreHeld shard ts → open_at ts t ≡ Some o → p.flown ≡ o.flown → p.book ≡ o.book → Becomes t (Some p) ts us
    → TicketsAreHeld shard us
held_with shard ts us t o p held there same booked changed =
    record {
      flies = λ u q is. (let was = before u q is in subst (λ f. IsInFlight f shard) was.2 (held.flies u was.0 was.1));
      lent = λ u q is. (let was = before u q is in sym was.3 ∙ held.lent u was.0 was.1);
      apart = λ u v q r is has flight.
          (let one = before u q is in let other = before v r has in
          held.apart u v one.0 other.0 one.1 other.1 (ap (λ f. f.flight) one.2 ∙ flight ∙ sym (ap (λ f. f.flight) other.2)));
      only = held.only;
    } where
      before : (u : ℕ) (q : OpenState) → open_at us u ≡ Some q → (r : OpenState) × (open_at ts u ≡ Some r) × (r.flown ≡ q.flown) × (r.book ≡ q.book)
      before u q is = by (same_or u t) where
        by : (u ≡ t) ⊎ (u ≢ t) → (r : OpenState) × (open_at ts u ≡ Some r) × (r.flown ≡ q.flown) × (r.book ≡ q.book)
        by (inl at) =
            let now : open_at us t ≡ Some p = ap joined changed.at in
            let both : Some p ≡ Some q = sym now ∙ ap (open_at us) (sym at) ∙ is in
            let is_q : p ≡ q = cc in
            (o, ap (open_at ts) at ∙ there, sym same ∙ ap (λ x. x.flown) is_q, sym booked ∙ ap (λ x. x.book) is_q)
        by (inr other) = (q, ap joined (sym (changed.others u other)) ∙ is, refl, refl)

-- one ticket more, for a chunk in a flight of its own
pub held_more : (old new : Contents) (ts : Tickets) (f : Flown) (book : BookName) → TicketsAreHeld old ts → FlightsStay old new → IsSameShard old new → IsInFlight f new
    → ((g : Flown) → IsInFlight g old → g.flight ≢ f.flight) → book ≡ old.books.flight.name → TicketsAreHeld new (ts ++ Some (opened f book) ∷ [])
held_more old new ts f book held stay same flies apart mine =
    record {
      flies = λ t p is. in_flight t p (open_more ts (opened f book) p t is);
      lent = λ t p is. is_lent t p (open_more ts (opened f book) p t is);
      apart = λ t u p q is has flight. alone t u p q flight (open_more ts (opened f book) p t is) (open_more ts (opened f book) q u has);
      only = only_on old new held.only same;
    } where
      is_lent : (t : ℕ) (p : OpenState) → (open_at ts t ≡ Some p) ⊎ ((t ≡ length ts) × (p ≡ opened f book)) → p.book ≡ new.books.flight.name
      is_lent t p (inl there) = held.lent t p there ∙ sym (ap (λ n. n.flight) same.books)
      is_lent t p (inr last) = ap (λ o. o.book) last.1 ∙ mine ∙ sym (ap (λ n. n.flight) same.books)

      in_flight : (t : ℕ) (p : OpenState) → (open_at ts t ≡ Some p) ⊎ ((t ≡ length ts) × (p ≡ opened f book)) → IsInFlight p.flown new
      in_flight t p (inl there) = stay p.flown (held.flies t p there)
      in_flight t p (inr last) = subst (λ o. IsInFlight o.flown new) (sym last.1) flies

      alone : (t u : ℕ) (p q : OpenState) → p.flown.flight ≡ q.flown.flight → (open_at ts t ≡ Some p) ⊎ ((t ≡ length ts) × (p ≡ opened f book))
          → (open_at ts u ≡ Some q) ⊎ ((u ≡ length ts) × (q ≡ opened f book)) → t ≡ u
      alone t u p q flight (inl there) (inl other) = held.apart t u p q there other flight
      alone t u p q flight (inl there) (inr last) = absurd (apart p.flown (held.flies t p there) (flight ∙ ap (λ o. o.flown.flight) last.1))
      alone t u p q flight (inr last) (inl there) = absurd (apart q.flown (held.flies u q there) (sym flight ∙ ap (λ o. o.flown.flight) last.1))
      alone t u p q flight (inr last) (inr other) = last.0 ∙ sym other.0

-- a ticket is closed, and its chunk flies no more
pub held_without : (old new : Contents) (ts us : Tickets) (t : ℕ) (o : OpenState) → TicketsAreHeld old ts → OtherFlightsStay o.flown.flight old new → IsSameShard old new
    → open_at ts t ≡ Some o → Becomes t None ts us → TicketsAreHeld new us
held_without old new ts us t o held stay same there changed =
    record {
      lent = λ u p is. held.lent u p (before u p is).0 ∙ sym (ap (λ n. n.flight) same.books);
      flies = λ u p is. (let was = before u p is in stay p.flown (λ flight. was.1 (held.apart u t p o was.0 there flight)) (held.flies u p was.0));
      apart = λ u v p q is has flight. held.apart u v p q (before u p is).0 (before v q has).0 flight;
      only = only_on old new held.only same;
    } where
      before : (u : ℕ) (p : OpenState) → open_at us u ≡ Some p → (open_at ts u ≡ Some p) × (u ≢ t)
      before u p is = (ap joined (sym (changed.others u other)) ∙ is, other) where
        other : u ≢ t
        other at = let now : open_at us t ≡ None = ap joined changed.at in let both : None ≡ Some p = sym now ∙ ap (open_at us) (sym at) ∙ is in cc

-- a ticket that was taken out and put back is as it was
pub held_again : (shard : Contents) (ts us vs : Tickets) (t : ℕ) (o : OpenState) → TicketsAreHeld shard ts → open_at ts t ≡ Some o → Becomes t None ts us → Becomes t (Some o) us vs → TicketsAreHeld shard vs
held_again shard ts us vs t o held there out back =
    record {
      flies = λ u p is. held.flies u p (before u p is);
      lent = λ u p is. held.lent u p (before u p is);
      apart = λ u v p q is has flight. held.apart u v p q (before u p is) (before v q has) flight;
      only = held.only;
    } where
      before : (u : ℕ) (p : OpenState) → open_at vs u ≡ Some p → open_at ts u ≡ Some p
      before u p is = by (same_or u t) where
        by : (u ≡ t) ⊎ (u ≢ t) → open_at ts u ≡ Some p
        by (inl at) = ap (open_at ts) at ∙ there ∙ sym (ap joined back.at) ∙ ap (open_at vs) (sym at) ∙ is
        by (inr other) = sym (ap joined (out.others u other)) ∙ sym (ap joined (back.others u other)) ∙ is
