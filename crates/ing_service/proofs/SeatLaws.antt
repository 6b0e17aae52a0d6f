-- One shard of a list goes on, and stays the same shard.
use Rattle.std.proofs.Common.{◌≡◌, ◌≢◌, ◌∙◌, ℕ, ◌<◌, All, List, get_or, length, map, set, ap, refl, subst, sym}
use Rattle.std.proofs.Math.Seq.{map-set_same}
use Rattle.std.proofs.lemmas.List.{get_or-map, length-map, map-set}
use Rattle.ing_tally.specs.Books.{BookName}
use Rattle.ing_limits.specs.Settings.{StoreSettings}
use Rattle.ing_durable.specs.Contents.{Contents, IsSameShard}
use Rattle.ing_durable.specs.Flights.{FlightsStay, Flown, IsInFlight}
use Rattle.ing_durable.specs.Kept.{Whose, whose}
use Rattle.ing_service.specs.Flying.{AreApart, FliesIn, IsLentBy}
use Rattle.ing_service.specs.Held.{AreShardsOf}
use Rattle.ing_service.proofs.FlightsLaws.{all_apart, all_stay, flies_here, flies_new, flies_on}
use Rattle.ing_service.proofs.WhoseLaws.{which}

abbrev pub whose_in : {S : Type 0} → (S → Contents) → List S → List Whose
whose_in memory seats = map (λ seat. whose (memory seat)) seats

abbrev pub books_in : {S : Type 0} → (S → Contents) → List S → List BookName
books_in memory seats = map (λ seat. (memory seat).books.flight.name) seats

module _ {S : Type 0} (memory : S → Contents) (seats : List S) (i : ℕ) (d new : S) where
  pub whose_same : IsSameShard (memory (get_or seats i d)) (memory new) → whose_in memory (set seats i new) ≡ whose_in memory seats
  whose_same same = map-set_same (λ seat. whose (memory seat)) seats i new d (λ j. record { settings = same.settings j; number = same.number j })

  pub books_same : IsSameShard (memory (get_or seats i d)) (memory new) → books_in memory (set seats i new) ≡ books_in memory seats
  books_same same = map-set_same (λ seat. (memory seat).books.flight.name) seats i new d (ap (λ names. names.flight) same.books)

  -- what is in flight there is of this number
  pub number_at : (settings : StoreSettings) → AreShardsOf settings (whose_in memory seats) → i < length seats → (f : Flown) → IsSameShard (memory (get_or seats i d)) (memory new) → IsInFlight f (memory new) → f.shard ≡ i
  number_at settings are here f same flies =
      flies.0 ∙ same.number ∙ ap (λ (w : Whose). w.number) (which (λ seat. whose (memory seat)) settings seats are i (get_or seats i d) d here refl)

  -- a share of the book of its shard
  pub lent_at : i < length seats → (f : Flown) (book : BookName) → f.shard ≡ i → book ≡ (memory (get_or seats i d)).books.flight.name → IsLentBy (books_in memory seats) f book
  lent_at here f book at is =
      let name = λ (seat : S). (memory seat).books.flight.name in
      let below : i < length (books_in memory seats) = subst (λ n. i < n) (sym (length-map seats name)) here in (
        subst (λ k. k < length (books_in memory seats)) (sym at) below,
        λ b. is ∙ sym (get_or-map name seats i d b here) ∙ ap (λ k. get_or (books_in memory seats) k b) (sym at),
      )

  -- and such a share is of that book
  pub book_of : i < length seats → (f : Flown) (book : BookName) → f.shard ≡ i → IsLentBy (books_in memory seats) f book → book ≡ (memory (get_or seats i d)).books.flight.name
  book_of here f book at lent =
      let name = λ (seat : S). (memory seat).books.flight.name in
      lent.1 (name d) ∙ ap (λ k. get_or (books_in memory seats) k (name d)) at ∙ get_or-map name seats i d (name d) here

-- what is in flight there, and in the others
module _ {S : Type 0} (memory : S → Contents) (seats : List S) (i : ℕ) (d new : S) (here : i < length seats) where
  memory_here : i < length (map memory seats)
  memory_here = subst (λ n. i < n) (sym (length-map seats memory)) here

  memory_at : memory (get_or seats i d) ≡ get_or (map memory seats) i (memory (get_or seats i d))
  memory_at = sym (get_or-map memory seats i d (memory (get_or seats i d)) here)

  -- it is in flight in this one
  pub flew : (f : Flown) → f.shard ≡ i → FliesIn (map memory seats) f → IsInFlight f (memory (get_or seats i d))
  flew f at flies = flies_here (map memory seats) i (memory (get_or seats i d)) (memory new) memory_here memory_at f at flies

  pub flies_now : (f : Flown) → f.shard ≡ i → IsInFlight f (memory new) → FliesIn (map memory (set seats i new)) f
  flies_now f at flies = subst (λ l. FliesIn l f) (sym (map-set memory seats i new)) (flies_new (map memory seats) i (memory (get_or seats i d)) (memory new) memory_here memory_at f at flies)

  pub goes_there : (f : Flown) → FliesIn (map memory seats) f → (f.shard ≡ i → IsInFlight f (memory (get_or seats i d)) → IsInFlight f (memory new)) → FliesIn (map memory (set seats i new)) f
  goes_there f flies stays = subst (λ l. FliesIn l f) (sym (map-set memory seats i new)) (flies_on (map memory seats) i (memory (get_or seats i d)) (memory new) memory_here memory_at f flies stays)

  module _ {T : Type 0} (of : T → Flown) (tickets : List T) (fly : All (λ t. FliesIn (map memory seats) (of t)) tickets) where
    pub stay_there : FlightsStay (memory (get_or seats i d)) (memory new) → All (λ t. FliesIn (map memory (set seats i new)) (of t)) tickets
    stay_there stay =
        subst (λ l. All (λ t. FliesIn l (of t)) tickets) (sym (map-set memory seats i new)) (all_stay (map memory seats) i (memory (get_or seats i d)) (memory new) memory_here memory_at of tickets fly stay)

    pub apart_there : (t : T) → (of t).shard ≡ i → ((f : Flown) → IsInFlight f (memory (get_or seats i d)) → f.flight ≢ (of t).flight) → All (λ u. AreApart (of u) (of t)) tickets
    apart_there t at apart = all_apart (map memory seats) i (memory (get_or seats i d)) (memory new) memory_here memory_at of tickets fly t at apart

-- it is one of the shards
pub lent_here : {S : Type 0} (memory : S → Contents) (seats : List S) (f : Flown) (book : BookName) → IsLentBy (books_in memory seats) f book → f.shard < length seats
lent_here memory seats f book lent = subst (λ n. f.shard < n) (length-map seats (λ seat. (memory seat).books.flight.name)) lent.0
