use Rattle.std.proofs.Common.{◌≡◌, length, ◌∷◌, ◌++◌, None, Option, Some, refl, subst, sym, ◌∙◌, IfNone, IfSome, IsPermutation, slice_get}
use Rattle.std.proofs.lemmas.Option.{slice_get_read}
use Rattle.slab.specs.Slab.{Updates}
use Rattle.ing_rows.specs.declared.place.Place.TheVariants.{Flight}
use Rattle.ing_checkpoint.specs.Slots.{slot_at}
use Rattle.ing_chunk.specs.Chunks.{in_blocks}
use Rattle.ing_checkpoint.specs.Contents.{flights_of}
use Rattle.ing_checkpoint.specs.Sums.{MoreFly}
use Rattle.ing_rows.specs.Rows.{IsSame}
use Rattle.ing_rows.specs.Steps.{Claims, ClaimsNone}
use Rattle.ing_shard.specs.Flights.{AreApart, flights_among}
use Rattle.ing_shard.specs.Streams.{AreDistinct, StayAmong, key_of, part_of, whole}
use Rattle.ing_shard.proofs.BookLaws.{counts_flown, counts_still}
use Rattle.ing_shard.proofs.ChangeLaws.{kept_here}
use Rattle.ing_shard.proofs.FlightLaws.{apart_claimed, apart_same, claims_whole, free_number, free_slots, none_whole, same_whole}
use Rattle.ing_shard.proofs.FlushLaws.{around_here, free_here, key_here, now_here, same_name, can_settle, settled, settled_keys, settled_whole}
use Rattle.ing_shard.proofs.TenantLaws.{always_on_err}
use Rattle.ing_shard.proofs.StayLaws.{other_number, stay_changed}
use Rattle.ing_shard.proofs.WritableLaws.{put_written}
use Rattle.ing_shard.proofs.streams.Streams.fly.Goals as goal

if_none : {X : Type 0} (o : Option X) (P : Type 0) → ((x : X) → o ≡ Some x → ⊥) → IfNone o P → P
if_none None P not h = h
if_none (Some x) P not h = absurd (not x refl)

pub claim-claimed-requires-clause-kept : goal.claim-claimed-requires-clause-kept
claim-claimed-requires-clause-kept g c = kept_here c.args.self.now c.requires.held (around_here c.args.self.now.list.items _ c.args.number c.index_mut-stream.result.now c.args.self.now.list.ok.0 c.requires.listed c.index_mut-stream.ensures.value)

pub claim-claimed-requires-clause-free : goal.claim-claimed-requires-clause-free
claim-claimed-requires-clause-free g c =
    let split = around_here c.args.self.now.list.items _ c.args.number c.index_mut-stream.result.now c.args.self.now.list.ok.0 c.requires.listed c.index_mut-stream.ensures.value in
    let old = c.args.self.now in
    let f = c.vacant_key-flight.result in
    let none = free_number f old.flights old.list.items c.requires.held.flights c.vacant_key-flight.ensures.vacant in
    free_slots f c.index_mut-stream.result.now (free_here f old.list.items c.args.number c.index_mut-stream.result.now split none)

pub settle-requires : goal.settle-requires
settle-requires g c = can_settle c.args.self.now c.requires.held (around_here c.args.self.now.list.items _ c.args.number c.index_mut-stream.result.now c.args.self.now.list.ok.0 c.requires.listed c.index_mut-stream.ensures.value) c.claim-claimed.ensures.stays c.measure-before.ensures.measure

pub returns-in_err-claim-clause-held : goal.returns-in_err-claim-clause-held
returns-in_err-claim-clause-held g c =
    let split = around_here c.args.self.now.list.items _ c.args.number c.index_mut-stream.result.now c.args.self.now.list.ok.0 c.requires.listed c.index_mut-stream.ensures.value in
    let old = c.args.self.now in
    let st = c.index_mut-stream.result.now in
    let now = c.claim-claimed.new.self in
    settled c.args.self.now c.requires.held split c.claim-claimed.ensures.stays c.measure-before.ensures.measure
    c.settle.new.tenants c.settle.new.stored old.flights c.settle.ensures.find c.settle.ensures.posted c.settle.ensures.known c.settle.ensures.kept c.settle.ensures.stored
    (apart_same old.flights old.flights split.front st now split.back (subst (AreApart old.flights) split.is c.requires.held.flights) c.in_err-claim.ensures.err_flies (λ f. refl))

pub returns-in_err-claim-clause-keys : goal.returns-in_err-claim-clause-keys
returns-in_err-claim-clause-keys g c = settled_keys c.args.self.now c.requires.held (around_here c.args.self.now.list.items _ c.args.number c.index_mut-stream.result.now c.args.self.now.list.ok.0 c.requires.listed c.index_mut-stream.ensures.value) c.claim-claimed.ensures.stays c.measure-before.ensures.measure

pub returns-in_err-claim-clause-err : goal.returns-in_err-claim-clause-err
returns-in_err-claim-clause-err g c =
    let split = around_here c.args.self.now.list.items _ c.args.number c.index_mut-stream.result.now c.args.self.now.list.ok.0 c.requires.listed c.index_mut-stream.ensures.value in
    let st = c.index_mut-stream.result.now in
    always_on_err c.from_residual.result (settled_whole c.args.self.now c.requires.held split c.claim-claimed.ensures.stays c.measure-before.ensures.measure (λ olds news. IsSame (whole news) (whole olds))
    (same_whole split.front st c.claim-claimed.new.self split.back c.in_err-claim.ensures.err))

pub returns-in_default-clause-held : goal.returns-in_default-clause-held
returns-in_default-clause-held g c =
    let split = around_here c.args.self.now.list.items _ c.args.number c.index_mut-stream.result.now c.args.self.now.list.ok.0 c.requires.listed c.index_mut-stream.ensures.value in
    let old = c.args.self.now in
    let st = c.index_mut-stream.result.now in
    let now = c.claim-claimed.new.self in
    settled c.args.self.now c.requires.held split c.claim-claimed.ensures.stays c.measure-before.ensures.measure
    c.settle.new.tenants c.settle.new.stored old.flights c.settle.ensures.find c.settle.ensures.posted c.settle.ensures.known c.settle.ensures.kept c.settle.ensures.stored
    (apart_same old.flights old.flights split.front st now split.back (subst (AreApart old.flights) split.is c.requires.held.flights) (if_none c.in_ok-claim.field-0 _ c.in_default.not-Some c.in_ok-claim.ensures.still) (λ f. refl))

pub returns-in_default-clause-keys : goal.returns-in_default-clause-keys
returns-in_default-clause-keys g c = settled_keys c.args.self.now c.requires.held (around_here c.args.self.now.list.items _ c.args.number c.index_mut-stream.result.now c.args.self.now.list.ok.0 c.requires.listed c.index_mut-stream.ensures.value) c.claim-claimed.ensures.stays c.measure-before.ensures.measure

pub returns-in_default-clause-none : goal.returns-in_default-clause-none
returns-in_default-clause-none g c s named =
    let split = around_here c.args.self.now.list.items _ c.args.number c.index_mut-stream.result.now c.args.self.now.list.ok.0 c.requires.listed c.index_mut-stream.ensures.value in
    let items = c.args.self.now.list.items in
    let st = c.index_mut-stream.result.now in
    let key = key_here items c.args.number st s (slice_get_read items _ c.args.number st c.args.self.now.list.ok.0 c.requires.listed c.index_mut-stream.ensures.value) named in
    settled_whole c.args.self.now c.requires.held split c.claim-claimed.ensures.stays c.measure-before.ensures.measure (λ olds news. ClaimsNone s (whole olds) (whole news))
    (subst (λ k. ClaimsNone k (whole (split.front ++ st ∷ split.back)) (whole (split.front ++ c.claim-claimed.new.self ∷ split.back))) key
    (none_whole c.flushes_are_apart.ensures c.flushes_have_no_order.ensures split.front st c.claim-claimed.new.self split.back (subst AreDistinct split.is c.requires.held.distinct)
    (if_none c.in_ok-claim.field-0 (ClaimsNone (key_of st) (part_of st) (part_of c.claim-claimed.new.self)) c.in_default.not-Some c.in_ok-claim.ensures.none)))

pub returns-clause-held : goal.returns-clause-held
returns-clause-held g c =
    let split = around_here c.args.self.now.list.items _ c.args.number c.index_mut-stream.result.now c.args.self.now.list.ok.0 c.requires.listed c.index_mut-stream.ensures.value in
    let old = c.args.self.now in
    let st = c.index_mut-stream.result.now in
    let now = c.claim-claimed.new.self in
    settled c.args.self.now c.requires.held split c.claim-claimed.ensures.stays c.measure-before.ensures.measure
    c.settle.new.tenants c.settle.new.stored c.insert_reserved.new.self c.settle.ensures.find c.settle.ensures.posted c.settle.ensures.known c.settle.ensures.kept c.settle.ensures.stored
    (apart_claimed old.flights c.insert_reserved.new.self c.vacant_key-flight.result tt split.front st now split.back (subst (AreApart old.flights) split.is c.requires.held.flights) c.vacant_key-flight.ensures.vacant
    (subst (λ k. Updates old.flights c.insert_reserved.new.self k (Some tt)) (c.insert_reserved.ensures.key ∙ sym c.vacant_key-flight.ensures.value) c.insert_reserved.ensures.updates)
    (subst (λ o. IfSome o (λ claim. IsPermutation (flights_of now.chunks.sealed) (c.vacant_key-flight.result ∷ flights_of st.chunks.sealed))) c.in-Some.is c.in_ok-claim.ensures.flies))

pub returns-clause-keys : goal.returns-clause-keys
returns-clause-keys g c = settled_keys c.args.self.now c.requires.held (around_here c.args.self.now.list.items _ c.args.number c.index_mut-stream.result.now c.args.self.now.list.ok.0 c.requires.listed c.index_mut-stream.ensures.value) c.claim-claimed.ensures.stays c.measure-before.ensures.measure

pub returns-clause-flies : goal.returns-clause-flies
returns-clause-flies g c =
    let split = around_here c.args.self.now.list.items _ c.args.number c.index_mut-stream.result.now c.args.self.now.list.ok.0 c.requires.listed c.index_mut-stream.ensures.value in
    let items = c.args.self.now.list.items in
    let st = c.index_mut-stream.result.now in
    let now = c.claim-claimed.new.self in
    let f = c.vacant_key-flight.result in
    let claim = c.in-Some.claim in
    let done = c.in_ok-claim.ensures in
    let none = free_number f c.args.self.now.flights items c.requires.held.flights c.vacant_key-flight.ensures.vacant in
    record {
      st = st;
      was = slice_get_read items _ c.args.number st c.args.self.now.list.ok.0 c.requires.listed c.index_mut-stream.ensures.value;
      now = now;
      is = now_here items c.args.number st now split;
      key = same_name st now done.stays;
      claims = settled_whole c.args.self.now c.requires.held split c.claim-claimed.ensures.stays c.measure-before.ensures.measure (λ olds news. Claims (key_of st) claim.chunk.value.first f (whole olds) (whole news))
          (claims_whole c.flushes_are_apart.ensures c.flushes_have_no_order.ensures f claim.chunk.value.first split.front st now split.back
          (subst AreDistinct split.is c.requires.held.distinct) (subst (λ l. flights_among f l ≡ 0) split.is none)
          (subst (λ o. IfSome o (λ x. Claims (key_of st) x.chunk.value.first f (part_of st) (part_of now))) c.in-Some.is done.claims));
      stands = subst (λ o. IfSome o (λ x. slice_get now.chunks.sealed x.index ≡ Some (slot_at (Flight f) x.chunk.value))) c.in-Some.is done.claimed;
    }

pub returns-in_err-claim-clause-stay : goal.returns-in_err-claim-clause-stay
returns-in_err-claim-clause-stay g c =
    let split = around_here c.args.self.now.list.items _ c.args.number c.index_mut-stream.result.now c.args.self.now.list.ok.0 c.requires.listed c.index_mut-stream.ensures.value in
    settled_whole c.args.self.now c.requires.held split c.claim-claimed.ensures.stays c.measure-before.ensures.measure StayAmong
    (stay_changed split.front _ _ split.back (same_name _ _ c.claim-claimed.ensures.stays) c.claim-claimed.ensures.stay)

pub returns-in_default-clause-stay : goal.returns-in_default-clause-stay
returns-in_default-clause-stay g c =
    let split = around_here c.args.self.now.list.items _ c.args.number c.index_mut-stream.result.now c.args.self.now.list.ok.0 c.requires.listed c.index_mut-stream.ensures.value in
    settled_whole c.args.self.now c.requires.held split c.claim-claimed.ensures.stays c.measure-before.ensures.measure StayAmong
    (stay_changed split.front _ _ split.back (same_name _ _ c.claim-claimed.ensures.stays) c.claim-claimed.ensures.stay)

pub returns-clause-stay : goal.returns-clause-stay
returns-clause-stay g c =
    let split = around_here c.args.self.now.list.items _ c.args.number c.index_mut-stream.result.now c.args.self.now.list.ok.0 c.requires.listed c.index_mut-stream.ensures.value in
    settled_whole c.args.self.now c.requires.held split c.claim-claimed.ensures.stays c.measure-before.ensures.measure StayAmong
    (stay_changed split.front _ _ split.back (same_name _ _ c.claim-claimed.ensures.stays) c.claim-claimed.ensures.stay)

pub returns-clause-apart : goal.returns-clause-apart
returns-clause-apart g c =
    let old = c.args.self.now in
    other_number c.vacant_key-flight.result old.list.items (free_number c.vacant_key-flight.result old.flights old.list.items c.requires.held.flights c.vacant_key-flight.ensures.vacant)

pub returns-in_err-claim-clause-err_counts : goal.returns-in_err-claim-clause-err_counts
returns-in_err-claim-clause-err_counts g c =
    let split = around_here c.args.self.now.list.items _ c.args.number c.index_mut-stream.result.now c.args.self.now.list.ok.0 c.requires.listed c.index_mut-stream.ensures.value in
    always_on_err _ (counts_still c.args.self.now c.claim-claimed.new.self split c.measure-before.ensures.measure c.settle.new.stored c.settle.ensures.stored c.in_err-claim.ensures.err_flying c.in_err-claim.ensures.err_flies)

pub returns-in_default-clause-still : goal.returns-in_default-clause-still
returns-in_default-clause-still g c =
    let split = around_here c.args.self.now.list.items _ c.args.number c.index_mut-stream.result.now c.args.self.now.list.ok.0 c.requires.listed c.index_mut-stream.ensures.value in
    counts_still c.args.self.now c.claim-claimed.new.self split c.measure-before.ensures.measure c.settle.new.stored c.settle.ensures.stored
    (if_none c.in_ok-claim.field-0 _ c.in_default.not-Some c.in_ok-claim.ensures.none_flying) (if_none c.in_ok-claim.field-0 _ c.in_default.not-Some c.in_ok-claim.ensures.still)

pub returns-clause-counts : goal.returns-clause-counts
returns-clause-counts g c =
    let split = around_here c.args.self.now.list.items _ c.args.number c.index_mut-stream.result.now c.args.self.now.list.ok.0 c.requires.listed c.index_mut-stream.ensures.value in
    let st = c.index_mut-stream.result.now in
    let now = c.claim-claimed.new.self in
    let done = c.in_ok-claim.ensures in
    counts_flown c.args.self.now now split c.measure-before.ensures.measure c.settle.new.stored c.settle.ensures.stored _ c.vacant_key-flight.result
    (subst (λ o. IfSome o (λ claim. MoreFly (length (in_blocks claim.chunk.value.blocks)) st.chunks.sealed now.chunks.sealed)) c.in-Some.is done.flying)
    (subst (λ o. IfSome o (λ claim. IsPermutation (flights_of now.chunks.sealed) (c.vacant_key-flight.result ∷ flights_of st.chunks.sealed))) c.in-Some.is done.flies)

pub returns-in_err-claim-clause-writable : goal.returns-in_err-claim-clause-writable
returns-in_err-claim-clause-writable g c target = put_written target (around_here c.args.self.now.list.items _ c.args.number c.index_mut-stream.result.now c.args.self.now.list.ok.0 c.requires.listed c.index_mut-stream.ensures.value) c.claim-claimed.new.self (c.claim-claimed.ensures.writable target)

pub returns-in_default-clause-writable : goal.returns-in_default-clause-writable
returns-in_default-clause-writable g c target = put_written target (around_here c.args.self.now.list.items _ c.args.number c.index_mut-stream.result.now c.args.self.now.list.ok.0 c.requires.listed c.index_mut-stream.ensures.value) c.claim-claimed.new.self (c.claim-claimed.ensures.writable target)

pub returns-clause-writable : goal.returns-clause-writable
returns-clause-writable g c target = put_written target (around_here c.args.self.now.list.items _ c.args.number c.index_mut-stream.result.now c.args.self.now.list.ok.0 c.requires.listed c.index_mut-stream.ensures.value) c.claim-claimed.new.self (c.claim-claimed.ensures.writable target)
