use Rattle.std.proofs.Common.{◌≡◌, ◌<◌, length, get_or, Some, None, refl, ap, sym, ◌∙◌, arith, slice_get}
use Rattle.std.specs.Option.{option_map}
use Rattle.std.proofs.lemmas.Option.{slice_get-map, slice_get_past, slice_get_read}
use Rattle.ing_rows.specs.Rows.{StreamKey}
use Rattle.ing_shard.specs.OneStream.{Stream}
use Rattle.ing_shard.specs.Streams.{key_of}
use Rattle.ing_shard.proofs.RowLaws.{front_rows}
use Rattle.ing_shard.proofs.streams.Streams.front_of.Goals as goal

-- the stream that was found is the one of the number
found : (g : _) (c : goal.In_ok-front-in-Some g) → slice_get c.args.self.now.list.items c.args.number ≡ Some c.in-Some.stream.now
found g c =
    let list = c.args.self.now.list.items in
    let same = ap (λ l. length l) c.deref.ensures.value in
    let within : c.args.number < length list = omega (arith, same, c.in-Some.ensures.lookup) in
    let st : Stream = c.in-Some.stream.now in
    slice_get_read list (length list) c.args.number st refl within (c.in-Some.ensures.lookup.1 ∙ ap (λ l. get_or l c.args.number st) c.deref.ensures.value)

pub returns-in_ok-front-in-Some-clause-key : goal.returns-in_ok-front-in-Some-clause-key
returns-in_ok-front-in-Some-clause-key g c =
    let list = c.args.self.now.list.items in
    let front = c.in_ok-front-in-Some.ensures in
    let key : ◌≡◌ {A = StreamKey} (record { tenant = c.in_ok-front-in-Some.field-0.tenant; name = c.in_ok-front-in-Some.field-0.name }) (key_of c.in-Some.stream.now) =
    λ i. record { tenant = front.tenant i; name = front.name i } in
    ap Some key ∙ sym (slice_get-map key_of list c.args.number ∙ ap (option_map key_of) (found g c))

pub returns-in_ok-front-in-Some-clause-front : goal.returns-in_ok-front-in-Some-clause-front
returns-in_ok-front-in-Some-clause-front g c =
    let front = c.in_ok-front-in-Some.ensures in
    let out = c.in_ok-front-in-Some.field-0 in
    front_rows c.args.self.now.list.items c.args.number c.in-Some.stream.now out.tenant out.name out.front c.requires.distinct c.requires.kept (found g c) front.tenant front.name front.front

pub returns-in-None-clause-key : goal.returns-in-None-clause-key
returns-in-None-clause-key g c =
    let list = c.args.self.now.list.items in
    let same = ap (λ l. length l) c.deref.ensures.value in
    let none : slice_get list c.args.number ≡ None = slice_get_past list c.args.number (omega (arith, same, c.in-None.ensures.lookup)) in
    sym (slice_get-map key_of list c.args.number ∙ ap (option_map key_of) none)
