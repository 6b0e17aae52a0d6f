-- A command that is refused has a member at fault, and the walk finds one.
use Rattle.std.proofs.Common.{◌≡◌, ◌⊎◌, ℕ, zero, suc, ◌+◌, ◌^◌, Bool, true, false, ◌||◌, ◌&&◌, not, cond, List, [], ◌∷◌, Option, Some, None, Result, Ok, Err, refl, sym, ap, ◌∙◌, inl, inr}
use Rattle.std.specs.Prelude.{codes, bytes_eq, option_map, is_none}
use Rattle.std.specs.List.{list_any}
use Rattle.std.specs.Option.{option_or, unwrap_or, ok_or}
use Rattle.serde_json.specs.Data.{Data, Items, no_items, item, Members, no_members, member}
use Rattle.serde_json.specs.Find.{get, get_item}
use Rattle.ing_refusals.specs.Results.{◌>>=◌}
use Rattle.ing_rows.specs.Texts.{is_tenant, stamp_of}
use Rattle.ing_commands.specs.declared.fault.LineFault.{LineFault}
use Rattle.ing_commands.specs.declared.fault.LineFault.TheVariants.{NoMemory, BadCommand, Metadata, BadTenant, BadStamp}
use Rattle.ing_commands.specs.Commands.{said_by, said_as, pushed, swept, flushed, asked, queried, listed, Command, Board, Checkpoint}
use Rattle.ing_commands.specs.CatalogCommands.{CatalogCommand, labels_of, series_of}
use Rattle.ing_commands.specs.FlushCommands.{flush_of}
use Rattle.ing_commands.specs.GaugesCommands.{gauges_of, GaugesCommand}
use Rattle.ing_commands.specs.PushCommands.{RawValue, RawStream, RawPush, raw_value, raw_labels, raw_stream, raw_push, has_metadata, is_no_stamp, has_bad_value, push_said_by, checked, push_of}
use Rattle.ing_commands.specs.QueryCommands.{RawCursor, RawQuery, after_at, behind_of, raw_query, query_of, limit_at, order_of, tenant_of, end_of}
use Rattle.ing_commands.specs.QueryCommands as queries
use Rattle.ing_commands.specs.Shapes.{text_of, text_at, text_or, maybe_text_at, flag_at, array_at, object_at, each}
use Rattle.ing_commands.specs.SweepCommands.{sweep_of}
use Rattle.ctl_explain.specs.declared.member.Field.{Field}
use Rattle.ctl_explain.specs.declared.member.Field.TheVariants.{Cmd, Tenant, Now, Streams, Query, Start, End, Limit, Direction, After, Pages, Forced, Selector, Name}
use Rattle.ctl_explain.specs.declared.member.Part.TheVariants as part
use Rattle.ctl_explain.specs.declared.member.Member.TheVariants.{Own, OfStream}
use Rattle.ctl_explain.specs.Members.{Test, test_cmd, test_tenant, test_stamp, test_after, test_end, test_direction, test_raw, field_test, part_test, label_test, value_test, label_in}
use Rattle.ctl_explain.specs.Walks.{is_fault, value_has, label_has, first_item, first_label, first_field, items_at, members_at, label_found, value_found, first_part, first_of_streams, fields_of, rest_of, first_of_command, first_member}

-- ---- steps

-- the first step fails, or the next one
bind_err : {A B : Type 0} (r : Result A LineFault) (k : A → Result B LineFault) (f : LineFault) → (r >>= k) ≡ Err f → (r ≡ Err f) ⊎ ((x : A) × (r ≡ Ok x) × (k x ≡ Err f))
bind_err (Ok x) k f e = inr (x, refl, e)
bind_err (Err g) k f e = let same : g ≡ f = cc in inl (ap (λ h. Err h) same)

bind_ok : {A B : Type 0} (r : Result A LineFault) (k : A → Result B LineFault) (y : B) → (r >>= k) ≡ Ok y → (x : A) × (r ≡ Ok x) × (k x ≡ Ok y)
bind_ok (Ok x) k y e = (x, refl, e)
bind_ok (Err g) k y e = absurd cc

fails : {A B : Type 0} (r : Result A LineFault) (k : A → Result B LineFault) (f : LineFault) → r ≡ Err f → (r >>= k) ≡ Err f
fails r k f e = ap (λ s. s >>= k) e

goes_on : {A B : Type 0} (r : Result A LineFault) (k : A → Result B LineFault) (x : A) (s : Result B LineFault) → r ≡ Ok x → k x ≡ s → (r >>= k) ≡ s
goes_on r k x s e next = ap (λ t. t >>= k) e ∙ next

ok_is : {A : Type 0} (o : Option A) (x : A) → ◌≡◌ {A = Result A LineFault} (ok_or o BadCommand) (Ok x) → o ≡ Some x
ok_is None x e = absurd cc
ok_is (Some y) x e = let same : y ≡ x = cc in ap (λ z. Some z) same

-- ---- the walk finds what is at fault

itself : (fault : LineFault) → is_fault fault (Err fault) ≡ true
itself NoMemory = refl
itself BadCommand = refl
itself Metadata = refl
itself BadTenant = refl
itself BadStamp = refl

is_found : (fault : LineFault) (test : Test) → test ≡ Err fault → is_fault fault test ≡ true
is_found fault test e = ap (is_fault fault) e ∙ itself fault

abbrev In : Field → List Field → Type 0
In f [] = ⊥
In f (g ∷ gs) = (f ≡ g) ⊎ In f gs

not_first : {A : Type 0} (b : Bool) (x : A) (rest : Option A) → cond b (Some x) rest ≡ None → (b ≡ false) × (rest ≡ None)
not_first true x rest e = absurd cc
not_first false x rest e = (refl, e)

neither : {A : Type 0} (o rest : Option A) → option_or o rest ≡ None → (o ≡ None) × (rest ≡ None)
neither None rest e = (refl, e)
neither (Some x) rest e = absurd cc

not_mapped : {A B : Type 0} (f : A → B) (o : Option A) → option_map f o ≡ None → o ≡ None
not_mapped f None e = refl
not_mapped f (Some x) e = absurd cc

no_field : (fault : LineFault) (fs : List Field) (d : Data) (f : Field) → In f fs → first_field fault fs d ≡ None → field_test f d ≡ Err fault → ⊥
no_field fault [] d f there none bad = there
no_field fault (g ∷ gs) d f there none bad =
    let parts = not_first (is_fault fault (field_test g d)) (Own g) (first_field fault gs d) none in
    elim there as (λ _. ⊥) [
      | inl same ↦ absurd (cc (parts.0, is_found fault (field_test g d) (ap (λ h. field_test h d) (sym same) ∙ bad)))
      | inr later ↦ no_field fault gs d f later parts.1 bad
    ]

no_item : (p : Data → Bool) (at : ℕ) (items : Items) (k : ℕ) (d : Data) → first_item p at items ≡ None → get_item k items ≡ Some d → p d ≡ true → ⊥
no_item p at no_items k d none there pass = absurd cc
no_item p at (item e es) zero d none there pass =
    let same : e ≡ d = cc in
    let parts = not_first (p e) at (first_item p (at + 1) es) none in
    absurd (cc (parts.0, ap p same ∙ pass))
no_item p at (item e es) (suc k) d none there pass =
    no_item p (at + 1) es k d (not_first (p e) at (first_item p (at + 1) es) none).1 there pass

no_label : (p : Data → Bool) (at : ℕ) (ms : Members) (k : ℕ) (d : Data) → first_label p at ms ≡ None → label_in k ms ≡ Some d → p d ≡ true → ⊥
no_label p at no_members k d none there pass = absurd cc
no_label p at (member name e es) zero d none there pass =
    let same : e ≡ d = cc in
    let parts = not_first (p e) at (first_label p (at + 1) es) none in
    absurd (cc (parts.0, ap p same ∙ pass))
no_label p at (member name e es) (suc k) d none there pass =
    no_label p (at + 1) es k d (not_first (p e) at (first_label p (at + 1) es) none).1 there pass

-- ---- what the fault of a stream is

-- the walk through a stream finds nothing
pub record NoPart (fault : LineFault) (s : Data) : Type 0 where
  pub labels : part_test part.Labels s ≡ Err fault → ⊥
  pub label : (k : ℕ) (d : Data) → label_in k (members_at (codes "stream") s) ≡ Some d → label_test d ≡ Err fault → ⊥
  pub values : part_test part.Values s ≡ Err fault → ⊥
  pub value : (k : ℕ) (d : Data) → get_item k (items_at (codes "values") s) ≡ Some d → value_test d ≡ Err fault → ⊥

no_part : (fault : LineFault) (s : Data) → first_part fault s ≡ None → NoPart fault s
no_part fault s none =
    let whole = not_first (is_fault fault (part_test part.Labels s)) part.Labels _ none in
    let after = neither (label_found fault s) _ whole.1 in
    let rest = not_first (is_fault fault (part_test part.Values s)) part.Values (value_found fault s) after.1 in
    record {
      labels = λ bad. absurd (cc (whole.0, is_found fault (part_test part.Labels s) bad));
      label = λ k d there bad. no_label (label_has fault) 0 (members_at (codes "stream") s) k d (not_mapped _ _ after.0) there (is_found fault (label_test d) bad);
      values = λ bad. absurd (cc (rest.0, is_found fault (part_test part.Values s) bad));
      value = λ k d there bad. no_item (value_has fault) 0 (items_at (codes "values") s) k d (not_mapped _ _ rest.1) there (is_found fault (value_test d) bad);
    }

no_stream : (fault : LineFault) (at : ℕ) (items : Items) (k : ℕ) (s : Data) → first_of_streams fault at items ≡ None → get_item k items ≡ Some s → NoPart fault s
no_stream fault at no_items k s none there = absurd cc
no_stream fault at (item d ds) zero s none there =
    let same : d ≡ s = cc in
    let parts = neither (option_map (λ p. OfStream at p) (first_part fault d)) (first_of_streams fault (at + 1) ds) none in
    no_part fault s (ap (first_part fault) (sym same) ∙ not_mapped (λ p. OfStream at p) (first_part fault d) parts.0)
no_stream fault at (item d ds) (suc k) s none there =
    no_stream fault (at + 1) ds k s (neither (option_map (λ p. OfStream at p) (first_part fault d)) (first_of_streams fault (at + 1) ds) none).1 there

-- ---- lists of which an element fails

pub record Fails {A : Type 0} (shape : Data → Result A LineFault) (get : ℕ → Option Data) (f : LineFault) : Type 0 where
  pub place : ℕ
  pub element : Data
  pub there : get place ≡ Some element
  pub bad : shape element ≡ Err f

fails_here : {A : Type 0} (shape : Data → Result A LineFault) (get : ℕ → Option Data) (f : LineFault) (d : Data) → get 0 ≡ Some d → shape d ≡ Err f → Fails shape get f
fails_here shape get f d there bad = record { place = 0; element = d; there = there; bad = bad }

fails_later : {A : Type 0} (shape : Data → Result A LineFault) (get : ℕ → Option Data) (f : LineFault) → Fails shape (λ k. get (suc k)) f → Fails shape get f
fails_later shape get f x = record { place = suc x.place; element = x.element; there = x.there; bad = x.bad }

each_err : {A : Type 0} (shape : Data → Result A LineFault) (items : Items) (f : LineFault) → each shape items ≡ Err f → Fails shape (λ k. get_item k items) f
each_err shape no_items f e = absurd cc
each_err {A} shape (item d ds) f e =
    let get : ℕ → Option Data = λ k. get_item k (item d ds) in
    elim (bind_err (shape d) (λ first. each shape ds >>= λ others. Ok (first ∷ others)) f e) as (λ _. Fails shape get f) [
      | inl bad ↦ fails_here shape get f d refl bad
      | inr next ↦ elim (bind_err (each shape ds) (λ others. Ok (next.0 ∷ others)) f next.2) as (λ _. Fails shape get f) [
        | inl bad ↦ fails_later shape get f (each_err shape ds f bad)
        | inr last ↦ absurd (cc (last.2))
      ]
    ]

labels_err : (ms : Members) (f : LineFault) → raw_labels ms ≡ Err f → Fails text_of (λ k. label_in k ms) f
labels_err no_members f e = absurd cc
labels_err (member name d ms) f e =
    let get : ℕ → Option Data = λ k. label_in k (member name d ms) in
    elim (bind_err (text_of d) (λ value. raw_labels ms >>= λ others. Ok ((name, value) ∷ others)) f e) as (λ _. Fails text_of get f) [
      | inl bad ↦ fails_here text_of get f d refl bad
      | inr next ↦ elim (bind_err (raw_labels ms) (λ others. Ok ((name, next.0) ∷ others)) f next.2) as (λ _. Fails text_of get f) [
        | inl bad ↦ fails_later text_of get f (labels_err ms f bad)
        | inr last ↦ absurd (cc (last.2))
      ]
    ]

-- an element that was read so passes
pub record Reads {A : Type 0} (shape : Data → Result A LineFault) (q : A → Bool) (get : ℕ → Option Data) : Type 0 where
  pub place : ℕ
  pub element : Data
  pub said : A
  pub there : get place ≡ Some element
  pub good : shape element ≡ Ok said
  pub passes : q said ≡ true

reads_later : {A : Type 0} (shape : Data → Result A LineFault) (q : A → Bool) (get : ℕ → Option Data) → Reads shape q (λ k. get (suc k)) → Reads shape q get
reads_later shape q get x = record { place = suc x.place; element = x.element; said = x.said; there = x.there; good = x.good; passes = x.passes }

reads_at : {A : Type 0} (b : Bool) (shape : Data → Result A LineFault) (q : A → Bool) (get : ℕ → Option Data) (d : Data) (x : A) (rest : Bool)
    → get 0 ≡ Some d → shape d ≡ Ok x → q x ≡ b → (b || rest) ≡ true → (rest ≡ true → Reads shape q (λ k. get (suc k))) → Reads shape q get
reads_at true shape q get d x rest there good is e later = record { place = 0; element = d; said = x; there = there; good = good; passes = is }
reads_at false shape q get d x rest there good is e later = reads_later shape q get (later e)

each_any : {A : Type 0} (shape : Data → Result A LineFault) (q : A → Bool) (items : Items) (xs : List A) → each shape items ≡ Ok xs → list_any q xs ≡ true → Reads shape q (λ k. get_item k items)
each_any shape q no_items xs e any = let none : xs ≡ [] = cc in absurd (cc (ap (list_any q) (sym none), any))
each_any shape q (item d ds) xs e any =
    let first = bind_ok (shape d) (λ first. each shape ds >>= λ others. Ok (first ∷ others)) xs e in
    let rest = bind_ok (each shape ds) (λ others. Ok (first.0 ∷ others)) xs first.2 in
    let same : first.0 ∷ rest.0 ≡ xs = cc (rest.2) in
    reads_at (q first.0) shape q (λ k. get_item k (item d ds)) d first.0 (list_any q rest.0) refl first.1 refl (ap (list_any q) same ∙ any)
    (λ h. each_any shape q ds rest.0 rest.1 h)

-- one that passes and does not pass the other test, which none passes
any_but : {A : Type 0} (m q : A → Bool) (xs : List A) → list_any m xs ≡ false → list_any q xs ≡ true → list_any (λ x. not (m x) && q x) xs ≡ true
any_but m q [] none any = absurd cc
any_but m q (x ∷ xs) none any = any_but_at (m x) (q x) (list_any m xs) (list_any q xs) (list_any (λ y. not (m y) && q y) xs) none any (λ n a. any_but m q xs n a) where
  any_but_at : (mx qx ms qs both : Bool) → (mx || ms) ≡ false → (qx || qs) ≡ true → (ms ≡ false → qs ≡ true → both ≡ true) → ((not mx && qx) || both) ≡ true
  any_but_at true qx ms qs both none any later = absurd cc
  any_but_at false true ms qs both none any later = refl
  any_but_at false false ms qs both none any later = later none any

pair : (a b : Bool) → (not a && b) ≡ true → (a ≡ false) × (b ≡ true)
pair true b e = absurd cc
pair false b e = (refl, e)

-- ---- tests by themselves

tenant_at : {A : Type 0} (b : Bool) (x : A) (f : LineFault) → cond b (Ok x) (Err BadTenant) ≡ Err f → ◌≡◌ {A = Test} (cond b (Ok tt) (Err BadTenant)) (Err f)
tenant_at true x f e = absurd cc
tenant_at false x f e = let same : BadTenant ≡ f = cc in ap (λ h. Err h) same

stamp_at : (o : Option ℕ) (f : LineFault) → ◌≡◌ {A = Result ℕ LineFault} (ok_or o BadStamp) (Err f) → ◌≡◌ {A = Test} (cond (is_none o) (Err BadStamp) (Ok tt)) (Err f)
stamp_at None f e = let same : BadStamp ≡ f = cc in ap (λ h. Err h) same
stamp_at (Some n) f e = absurd cc

end_at : (b : Bool) (text : List ℕ) (n : ℕ) (f : LineFault) → ◌≡◌ {A = Result ℕ LineFault} (cond b (Ok n) (ok_or (stamp_of text) BadStamp)) (Err f) → ◌≡◌ {A = Test} (cond b (Ok tt) (test_stamp text)) (Err f)
end_at true text n f e = absurd cc
end_at false text n f e = stamp_at (stamp_of text) f e

-- ---- a push

-- a stream of another shape
stream_bad : (fault : LineFault) (s : Data) → NoPart fault s → raw_stream s ≡ Err fault → ⊥
unfolding raw_stream
stream_bad fault s none e =
    elim (bind_err (object_at (codes "stream") s) _ fault e) as (λ _. ⊥) [
      | inl bad ↦ none.labels (fails (object_at (codes "stream") s) _ fault bad)
      | inr members ↦ elim (bind_err (raw_labels members.0) _ fault members.2) as (λ _. ⊥) [
        | inl bad ↦
            let at = labels_err members.0 fault bad in
            none.label at.place at.element (ap (λ o. label_in at.place (unwrap_or o no_members)) (ok_is _ members.0 members.1) ∙ at.there) (fails (text_of at.element) _ fault at.bad)
        | inr labels ↦ elim (bind_err (array_at (codes "values") s) _ fault labels.2) as (λ _. ⊥) [
          | inl bad ↦ none.values (fails (array_at (codes "values") s) _ fault bad)
          | inr items ↦ elim (bind_err (each raw_value items.0) _ fault items.2) as (λ _. ⊥) [
            | inl bad ↦
                let at = each_err raw_value items.0 fault bad in
                none.value at.place at.element (ap (λ o. get_item at.place (unwrap_or o no_items)) (ok_is _ items.0 items.1) ∙ at.there) (fails (raw_value at.element) _ fault at.bad)
            | inr values ↦ absurd (cc (values.2))
          ]
        ]
      ]
    ]

-- the values of a stream
stream_good : (s : Data) (raw : RawStream) → raw_stream s ≡ Ok raw → each raw_value (items_at (codes "values") s) ≡ Ok raw.values
unfolding raw_stream
stream_good s raw e =
    let members = bind_ok (object_at (codes "stream") s) _ raw e in
    let labels = bind_ok (raw_labels members.0) _ raw members.2 in
    let items = bind_ok (array_at (codes "values") s) _ raw labels.2 in
    let values = bind_ok (each raw_value items.0) _ raw items.2 in
    let same : record { labels = labels.0; values = values.0 } ≡ raw = cc (values.2) in
    ap (λ o. each raw_value (unwrap_or o no_items)) (ok_is _ items.0 items.1) ∙ values.1 ∙ ap (λ r. Ok r.values) same

-- a value by its test, once it has its shape
value_bad : (v : Data) (raw : RawValue) (f : LineFault) → raw_value v ≡ Ok raw → test_raw raw ≡ Err f → value_test v ≡ Err f
value_bad v raw f good bad = goes_on (raw_value v) test_raw raw (Err f) good bad

raw_metadata : (raw : RawValue) → raw.has_metadata ≡ true → test_raw raw ≡ Err Metadata
raw_metadata raw e = rw e refl

raw_bad_stamp : (raw : RawValue) → (not raw.has_metadata && is_no_stamp raw.stamp) ≡ true → test_raw raw ≡ Err BadStamp
raw_bad_stamp raw e = let both = pair raw.has_metadata (is_no_stamp raw.stamp) e in rw (both.0, both.1) refl

abbrev third : RawValue → Bool
third v = v.has_metadata

abbrev bad_stamp : RawValue → Bool
bad_stamp v = is_no_stamp v.stamp

-- a stream with a third element
stream_third : (s : Data) (raw : RawStream) → NoPart Metadata s → raw_stream s ≡ Ok raw → list_any third raw.values ≡ true → ⊥
stream_third s raw none good any =
    let at = each_any raw_value third (items_at (codes "values") s) raw.values (stream_good s raw good) any in
    none.value at.place at.element at.there (value_bad at.element at.said Metadata at.good (raw_metadata at.said at.passes))

-- a stream with a bad stamp, and no third element
stream_stamp : (s : Data) (raw : RawStream) → NoPart BadStamp s → raw_stream s ≡ Ok raw → list_any third raw.values ≡ false → list_any bad_stamp raw.values ≡ true → ⊥
stream_stamp s raw none good no_third any =
    let at = each_any raw_value (λ v. not (third v) && bad_stamp v) (items_at (codes "values") s) raw.values (stream_good s raw good) (any_but third bad_stamp raw.values no_third any) in
    none.value at.place at.element at.there (value_bad at.element at.said BadStamp at.good (raw_bad_stamp at.said at.passes))

-- the walk through a push finds nothing
record NoMember (fault : LineFault) (d : Data) : Type 0 where
  tenant : field_test Tenant d ≡ Err fault → ⊥
  now : field_test Now d ≡ Err fault → ⊥
  streams : field_test Streams d ≡ Err fault → ⊥
  stream : (k : ℕ) (s : Data) → get_item k (items_at (codes "streams") d) ≡ Some s → NoPart fault s

-- the texts of a push, and what stands in the line for them
record RawFacts (d : Data) (raw : RawPush) : Type 0 where
  tenant : text_at (codes "tenant") d ≡ Ok raw.tenant
  now : text_at (codes "now") d ≡ Ok raw.now
  streams : each raw_stream (items_at (codes "streams") d) ≡ Ok raw.streams

raw_facts : (d : Data) (raw : RawPush) → raw_push d ≡ Ok raw → RawFacts d raw
unfolding raw_push
raw_facts d raw e =
    let tenant = bind_ok (text_at (codes "tenant") d) _ raw e in
    let now = bind_ok (text_at (codes "now") d) _ raw tenant.2 in
    let items = bind_ok (array_at (codes "streams") d) _ raw now.2 in
    let streams = bind_ok (each raw_stream items.0) _ raw items.2 in
    let same : record { tenant = tenant.0; now = now.0; streams = streams.0 } ≡ raw = cc (streams.2) in
    record {
      tenant = tenant.1 ∙ ap (λ r. Ok r.tenant) same;
      now = now.1 ∙ ap (λ r. Ok r.now) same;
      streams = ap (λ o. each raw_stream (unwrap_or o no_items)) (ok_is _ items.0 items.1) ∙ streams.1 ∙ ap (λ r. Ok r.streams) same;
    }

-- a push of another shape
push_shape : (fault : LineFault) (d : Data) → NoMember fault d → raw_push d ≡ Err fault → ⊥
unfolding raw_push
push_shape fault d none e =
    elim (bind_err (text_at (codes "tenant") d) _ fault e) as (λ _. ⊥) [
      | inl bad ↦ none.tenant (fails (text_at (codes "tenant") d) _ fault bad)
      | inr tenant ↦ elim (bind_err (text_at (codes "now") d) _ fault tenant.2) as (λ _. ⊥) [
        | inl bad ↦ none.now (fails (text_at (codes "now") d) _ fault bad)
        | inr now ↦ elim (bind_err (array_at (codes "streams") d) _ fault now.2) as (λ _. ⊥) [
          | inl bad ↦ none.streams (fails (array_at (codes "streams") d) _ fault bad)
          | inr items ↦ elim (bind_err (each raw_stream items.0) _ fault items.2) as (λ _. ⊥) [
            | inl bad ↦
                let at = each_err raw_stream items.0 fault bad in
                stream_bad fault at.element (none.stream at.place at.element (ap (λ o. get_item at.place (unwrap_or o no_items)) (ok_is _ items.0 items.1) ∙ at.there)) at.bad
            | inr streams ↦ absurd (cc (streams.2))
          ]
        ]
      ]
    ]

push_third : (d : Data) (raw : RawPush) → NoMember Metadata d → RawFacts d raw → has_metadata raw ≡ true → ⊥
push_third d raw none facts any =
    let at = each_any raw_stream (λ s. list_any third s.values) (items_at (codes "streams") d) raw.streams facts.streams any in
    stream_third at.element at.said (none.stream at.place at.element at.there) at.good at.passes

push_tenant : (d : Data) (raw : RawPush) → NoMember BadTenant d → RawFacts d raw → is_tenant raw.tenant ≡ false → ⊥
push_tenant d raw none facts e =
    none.tenant (goes_on (text_at (codes "tenant") d) test_tenant raw.tenant (Err BadTenant) facts.tenant (rw e refl))

push_now : (d : Data) (raw : RawPush) → NoMember BadStamp d → RawFacts d raw → is_no_stamp raw.now ≡ true → ⊥
push_now d raw none facts e =
    none.now (goes_on (text_at (codes "now") d) test_stamp raw.now (Err BadStamp) facts.now (rw e refl))

push_stamp : (d : Data) (raw : RawPush) → NoMember BadStamp d → RawFacts d raw → has_metadata raw ≡ false → list_any has_bad_value raw.streams ≡ true → ⊥
push_stamp d raw none facts no_third any =
    let at = each_any raw_stream (λ s. not (list_any third s.values) && list_any bad_stamp s.values) (items_at (codes "streams") d) raw.streams facts.streams
    (any_but (λ s. list_any third s.values) has_bad_value raw.streams no_third any) in
    let both = pair (list_any third at.said.values) (list_any bad_stamp at.said.values) at.passes in
    stream_stamp at.element at.said (none.stream at.place at.element at.there) at.good both.0 both.1

-- the tests of a push, one by one
push_checked : (t b n v : Bool) (fault : LineFault) (d : Data) (raw : RawPush)
    → NoMember fault d → RawFacts d raw → has_metadata raw ≡ t → is_tenant raw.tenant ≡ b → is_no_stamp raw.now ≡ n → list_any has_bad_value raw.streams ≡ v
    → cond t (Err Metadata) (cond (not b) (Err BadTenant) (cond (n || v) (Err BadStamp) (Ok (push_said_by raw)))) ≡ Err fault → ⊥
push_checked true b n v fault d raw none facts has tenant now stamp e =
    let same : Metadata ≡ fault = cc in push_third d raw (rw same none) facts has
push_checked false false n v fault d raw none facts has tenant now stamp e =
    let same : BadTenant ≡ fault = cc in push_tenant d raw (rw same none) facts tenant
push_checked false true true v fault d raw none facts has tenant now stamp e =
    let same : BadStamp ≡ fault = cc in push_now d raw (rw same none) facts now
push_checked false true false true fault d raw none facts has tenant now stamp e =
    let same : BadStamp ≡ fault = cc in push_stamp d raw (rw same none) facts has stamp
push_checked false true false false fault d raw none facts has tenant now stamp e = absurd cc

push_complete : (fault : LineFault) (d : Data) → NoMember fault d → push_of d ≡ Err fault → ⊥
push_complete fault d none e =
    elim (bind_err (raw_push d) checked fault e) as (λ _. ⊥) [
      | inl bad ↦ push_shape fault d none bad
      | inr raw ↦
          push_checked (has_metadata raw.0) (is_tenant raw.0.tenant) (is_no_stamp raw.0.now) (list_any has_bad_value raw.0.streams) fault d raw.0 none (raw_facts d raw.0 raw.1) refl refl refl refl raw.2
    ]

-- ---- other commands

sweep_complete : (fault : LineFault) (d : Data) → sweep_of d ≡ Err fault → field_test Now d ≡ Err fault
unfolding sweep_of
sweep_complete fault d e =
    elim (bind_err (text_at (codes "now") d) _ fault e) as (λ _. field_test Now d ≡ Err fault) [
      | inl bad ↦ fails (text_at (codes "now") d) _ fault bad
      | inr text ↦ elim (bind_err (ok_or (stamp_of text.0) BadStamp) _ fault text.2) as (λ _. field_test Now d ≡ Err fault) [
        | inl bad ↦ goes_on (text_at (codes "now") d) test_stamp text.0 (Err fault) text.1 (stamp_at (stamp_of text.0) fault bad)
        | inr now ↦ absurd (cc (now.2))
      ]
    ]

flush_complete : (fault : LineFault) (d : Data) → flush_of d ≡ Err fault → field_test Forced d ≡ Err fault
unfolding flush_of
flush_complete fault d e =
    elim (bind_err (flag_at (codes "forced") true d) _ fault e) as (λ _. field_test Forced d ≡ Err fault) [
      | inl bad ↦ fails (flag_at (codes "forced") true d) _ fault bad
      | inr flag ↦ absurd (cc (flag.2))
    ]

gauges_complete : (fault : LineFault) (d : Data) → gauges_of d ≡ Err fault → field_test Tenant d ≡ Err fault
unfolding gauges_of
gauges_complete fault d e =
    elim (bind_err (text_at (codes "tenant") d) _ fault e) as (λ _. field_test Tenant d ≡ Err fault) [
      | inl bad ↦ fails (text_at (codes "tenant") d) _ fault bad
      | inr text ↦ goes_on (text_at (codes "tenant") d) test_tenant text.0 (Err fault) text.1 (tenant_at {A = GaugesCommand} (is_tenant text.0) _ fault text.2)
    ]

-- ---- a query

abbrev query_fields : List Field
query_fields = Tenant ∷ Query ∷ Start ∷ End ∷ Limit ∷ Direction ∷ After ∷ Pages ∷ []

-- one of these members fails
record OneFails (names : List Field) (fault : LineFault) (d : Data) : Type 0 where
  name : Field
  one : In name names
  bad : field_test name d ≡ Err fault

abbrev QueryFails : LineFault → Data → Type 0
QueryFails = OneFails query_fields

-- the texts of a query, and what stands in the line for them
record QueryFacts (d : Data) (raw : RawQuery) : Type 0 where
  tenant : text_at (codes "tenant") d ≡ Ok raw.tenant
  start : text_or (codes "start") (codes "0") d ≡ Ok raw.start
  end : text_or (codes "end") (codes "9223372036854775808") d ≡ Ok raw.end
  after : after_at d ≡ Ok raw.after

-- the value of a result, where it has one
value_or : RawQuery → Result RawQuery LineFault → RawQuery
value_or other (Ok raw) = raw
value_or other (Err fault) = other

query_facts : (d : Data) (raw : RawQuery) → raw_query d ≡ Ok raw → QueryFacts d raw
unfolding raw_query value_or
query_facts d raw e =
    let tenant = bind_ok (text_at (codes "tenant") d) _ raw e in
    let text = bind_ok (text_at (codes "query") d) _ raw tenant.2 in
    let start = bind_ok (text_or (codes "start") (codes "0") d) _ raw text.2 in
    let end = bind_ok (text_or (codes "end") (codes "9223372036854775808") d) _ raw start.2 in
    let limit = bind_ok (limit_at d) _ raw end.2 in
    let direction = bind_ok (text_or (codes "direction") (codes "backward") d) _ raw limit.2 in
    let order = bind_ok (order_of direction.0) _ raw direction.2 in
    let after = bind_ok (after_at d) _ raw order.2 in
    let pages = bind_ok (flag_at (codes "pages") false d) _ raw after.2 in
    let said : RawQuery = record { tenant = tenant.0; text = text.0; start = start.0; end = end.0; limit = limit.0; order = order.0; after = after.0; pages = pages.0 } in
    let same : said ≡ raw = ap (value_or said) pages.2 in
    record {
      tenant = tenant.1 ∙ ap (λ r. Ok r.tenant) same;
      start = start.1 ∙ ap (λ r. Ok r.start) same;
      end = end.1 ∙ ap (λ r. Ok r.end) same;
      after = after.1 ∙ ap (λ r. Ok r.after) same;
    }

query_shape : (fault : LineFault) (d : Data) → raw_query d ≡ Err fault → QueryFails fault d
unfolding raw_query
query_shape fault d e =
    elim (bind_err (text_at (codes "tenant") d) _ fault e) as (λ _. QueryFails fault d) [
      | inl bad ↦ record { name = Tenant; one = inl refl; bad = fails (text_at (codes "tenant") d) _ fault bad }
      | inr tenant ↦
          elim (bind_err (text_at (codes "query") d) _ fault tenant.2) as (λ _. QueryFails fault d) [
            | inl bad ↦ record { name = Query; one = inr (inl refl); bad = fails (text_at (codes "query") d) _ fault bad }
            | inr text ↦
                elim (bind_err (text_or (codes "start") (codes "0") d) _ fault text.2) as (λ _. QueryFails fault d) [
                  | inl bad ↦ record { name = Start; one = inr (inr (inl refl)); bad = fails (text_or (codes "start") (codes "0") d) _ fault bad }
                  | inr start ↦
                      elim (bind_err (text_or (codes "end") (codes "9223372036854775808") d) _ fault start.2) as (λ _. QueryFails fault d) [
                        | inl bad ↦ record { name = End; one = inr (inr (inr (inl refl))); bad = fails (text_or (codes "end") (codes "9223372036854775808") d) _ fault bad }
                        | inr end ↦
                            elim (bind_err (limit_at d) _ fault end.2) as (λ _. QueryFails fault d) [
                              | inl bad ↦ record { name = Limit; one = inr (inr (inr (inr (inl refl)))); bad = fails (limit_at d) _ fault bad }
                              | inr limit ↦
                                  elim (bind_err (text_or (codes "direction") (codes "backward") d) _ fault limit.2) as (λ _. QueryFails fault d) [
                                    | inl bad ↦ record { name = Direction; one = inr (inr (inr (inr (inr (inl refl))))); bad = fails (text_or (codes "direction") (codes "backward") d) _ fault bad }
                                    | inr direction ↦
                                        elim (bind_err (order_of direction.0) _ fault direction.2) as (λ _. QueryFails fault d) [
                                          | inl bad ↦ record { name = Direction; one = inr (inr (inr (inr (inr (inl refl))))); bad = goes_on (text_or (codes "direction") (codes "backward") d) test_direction direction.0 (Err fault) direction.1 (fails (order_of direction.0) _ fault bad) }
                                          | inr order ↦
                                              elim (bind_err (after_at d) _ fault order.2) as (λ _. QueryFails fault d) [
                                                | inl bad ↦ record { name = After; one = inr (inr (inr (inr (inr (inr (inl refl)))))); bad = fails (after_at d) _ fault bad }
                                                | inr after ↦
                                                    elim (bind_err (flag_at (codes "pages") false d) _ fault after.2) as (λ _. QueryFails fault d) [
                                                      | inl bad ↦ record { name = Pages; one = inr (inr (inr (inr (inr (inr (inr (inl refl))))))); bad = fails (flag_at (codes "pages") false d) _ fault bad }
                                                      | inr pages ↦ absurd (cc (pages.2))
                                                    ]
                                              ]
                                        ]
                                  ]
                            ]
                      ]
                ]
          ]
    ]

-- a cursor whose stamp is none
cursor_at : (cursor : Option RawCursor) (fault : LineFault) → behind_of cursor ≡ Err fault → test_after cursor ≡ Err fault
cursor_at None fault e = absurd (cc)
cursor_at (Some cursor) fault e =
    elim (bind_err (ok_or (stamp_of cursor.stamp) BadStamp) _ fault e) as (λ _. test_after (Some cursor) ≡ Err fault) [
      | inl bad ↦ stamp_at (stamp_of cursor.stamp) fault bad
      | inr stamp ↦ absurd (cc (stamp.2))
    ]

query_checked : (fault : LineFault) (d : Data) (raw : RawQuery) → QueryFacts d raw → queries.checked raw ≡ Err fault → QueryFails fault d
unfolding queries.checked
query_checked fault d raw facts e =
    elim (bind_err (tenant_of raw.tenant) _ fault e) as (λ _. QueryFails fault d) [
      | inl bad ↦ record { name = Tenant; one = inl refl; bad = goes_on (text_at (codes "tenant") d) test_tenant raw.tenant (Err fault) facts.tenant (tenant_at {A = List ℕ} (is_tenant raw.tenant) raw.tenant fault bad) }
      | inr tenant ↦ elim (bind_err (ok_or (stamp_of raw.start) BadStamp) _ fault tenant.2) as (λ _. QueryFails fault d) [
        | inl bad ↦ record { name = Start; one = inr (inr (inl refl)); bad = goes_on (text_or (codes "start") (codes "0") d) test_stamp raw.start (Err fault) facts.start (stamp_at (stamp_of raw.start) fault bad) }
        | inr start ↦ elim (bind_err (end_of raw.end) _ fault start.2) as (λ _. QueryFails fault d) [
          | inl bad ↦ record { name = End; one = inr (inr (inr (inl refl))); bad = goes_on (text_or (codes "end") (codes "9223372036854775808") d) test_end raw.end (Err fault) facts.end (end_at (bytes_eq raw.end (codes "9223372036854775808")) raw.end (2 ^ 63) fault bad) }
          | inr end ↦ elim (bind_err (behind_of raw.after) _ fault end.2) as (λ _. QueryFails fault d) [
            | inl bad ↦ record { name = After; one = inr (inr (inr (inr (inr (inr (inl refl)))))); bad = goes_on (after_at d) test_after raw.after (Err fault) facts.after (cursor_at raw.after fault bad) }
            | inr after ↦ absurd (cc (after.2))
          ]
        ]
      ]
    ]

query_complete : (fault : LineFault) (d : Data) → query_of d ≡ Err fault → QueryFails fault d
query_complete fault d e =
    elim (bind_err (raw_query d) queries.checked fault e) as (λ _. QueryFails fault d) [
      | inl bad ↦ query_shape fault d bad
      | inr raw ↦ query_checked fault d raw.0 (query_facts d raw.0 raw.1) raw.2
    ]

-- ---- a question for a catalog

series_complete : (fault : LineFault) (d : Data) → series_of d ≡ Err fault → OneFails (Tenant ∷ Selector ∷ []) fault d
unfolding series_of
series_complete fault d e =
    elim (bind_err (text_at (codes "tenant") d) _ fault e) as (λ _. OneFails (Tenant ∷ Selector ∷ []) fault d) [
      | inl bad ↦ record { name = Tenant; one = inl refl; bad = fails (text_at (codes "tenant") d) _ fault bad }
      | inr tenant ↦ elim (bind_err (maybe_text_at (codes "query") d) _ fault tenant.2) as (λ _. OneFails (Tenant ∷ Selector ∷ []) fault d) [
        | inl bad ↦ record { name = Selector; one = inr (inl refl); bad = fails (maybe_text_at (codes "query") d) _ fault bad }
        | inr text ↦ record { name = Tenant; one = inl refl; bad = goes_on (text_at (codes "tenant") d) test_tenant tenant.0 (Err fault) tenant.1 (tenant_at {A = CatalogCommand} (is_tenant tenant.0) _ fault text.2) }
      ]
    ]

labels_complete : (fault : LineFault) (d : Data) → labels_of d ≡ Err fault → OneFails (Tenant ∷ Selector ∷ Name ∷ []) fault d
unfolding labels_of
labels_complete fault d e =
    elim (bind_err (text_at (codes "tenant") d) _ fault e) as (λ _. OneFails (Tenant ∷ Selector ∷ Name ∷ []) fault d) [
      | inl bad ↦ record { name = Tenant; one = inl refl; bad = fails (text_at (codes "tenant") d) _ fault bad }
      | inr tenant ↦ elim (bind_err (maybe_text_at (codes "query") d) _ fault tenant.2) as (λ _. OneFails (Tenant ∷ Selector ∷ Name ∷ []) fault d) [
        | inl bad ↦ record { name = Selector; one = inr (inl refl); bad = fails (maybe_text_at (codes "query") d) _ fault bad }
        | inr text ↦ elim (bind_err (maybe_text_at (codes "name") d) _ fault text.2) as (λ _. OneFails (Tenant ∷ Selector ∷ Name ∷ []) fault d) [
          | inl bad ↦ record { name = Name; one = inr (inr (inl refl)); bad = fails (maybe_text_at (codes "name") d) _ fault bad }
          | inr name ↦ record { name = Tenant; one = inl refl; bad = goes_on (text_at (codes "tenant") d) test_tenant tenant.0 (Err fault) tenant.1 (tenant_at {A = CatalogCommand} (is_tenant tenant.0) _ fault name.2) }
        ]
      ]
    ]

-- ---- any command

-- the command alone fails, since what is made of it does not
command_fails : {A : Type 0} (r : Result A LineFault) (k : A → Result Command LineFault) (fault : LineFault) → ((x : A) → k x ≡ Err fault → ⊥) → (r >>= k) ≡ Err fault → r ≡ Err fault
command_fails (Ok x) k fault never e = absurd (never x e)
command_fails (Err g) k fault never e = let same : g ≡ fault = cc in ap (λ h. Err h) same

push_none : (fault : LineFault) (d : Data) → first_field fault (Tenant ∷ Now ∷ Streams ∷ []) d ≡ None → first_of_streams fault 0 (items_at (codes "streams") d) ≡ None → NoMember fault d
push_none fault d fields streams =
    record {
      tenant = no_field fault (Tenant ∷ Now ∷ Streams ∷ []) d Tenant (inl refl) fields;
      now = no_field fault (Tenant ∷ Now ∷ Streams ∷ []) d Now (inr (inl refl)) fields;
      streams = no_field fault (Tenant ∷ Now ∷ Streams ∷ []) d Streams (inr (inr (inl refl))) fields;
      stream = λ k s there. no_stream fault 0 (items_at (codes "streams") d) k s streams there;
    }

by_command : (push sweep flush gauges board checkpoint query series labels : Bool) (fault : LineFault) (d : Data)
    → cond push (push_of d >>= pushed) (cond sweep (sweep_of d >>= swept) (cond flush (flush_of d >>= flushed) (cond gauges (gauges_of d >>= asked) (
    cond board (Ok Board) (cond checkpoint (Ok Checkpoint) (cond query (query_of d >>= queried) (
    cond series (series_of d >>= listed) (cond labels (labels_of d >>= listed) (Err BadCommand))))))))) ≡ Err fault
    → first_field fault (cond push (Tenant ∷ Now ∷ Streams ∷ []) (cond sweep (Now ∷ []) (cond flush (Forced ∷ []) (cond gauges (Tenant ∷ []) (
    cond board [] (cond checkpoint [] (cond query query_fields (
    cond series (Tenant ∷ Selector ∷ []) (cond labels (Tenant ∷ Selector ∷ Name ∷ []) (Cmd ∷ [])))))))))) d ≡ None
    → cond push (first_of_streams fault 0 (items_at (codes "streams") d)) None ≡ None
    → field_test Cmd d ≡ cond (push || (sweep || (flush || (gauges || (board || (checkpoint || (query || (series || (labels || false))))))))) (Ok tt) (Err BadCommand)
    → ⊥
by_command true sweep flush gauges board checkpoint query series labels fault d e fields streams cmd =
    push_complete fault d (push_none fault d fields streams) (command_fails (push_of d) pushed fault (λ x h. absurd (cc h)) e)
by_command false true flush gauges board checkpoint query series labels fault d e fields streams cmd =
    no_field fault (Now ∷ []) d Now (inl refl) fields (sweep_complete fault d (command_fails (sweep_of d) swept fault (λ x h. absurd (cc h)) e))
by_command false false true gauges board checkpoint query series labels fault d e fields streams cmd =
    no_field fault (Forced ∷ []) d Forced (inl refl) fields (flush_complete fault d (command_fails (flush_of d) flushed fault (λ x h. absurd (cc h)) e))
by_command false false false true board checkpoint query series labels fault d e fields streams cmd =
    no_field fault (Tenant ∷ []) d Tenant (inl refl) fields (gauges_complete fault d (command_fails (gauges_of d) asked fault (λ x h. absurd (cc h)) e))
by_command false false false false true checkpoint query series labels fault d e fields streams cmd = absurd (cc e)
by_command false false false false false true query series labels fault d e fields streams cmd = absurd (cc e)
by_command false false false false false false true series labels fault d e fields streams cmd =
    let bad = query_complete fault d (command_fails (query_of d) queried fault (λ x h. absurd (cc h)) e) in
    no_field fault query_fields d bad.name bad.one fields bad.bad
by_command false false false false false false false true labels fault d e fields streams cmd =
    let bad = series_complete fault d (command_fails (series_of d) listed fault (λ x h. absurd (cc h)) e) in
    no_field fault (Tenant ∷ Selector ∷ []) d bad.name bad.one fields bad.bad
by_command false false false false false false false false true fault d e fields streams cmd =
    let bad = labels_complete fault d (command_fails (labels_of d) listed fault (λ x h. absurd (cc h)) e) in
    no_field fault (Tenant ∷ Selector ∷ Name ∷ []) d bad.name bad.one fields bad.bad
by_command false false false false false false false false false fault d e fields streams cmd =
    no_field fault (Cmd ∷ []) d Cmd (inl refl) fields (cmd ∙ e_test e) where
      e_test : ◌≡◌ {A = Result Command LineFault} (Err BadCommand) (Err fault) → ◌≡◌ {A = Test} (Err BadCommand) (Err fault)
      e_test h = let same : BadCommand ≡ fault = cc in ap (λ f. Err f) same

-- by the text that is the command, or its fault
complete_at : (r : Result (List ℕ) LineFault) (fault : LineFault) (d : Data) → text_at (codes "cmd") d ≡ r → (r >>= λ cmd. said_as cmd d) ≡ Err fault → first_of_command fault d r ≡ None → ⊥
complete_at (Err g) fault d is e none =
    let same : g ≡ fault = cc in
    no_field fault (Cmd ∷ []) d Cmd (inl refl) none (fails (text_at (codes "cmd") d) test_cmd fault (is ∙ ap (λ f. Err f) same))
complete_at (Ok cmd) fault d is e none =
    let parts = neither (first_field fault (fields_of cmd) d) (rest_of fault cmd d) none in
    by_command (bytes_eq cmd (codes "push")) (bytes_eq cmd (codes "sweep")) (bytes_eq cmd (codes "flush")) (bytes_eq cmd (codes "gauges"))
    (bytes_eq cmd (codes "board")) (bytes_eq cmd (codes "checkpoint")) (bytes_eq cmd (codes "query")) (bytes_eq cmd (codes "series"))
    (bytes_eq cmd (codes "labels")) fault d e parts.0 parts.1
    (goes_on (text_at (codes "cmd") d) test_cmd cmd _ is refl)

-- a command that is refused has a member at fault, which the walk finds
pub none_at_fault : (fault : LineFault) (d : Data) → said_by d ≡ Err fault → first_member fault d ≡ None → ⊥
unfolding said_by first_member
none_at_fault fault d bad none = complete_at (text_at (codes "cmd") d) fault d refl bad none
