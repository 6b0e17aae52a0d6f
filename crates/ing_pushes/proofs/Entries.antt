-- Lists of values, each of which is read without a fault.
use Rattle.std.proofs.Common.{◌≡◌, ℕ, List, [], ◌∷◌, ◌++◌, map, take, length, get_or, ◌+◌, ◌<◌, false, Option, Some, None, Ok, refl, sym, ap, subst, ◌∙◌}
use Rattle.std.specs.List.{list_any}
use Rattle.std.proofs.lemmas.List.{take_more, map-append}
use Rattle.std.specs.Option.{ok_or}
use Rattle.json.specs.Json as json
use Rattle.json.specs.Value.{items_of}
use Rattle.serde_json.specs.Data.{Items, no_items, item}
use Rattle.serde_json.specs.Read.{of_items}
use Rattle.ing_rows.specs.declared.entry.Entry.{Entry}
use Rattle.ing_commands.specs.PushCommands.{RawValue, RawStream, StreamEntries, raw_value, raw_stream, is_no_stamp, has_bad_value, entry_of, entries_of}
use Rattle.ing_commands.specs.Shapes.{each}
use Rattle.ing_pushes.specs.Usual.{Each, IsEntry, IsStream}

-- one more behind them
pub each_more : {A : Type 0} (R : json.Json → A → Type 0) (js : List json.Json) (xs : List A) (j : json.Json) (x : A) → Each R js xs → R j x → Each R (js ++ j ∷ []) (xs ++ x ∷ [])
each_more R [] [] j x all one = (one, tt)
each_more R [] (y ∷ ys) j x all one = absurd all
each_more R (k ∷ js) [] j x all one = absurd all
each_more R (k ∷ js) (y ∷ xs) j x all one = (all.0, each_more R js xs j x all.1 one)

-- a text that spells a stamp
pub spelled : {E : Type 0} (o : Option ℕ) (fault : E) (n : ℕ) → ok_or o fault ≡ Ok n → o ≡ Some n
spelled (Some m) fault n is = cc is
spelled None fault n is = absurd (cc is)

-- what the values of entries are read as
pub record EntriesRead (js : List json.Json) (es : List Entry) : Type 0 where
  pub said : Items
  pub raws : List RawValue
  pub read : of_items (items_of js) ≡ Some said
  pub shape : each raw_value said ≡ Ok raws
  pub bare : list_any (λ (v : RawValue). v.has_metadata) raws ≡ false
  pub timed : list_any (λ (v : RawValue). is_no_stamp v.stamp) raws ≡ false
  pub entries : map entry_of raws ≡ es

pub entries_read : (js : List json.Json) (es : List Entry) → Each IsEntry js es → EntriesRead js es
entries_read [] [] all = record { said = no_items; raws = []; read = refl; shape = refl; bare = refl; timed = refl; entries = refl }
entries_read [] (e ∷ es) all = absurd all
entries_read (j ∷ js) [] all = absurd all
entries_read (j ∷ js) (e ∷ es) all =
    let one = all.0 in
    let more = entries_read js es all.1 in
    record {
      said = item one.said more.said;
      raws = one.raw ∷ more.raws;
      read = rw (one.read, more.read) refl;
      shape = rw (one.shape, more.shape) refl;
      bare = rw (one.bare, more.bare) refl;
      timed = rw (one.timed, more.timed) refl;
      entries = rw (one.entry, more.entries) refl;
    }

-- what the values of streams are read as
pub record StreamsRead (js : List json.Json) (ss : List StreamEntries) : Type 0 where
  pub said : Items
  pub raws : List RawStream
  pub read : of_items (items_of js) ≡ Some said
  pub shape : each raw_stream said ≡ Ok raws
  pub bare : list_any (λ (s : RawStream). list_any (λ (v : RawValue). v.has_metadata) s.values) raws ≡ false
  pub timed : list_any has_bad_value raws ≡ false
  pub streams : map entries_of raws ≡ ss

pub streams_read : (js : List json.Json) (ss : List StreamEntries) → Each IsStream js ss → StreamsRead js ss
streams_read [] [] all = record { said = no_items; raws = []; read = refl; shape = refl; bare = refl; timed = refl; streams = refl }
streams_read [] (s ∷ ss) all = absurd all
streams_read (j ∷ js) [] all = absurd all
streams_read (j ∷ js) (s ∷ ss) all =
    let one = all.0 in
    let more = streams_read js ss all.1 in
    record {
      said = item one.said more.said;
      raws = one.raw ∷ more.raws;
      read = rw (one.read, more.read) refl;
      shape = rw (one.shape, more.shape) refl;
      bare = rw (one.bare, more.bare) refl;
      timed = rw (one.timed, more.timed) refl;
      streams = rw (one.stream, more.streams) refl;
    }

-- the first so many values, and the next of them
pub each_next : {A V : Type 0} (R : json.Json → A → Type 0) (view : V → json.Json) (vs : List V) (i : ℕ) (v : V) (xs ys : List A) (x : A) → i < length vs → v ≡ get_or vs i v → ys ≡ xs ++ x ∷ [] → Each R (map view (take i vs)) xs → R (view v) x → Each R (map view (take (i + 1) vs)) ys
each_next R view vs i v xs ys x within is pushed all one =
    let next : map view (take (i + 1) vs) ≡ map view (take i vs) ++ view v ∷ [] = ap (map view) (take_more vs i v within) ∙ map-append view (take i vs) _ ∙ ap (λ w. map view (take i vs) ++ view w ∷ []) (sym is) in
    subst (λ zs. Each R (map view (take (i + 1) vs)) zs) (sym pushed) (subst (λ js. Each R js (xs ++ x ∷ [])) (sym next) (each_more R _ xs (view v) x all one))
