-- A stream's place in the list, and the list around it.
use Rattle.std.proofs.Common.{◌≡◌, ℕ, ◌+◌, ◌<◌, Bool, List, [], ◌∷◌, ◌++◌, length, map, cond, true, false, ◌||◌, is_some, Option, Some, None, refl, ap, sym, ◌∙◌, subst, arith, bytes_eq, get_or, option_map}
use Rattle.std.proofs.lemmas.Bool.{and_parts}
use Rattle.std.proofs.lemmas.List.{get_or_at, length-append}
use Rattle.std.proofs.lemmas.List.Elements.{All-cons, All-head, All-nil, All-tail, All-push}
use Rattle.std.proofs.lemmas.Slice.Eq.{bytes_eq-Decides}
use Rattle.ing_rows.specs.declared.entry.Entry.{Entry}
use Rattle.ing_rows.specs.Rows.{StreamKey, has_stream, same_stream}
use Rattle.ing_shard.specs.Contents.{listed_after}
use Rattle.ing_shard.specs.OneStream.{Stream}
use Rattle.ing_shard.specs.Streams.{key_of, AreDistinct, position_of}
use Rattle.ing_shard.proofs.CountLaws.{same_self, middle, replaced}
use Rattle.ing_shard.proofs.WholeLaws.{IsOther, AreOthers}

-- a stream is known by its tenant and its name
pub same_key : (a b : StreamKey) → same_stream a b ≡ true → a ≡ b
same_key a b h =
    let both = and_parts (bytes_eq a.tenant b.tenant) (bytes_eq a.name b.name) h in
    λ i. record { tenant = (bytes_eq-Decides a.tenant b.tenant).0 both.0 i; name = (bytes_eq-Decides a.name b.name).0 both.1 i }

flip_case : (a b : StreamKey) (c : Bool) → same_stream b a ≡ c → same_stream a b ≡ false → c ≡ false
flip_case a b true holds fails = absurd (cc (sym (ap (λ k. same_stream a k) (same_key b a holds) ∙ same_self a), fails))
flip_case a b false holds fails = refl

pub same_flip : (a b : StreamKey) → same_stream a b ≡ false → same_stream b a ≡ false
same_flip a b fails = flip_case a b (same_stream b a) refl fails

-- the list around the stream that has this key
pub record Splits (s : StreamKey) (sts : List Stream) (i : ℕ) : Type 0 where
  pub front : List Stream
  pub st : Stream
  pub back : List Stream
  pub is : sts ≡ front ++ st ∷ back
  pub at : length front ≡ i
  pub key : key_of st ≡ s
  pub others : AreOthers s (front ++ back)

-- the cases of the first stream
first_case : (s : StreamKey) (st : Stream) (sts : List Stream) (i : ℕ) (b : Bool) (o : Option ℕ) → same_stream (key_of st) s ≡ b → position_of s sts ≡ o
    → AreDistinct (st ∷ sts) → ((j : ℕ) → position_of s sts ≡ Some j → Splits s sts j) → cond b (Some 0) (option_map (λ k. k + 1) o) ≡ Some i → Splits s (st ∷ sts) i
first_case s st sts i true o test rest distinct go is =
    let key : key_of st ≡ s = same_key (key_of st) s test in
    record {
      front = [];
      st = st;
      back = sts;
      is = refl;
      at = search (is);
      key = key;
      others = subst (λ k. AreOthers k sts) key distinct.0;
    }
first_case s st sts i false None test rest distinct go is = absurd (cc)
first_case s st sts i false (Some j) test rest distinct go is =
    let more : ◌≡◌ {A = ℕ} (j + 1) i = search (is) in
    let inner = go j rest in
    let longer : length (st ∷ inner.front) ≡ i = omega (arith, more, inner.at) in
    record {
      front = st ∷ inner.front;
      st = inner.st;
      back = inner.back;
      is = ap (λ l. st ∷ l) inner.is;
      at = longer;
      key = inner.key;
      others = All-cons (IsOther s) st (inner.front ++ inner.back) test inner.others;
    }

pub position_splits : (s : StreamKey) (sts : List Stream) (i : ℕ) → AreDistinct sts → position_of s sts ≡ Some i → Splits s sts i
position_splits s [] i distinct is = absurd (cc)
position_splits s (st ∷ sts) i distinct is =
    first_case s st sts i (same_stream (key_of st) s) (position_of s sts) refl refl distinct (λ j. position_splits s sts j distinct.1) is

none_case : (s : StreamKey) (st : Stream) (sts : List Stream) (b : Bool) (o : Option ℕ) → same_stream (key_of st) s ≡ b → position_of s sts ≡ o
    → (position_of s sts ≡ None → AreOthers s sts) → cond b (Some 0) (option_map (λ k. k + 1) o) ≡ None → AreOthers s (st ∷ sts)
none_case s st sts true o test rest go is = absurd (cc)
none_case s st sts false None test rest go is = All-cons (IsOther s) st sts test (go rest)
none_case s st sts false (Some j) test rest go is = absurd (cc)

-- a stream that is not found is not there
pub none_others : (s : StreamKey) (sts : List Stream) → position_of s sts ≡ None → AreOthers s sts
none_others s [] is = All-nil (IsOther s)
none_others s (st ∷ sts) is = none_case s st sts (same_stream (key_of st) s) (position_of s sts) refl refl (none_others s sts) is

-- ---- one more stream at the end

last_case : (a b : Bool) (o : Option ℕ) (n : ℕ) → cond a (Some 0) (option_map (λ k. k + 1) (cond b (Some n) o)) ≡ cond a (Some 0) (cond b (Some (n + 1)) (option_map (λ k. k + 1) o))
last_case true b o n = refl
last_case false true o n = refl
last_case false false o n = refl

after_case : (a b : Bool) (o : Option ℕ) (n : ℕ) → (a ≡ true → b ≡ false) → cond a (Some 0) (cond b (Some n) (option_map (λ k. k + 1) o)) ≡ cond b (Some n) (cond a (Some 0) (option_map (λ k. k + 1) o))
after_case true true o n h = absurd (cc (h refl))
after_case true false o n h = refl
after_case false b o n h = refl

-- it is found at the end, and the others where they were
pub position_more : (sts : List Stream) (new : Stream) → AreOthers (key_of new) sts → (s : StreamKey) → position_of s (sts ++ new ∷ []) ≡ cond (same_stream (key_of new) s) (Some (length sts)) (position_of s sts)
position_more [] new others s = refl
position_more (st ∷ sts) new others s =
    let a = same_stream (key_of st) s in
    let b = same_stream (key_of new) s in
    let here : IsOther (key_of new) st = All-head (IsOther (key_of new)) st sts others in
    let apart : a ≡ true → b ≡ false = λ h. ap (same_stream (key_of new)) (sym (same_key (key_of st) s h)) ∙ same_flip (key_of st) (key_of new) here in
    let longer : ◌≡◌ {A = ℕ} (length sts + 1) (length (st ∷ sts)) = omega arith in
    ap (λ o. cond a (Some 0) (option_map (λ k. k + 1) o)) (position_more sts new (All-tail (IsOther (key_of new)) st sts others) s)
    ∙ last_case a b (position_of s sts) (length sts)
    ∙ after_case a b (position_of s sts) (length sts + 1) apart
    ∙ ap (λ n. cond b (Some n) (cond a (Some 0) (option_map (λ k. k + 1) (position_of s sts)))) longer

pub distinct_more : (sts : List Stream) (new : Stream) → AreDistinct sts → AreOthers (key_of new) sts → AreDistinct (sts ++ new ∷ [])
distinct_more [] new distinct others = (All-nil (IsOther (key_of new)), tt)
distinct_more (st ∷ sts) new distinct others =
    let here : IsOther (key_of new) st = All-head (IsOther (key_of new)) st sts others in
    (All-push (IsOther (key_of st)) sts new distinct.0 (same_flip (key_of st) (key_of new) here), distinct_more sts new distinct.1 (All-tail (IsOther (key_of new)) st sts others))

-- ---- a stream with its key in the place of another

pub position_same : (front : List Stream) (st new : Stream) (back : List Stream) → key_of new ≡ key_of st → (s : StreamKey) → position_of s (front ++ new ∷ back) ≡ position_of s (front ++ st ∷ back)
position_same [] st new back key s = ap (λ k. cond (same_stream k s) (Some 0) (option_map (λ n. n + 1) (position_of s back))) key
position_same (f ∷ front) st new back key s = ap (λ o. cond (same_stream (key_of f) s) (Some 0) (option_map (λ n. n + 1) o)) (position_same front st new back key s)

others_same : (s : StreamKey) (front : List Stream) (st new : Stream) (back : List Stream) → key_of new ≡ key_of st → AreOthers s (front ++ st ∷ back) → AreOthers s (front ++ new ∷ back)
others_same s front st new back key h = replaced (IsOther s) front st new back h (ap (λ k. same_stream k s) key ∙ middle (IsOther s) front st back h)

pub distinct_same : (front : List Stream) (st new : Stream) (back : List Stream) → key_of new ≡ key_of st → AreDistinct (front ++ st ∷ back) → AreDistinct (front ++ new ∷ back)
distinct_same [] st new back key distinct = (subst (λ k. AreOthers k back) (sym key) distinct.0, distinct.1)
distinct_same (f ∷ front) st new back key distinct = (others_same (key_of f) front st new back key distinct.0, distinct_same front st new back key distinct.1)

-- ---- by number

pub splits_within : (s : StreamKey) (sts : List Stream) (i n : ℕ) → n ≡ length sts → Splits s sts i → i < n
splits_within s sts i n counted split =
    let long = ap length split.is ∙ length-append split.front (split.st ∷ split.back) in
    let one : ◌≡◌ {A = ℕ} (length (split.st ∷ split.back)) (length split.back + 1) = omega arith in
    let at = split.at in
    omega (arith, long, one, at, counted)

pub splits_read : (s : StreamKey) (sts : List Stream) (i : ℕ) (split : Splits s sts i) (d : Stream) → get_or sts i d ≡ split.st
splits_read s sts i split d = ap (λ l. get_or l i d) split.is ∙ get_or_at split.front split.st split.back d i split.at

-- ---- the keys of the listed streams

either_found : (b : Bool) (o : Option ℕ) → (b || is_some o) ≡ is_some (cond b (Some 0) (option_map (λ k. k + 1) o))
either_found true o = refl
either_found false None = refl
either_found false (Some n) = refl

listed_where : (s : StreamKey) (sts : List Stream) → has_stream s (map key_of sts) ≡ is_some (position_of s sts)
listed_where s [] = refl
listed_where s (st ∷ sts) = ap (λ b. same_stream (key_of st) s || b) (listed_where s sts) ∙ either_found (same_stream (key_of st) s) (position_of s sts)

listed_with : (s : StreamKey) (es : List Entry) (listed : List StreamKey) → 0 < length es → listed_after s es listed ≡ cond (has_stream s listed) listed (listed ++ s ∷ [])
listed_with s [] listed some = absurd (omega (arith, some))
listed_with s (e ∷ es) listed some = refl

-- a stream that is there stays where it is, and another is the last then
pub listed_there : (s : StreamKey) (es : List Entry) (sts : List Stream) (number : ℕ) → 0 < length es → position_of s sts ≡ Some number → listed_after s es (map key_of sts) ≡ map key_of sts
listed_there s es sts number some found = listed_with s es (map key_of sts) some ∙ ap (λ b. cond b (map key_of sts) (map key_of sts ++ s ∷ [])) (listed_where s sts ∙ ap is_some found)

pub listed_last : (s : StreamKey) (es : List Entry) (sts : List Stream) → 0 < length es → position_of s sts ≡ None → listed_after s es (map key_of sts) ≡ map key_of sts ++ s ∷ []
listed_last s es sts some found = listed_with s es (map key_of sts) some ∙ ap (λ b. cond b (map key_of sts) (map key_of sts ++ s ∷ [])) (listed_where s sts ∙ ap is_some found)
