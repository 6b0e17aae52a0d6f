-- Fronts of a text that a writer has taken.
use Rattle.std.proofs.Common.{◌≡◌, ℕ, ◌-◌, List, [], ◌++◌, length, take, drop, refl, sym, ap, ◌∙◌, append_assoc, append-nil, take-append-drop, None, Some}
use Rattle.std.specs.Prelude.{Option}
use Rattle.std.specs.Io.KnownBytes.{Appends, Keeps}
use Rattle.std.proofs.KnownBytes.{Appends-nil, Appends-trans}
use Rattle.std.proofs.lemmas.List.{append_cancel_left, take_rest}
use Rattle.ing_session.specs.Fronts.{AppendsFront, Grows}
use Rattle.ing_session.specs.Runs.{with_replies}

-- ---- a loop that writes

-- the front of what is left is written too
pub split_more : (all done rest : List ℕ) (n : ℕ) → all ≡ done ++ rest → all ≡ (done ++ take n rest) ++ take (length rest - n) (drop n rest)
split_more all done rest n split =
    split ∙ ap (λ (l : List ℕ). done ++ l) (sym (take-append-drop n rest)) ∙ sym (append_assoc done (take n rest) (drop n rest))
    ∙ ap (λ (l : List ℕ). (done ++ take n rest) ++ l) (sym (take_rest rest n))

-- ---- texts one behind another

-- a front of a text is one of a longer text
pub front_longer : (a b : Option (List ℕ)) (text more : List ℕ) → AppendsFront a b text → AppendsFront a b (text ++ more)
front_longer a b text more f =
    record {
      front = f.front;
      rest = f.rest ++ more;
      whole = sym (append_assoc f.front f.rest more) ∙ ap (λ (l : List ℕ). l ++ more) f.whole;
      added = f.added;
    }

-- a text, and a front of the next one
pub front_behind : (a b c : Option (List ℕ)) (text more : List ℕ) → Appends a b text → AppendsFront b c more → AppendsFront a c (text ++ more)
front_behind a b c text more added f =
    record {
      front = text ++ f.front;
      rest = f.rest;
      whole = append_assoc text f.front f.rest ∙ ap (λ (l : List ℕ). text ++ l) f.whole;
      added = Appends-trans a b c text f.front added f.added;
    }

-- ---- what grows

pub grows_none : (a : Option (List ℕ)) → Grows a a
grows_none a = record { more = []; added = Appends-nil a }

pub grows_by : (a b : Option (List ℕ)) (text : List ℕ) → Appends a b text → Grows a b
grows_by a b text added = record { more = text; added = added }

pub grows_front : (a b : Option (List ℕ)) (text : List ℕ) → AppendsFront a b text → Grows a b
grows_front a b text f = record { more = f.front; added = f.added }

pub grows_on : (a b c : Option (List ℕ)) → Grows a b → Grows b c → Grows a c
grows_on a b c h k = record { more = h.more ++ k.more; added = Appends-trans a b c h.more k.more h.added k.added }

-- ---- replies that were held back

-- with the replies they were a text: a front of the replies is written behind what stood, and so a front of the text
pub front_held : (first c k : Option (List ℕ)) (replies text : List ℕ) → Grows first c → Appends first (with_replies c replies) text → AppendsFront c k replies → AppendsFront first k text
front_held None c k replies text grown told f = record { front = []; rest = text; whole = refl; added = tt }
front_held (Some x) None k replies text grown told f = absurd told
front_held (Some x) (Some y) None replies text grown told f = absurd f.added
front_held (Some x) (Some y) (Some z) replies text grown told f =
    let same : grown.more ++ replies ≡ text =
    append_cancel_left x (grown.more ++ replies) text (sym (append_assoc x grown.more replies) ∙ ap (λ (l : List ℕ). l ++ replies) (sym grown.added) ∙ told) in
    record {
      front = grown.more ++ f.front;
      rest = f.rest;
      whole = append_assoc grown.more f.front f.rest ∙ ap (λ (l : List ℕ). grown.more ++ l) f.whole ∙ same;
      added = f.added ∙ ap (λ (l : List ℕ). l ++ f.front) grown.added ∙ append_assoc x grown.more f.front;
    }

-- the same where some of them were written out before
pub front_kept : (a c k : Option (List ℕ)) (r q : List ℕ) → Grows a c → Keeps (with_replies a r) (with_replies c q) → AppendsFront c k q → AppendsFront a k r
front_kept None c k r q grown keeps f = record { front = []; rest = r; whole = refl; added = tt }
front_kept (Some x) None k r q grown keeps f = absurd keeps
front_kept (Some x) (Some y) k r q grown keeps f = front_held (Some x) (Some y) k q r grown keeps f

-- ---- all of a text

-- what is written whole is a front of it
pub front_of : (a b : Option (List ℕ)) (text : List ℕ) → Appends a b text → AppendsFront a b text
front_of a b text added = record { front = text; rest = []; whole = append-nil text; added = added }

-- with the replies they were a text: they are written behind what stood, and so is the text
pub all_written : (first c k : Option (List ℕ)) (replies text : List ℕ) → Appends first (with_replies c replies) text → Appends c k replies → Appends first k text
all_written None c k replies text told written = tt
all_written (Some x) None k replies text told written = absurd told
all_written (Some x) (Some y) None replies text told written = absurd written
all_written (Some x) (Some y) (Some z) replies text told written = written ∙ told
