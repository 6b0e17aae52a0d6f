-- Pushes of lines at hand, whatever outlives a crash once what they write is synced.
use Rattle.std.proofs.Common.{◌≡◌, ◌∙◌, Bool, false, ℕ, List, [], ◌∷◌, ◌++◌, length, map, refl, sym, ap, subst, arith}
use Rattle.std.proofs.lemmas.List.{map-append}
use Rattle.serde_json.specs.Data.{Data}
use Rattle.ing_limits.specs.Settings.{StoreSettings}
use Rattle.ing_commands.specs.PushCommands.{PushCommand}
use Rattle.ing_session.specs.PushLines.{TakesPush}
use Rattle.ing_session.specs.Replies.{push_data}
use Rattle.ing_session.specs.Runs.{ObeysEach}
use Rattle.ing_session.proofs.TakenLaws.{takes_more}
use Rattle.ing_lanes.specs.declared.lane.pushes.Draft.{Draft}
use Rattle.ing_lanes.specs.ByLane.{Held, PushesStreams, Stays, Told, by_lane}
use Rattle.ing_lanes.specs.Drafts.{DraftsLines, MayLast, PushesEach, data_of, replies_of}
use Rattle.ing_lanes.proofs.LedgerLaws.{streams_from}

-- where there are no logs there are no marks
pub no_marks_last : (logs : Bool) (lasting : List Bool) → (logs ≡ false → length lasting ≡ 0) → MayLast logs lasting
no_marks_last logs [] none = λ is place. refl
no_marks_last logs (l ∷ ls) none = λ is place. absurd (let some = none is in omega (arith, some))

-- ---- one push more

module _ (logs : Bool) (settings : StoreSettings) where
  each_more : (pushes : List PushCommand) (push : PushCommand) (a b c : Told) (replies streams : List Data) → PushesEach logs settings pushes a b replies
      → PushesStreams logs settings push.tenant push.now push.streams streams b c → PushesEach logs settings (pushes ++ push ∷ []) a c (replies ++ push_data streams ∷ [])
  each_more [] push a b c replies streams so_far this =
      (c, streams, [], streams_from logs settings push.tenant push.now push.streams streams b a c (λ i. sym (so_far.0 i)) this, ((λ i. refl), refl), ap (λ l. l ++ push_data streams ∷ []) so_far.1)
  each_more (p ∷ ps) push a b c replies streams so_far this =
      (so_far.0, so_far.1, so_far.2 ++ push_data streams ∷ [], so_far.3, each_more ps push so_far.0 b c so_far.2 streams so_far.4 this, ap (λ l. l ++ push_data streams ∷ []) so_far.5)

  -- the streams of one push, while what they write waits
  abbrev pub DraftsOne : PushCommand → Told → Told → List Draft → Type 0
  DraftsOne push old new streams =
      (lasting : List Bool) → MayLast logs lasting → PushesStreams logs settings push.tenant push.now push.streams (map (data_of lasting) streams) old new

  -- the first
  pub first_drafted : (push : PushCommand) (bytes : List ℕ) (old new : Told) (streams : List Draft) → DraftsOne push old new streams
      → DraftsLines logs settings push bytes bytes old new (streams ∷ [])
  first_drafted push bytes old new streams one = record {
    others = [];
    taken = refl;
    each = λ lasting may. (new, map (data_of lasting) streams, [], one lasting may, ((λ i. refl), refl), refl);
  }

  -- one more
  pub more_drafted : (first push : PushCommand) (bytes mid rest : List ℕ) (old now new : Told) (drafts : List (List Draft)) (streams : List Draft)
      → DraftsLines logs settings first bytes mid old now drafts → TakesPush mid rest push → DraftsOne push now new streams
      → DraftsLines logs settings first bytes rest old new (drafts ++ streams ∷ [])
  more_drafted first push bytes mid rest old now new drafts streams so_far takes one = record {
    others = so_far.others ++ push ∷ [];
    taken = takes_more so_far.others push bytes mid rest so_far.taken takes;
    each = λ lasting may.
        subst (PushesEach logs settings (first ∷ (so_far.others ++ push ∷ [])) old new) (sym (map-append (replies_of lasting) drafts (streams ∷ [])))
        (each_more (first ∷ so_far.others) push old now new (map (replies_of lasting) drafts) (map (data_of lasting) streams) (so_far.each lasting may) (one lasting may));
  }

  -- ---- what is held

  -- what is left where as much was told, and else as before
  pub record Leaves (honest : Type 0) (pushes : List PushCommand) (old : Held) (new : Told) (replies : List Data) : Type 0 where
    pub left : Held
    pub obeys : ObeysEach (by_lane honest logs) settings pushes old left replies
    pub told : Stays new left.told
    pub chunks : left.chunks ≡ old.chunks
    pub board : left.board ≡ old.board

  -- pushes are obeyed, one after another
  pub each_obeyed : (honest : Type 0) (pushes : List PushCommand) (a c : Told) (old : Held) (replies : List Data) → Stays a old.told → PushesEach logs settings pushes a c replies
      → Leaves honest pushes old c replies
  each_obeyed honest [] a c old replies same pushed = record {
    left = old;
    obeys = (refl, pushed.1);
    told = λ i. same i ∙ sym (pushed.0 i);
    chunks = refl;
    board = refl;
  }
  each_obeyed honest (p ∷ ps) a c old replies same (mid, streams, others, this, rest, is) =
      let next : Held = record { told = mid; chunks = old.chunks; board = old.board } in
      let after = each_obeyed honest ps mid c next others (λ i. refl) rest in
      record {
        left = after.left;
        obeys = (
          next,
          push_data streams,
          others,
          (record { replies = streams; streams = streams_from logs settings p.tenant p.now p.streams streams a old.told mid same this; told = refl; failures = refl }, record { chunks = refl; board = refl }),
          after.obeys,
          is,
        );
        told = after.told;
        chunks = after.chunks;
        board = after.board;
      }
