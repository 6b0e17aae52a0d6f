use Rattle.std.proofs.Common.{append-nil, refl, ◌≡◌, ◌<◌, ◌+◌, ◌++◌, [], ◌∷◌, ℕ, List, length, Some, arith, subst, sym, ap, ◌∙◌, slice_get, slice_index_or, slice_set, vec_len}
use Rattle.ing_tally.specs.Books.{AreOf, ShareState, amount_of}
use Rattle.std.specs.Prelude.{map, reverse}
use Rattle.ing_begun.specs.Closed.{closed_of}
use Rattle.ing_node.specs.Closing.{shares_at}
use Rattle.ing_node.specs.Reports.{IsGathered, recovered_at}
use Rattle.ing_begun.proofs.Lists.{none_left}
use Rattle.ing_node.proofs.ClosingLaws.{below_set, complete_as, get_below, handed_on, recovered_there, gathered_as, gathered_set, left_get, left_same, left_shares, no_item, popped_get, popped_shares, rows_set}
use Rattle.ing_node.proofs.closing.gather_all.Goals as goal

pub gather-shard-requires-clause-own_pushing : goal.gather-shard-requires-clause-own_pushing
gather-shard-requires-clause-own_pushing g c =
    let at = c.loop-held.invariant in
    let rest = c.pop.new.self in
    let place = vec_len rest in
    let longer : vec_len c.loop-held.helds ≡ place + 1 = omega (arith, c.in-Some.ensures.len) in
    let len_h : length rest.items ≡ place = sym rest.ok.0 in
    let len_p : length c.pop-in-Some.new.self.items ≡ place = omega (arith, c.in-Some-Some.ensures.len, at.pushing, longer, c.pop-in-Some.new.self.ok.0) in
    let len_t : length c.pop-in-Some-2.new.self.items ≡ place = omega (arith, c.in-Some-Some.ensures'.len, at.stored, longer, c.pop-in-Some-2.new.self.ok.0) in
    let same_p : (i : ℕ) → i < place + 1 → shares_at i c.loop-held.pushing.items ≡ shares_at i c.args.pushing.items = λ i below. at.same_pushing i (omega (arith, below, longer)) in
    let same_t : (i : ℕ) → i < place + 1 → shares_at i c.loop-held.stored.items ≡ shares_at i c.args.stored.items = λ i below. at.same_stored i (omega (arith, below, longer)) in
    let mine = popped_shares c.loop-held.pushing.items c.pop-in-Some.new.self.items c.in-Some-Some.pushers c.in-Some-Some.ensures.items place len_p c.args.pushing.items same_p in
    let told = popped_shares c.loop-held.stored.items c.pop-in-Some-2.new.self.items c.in-Some-Some.tallies c.in-Some-Some.ensures'.items place len_t c.args.stored.items same_t in
    let whole = at.complete place c.in-Some.held (popped_get c.loop-held.helds.items rest.items c.in-Some.held c.in-Some.ensures.items place len_h) in
    subst (λ n. AreOf (g.N.NodeName.books n).accepted c.in-Some-Some.pushers.items) (sym whole.number)
    (subst (λ (ss : List ShareState). AreOf (g.N.NodeName.books place).accepted ss) (sym mine) (c.requires.own_pushing place))

pub gather-shard-requires-clause-own_tallies : goal.gather-shard-requires-clause-own_tallies
gather-shard-requires-clause-own_tallies g c =
    let at = c.loop-held.invariant in
    let rest = c.pop.new.self in
    let place = vec_len rest in
    let longer : vec_len c.loop-held.helds ≡ place + 1 = omega (arith, c.in-Some.ensures.len) in
    let len_h : length rest.items ≡ place = sym rest.ok.0 in
    let len_p : length c.pop-in-Some.new.self.items ≡ place = omega (arith, c.in-Some-Some.ensures.len, at.pushing, longer, c.pop-in-Some.new.self.ok.0) in
    let len_t : length c.pop-in-Some-2.new.self.items ≡ place = omega (arith, c.in-Some-Some.ensures'.len, at.stored, longer, c.pop-in-Some-2.new.self.ok.0) in
    let same_p : (i : ℕ) → i < place + 1 → shares_at i c.loop-held.pushing.items ≡ shares_at i c.args.pushing.items = λ i below. at.same_pushing i (omega (arith, below, longer)) in
    let same_t : (i : ℕ) → i < place + 1 → shares_at i c.loop-held.stored.items ≡ shares_at i c.args.stored.items = λ i below. at.same_stored i (omega (arith, below, longer)) in
    let mine = popped_shares c.loop-held.pushing.items c.pop-in-Some.new.self.items c.in-Some-Some.pushers c.in-Some-Some.ensures.items place len_p c.args.pushing.items same_p in
    let told = popped_shares c.loop-held.stored.items c.pop-in-Some-2.new.self.items c.in-Some-Some.tallies c.in-Some-Some.ensures'.items place len_t c.args.stored.items same_t in
    let whole = at.complete place c.in-Some.held (popped_get c.loop-held.helds.items rest.items c.in-Some.held c.in-Some.ensures.items place len_h) in
    subst (λ n. AreOf (g.N.NodeName.books n).stored c.in-Some-Some.tallies.items) (sym whole.number)
    (subst (λ (ss : List ShareState). AreOf (g.N.NodeName.books place).stored ss) (sym told) (c.requires.own_stored place))

pub gather-shard-requires-clause-complete : goal.gather-shard-requires-clause-complete
gather-shard-requires-clause-complete g c =
    let at = c.loop-held.invariant in
    let rest = c.pop.new.self in
    let place = vec_len rest in
    let longer : vec_len c.loop-held.helds ≡ place + 1 = omega (arith, c.in-Some.ensures.len) in
    let len_h : length rest.items ≡ place = sym rest.ok.0 in
    let len_p : length c.pop-in-Some.new.self.items ≡ place = omega (arith, c.in-Some-Some.ensures.len, at.pushing, longer, c.pop-in-Some.new.self.ok.0) in
    let len_t : length c.pop-in-Some-2.new.self.items ≡ place = omega (arith, c.in-Some-Some.ensures'.len, at.stored, longer, c.pop-in-Some-2.new.self.ok.0) in
    let same_p : (i : ℕ) → i < place + 1 → shares_at i c.loop-held.pushing.items ≡ shares_at i c.args.pushing.items = λ i below. at.same_pushing i (omega (arith, below, longer)) in
    let same_t : (i : ℕ) → i < place + 1 → shares_at i c.loop-held.stored.items ≡ shares_at i c.args.stored.items = λ i below. at.same_stored i (omega (arith, below, longer)) in
    let mine = popped_shares c.loop-held.pushing.items c.pop-in-Some.new.self.items c.in-Some-Some.pushers c.in-Some-Some.ensures.items place len_p c.args.pushing.items same_p in
    let told = popped_shares c.loop-held.stored.items c.pop-in-Some-2.new.self.items c.in-Some-Some.tallies c.in-Some-Some.ensures'.items place len_t c.args.stored.items same_t in
    let whole = at.complete place c.in-Some.held (popped_get c.loop-held.helds.items rest.items c.in-Some.held c.in-Some.ensures.items place len_h) in
    complete_as place c.in-Some.held.shard.memory.number (length (shares_at place c.args.pushing.items)) (length (shares_at place c.args.stored.items))
    (vec_len c.in-Some-Some.pushers) (vec_len c.in-Some-Some.tallies) c.in-Some.held.shard.memory (sym whole.number)
    (ap length (sym mine) ∙ sym c.in-Some-Some.pushers.ok.0) (ap length (sym told) ∙ sym c.in-Some-Some.tallies.ok.0) whole

pub gather-shard-requires-clause-recovered : goal.gather-shard-requires-clause-recovered
gather-shard-requires-clause-recovered g c =
    let at = c.loop-held.invariant in
    let rest = c.pop.new.self in
    let place = vec_len rest in
    let longer : vec_len c.loop-held.helds ≡ place + 1 = omega (arith, c.in-Some.ensures.len) in
    let len_p : length c.pop-in-Some.new.self.items ≡ place = omega (arith, c.in-Some-Some.ensures.len, at.pushing, longer, c.pop-in-Some.new.self.ok.0) in
    let same_p : (i : ℕ) → i < place + 1 → shares_at i c.loop-held.pushing.items ≡ shares_at i c.args.pushing.items = λ i below. at.same_pushing i (omega (arith, below, longer)) in
    let mine = popped_shares c.loop-held.pushing.items c.pop-in-Some.new.self.items c.in-Some-Some.pushers c.in-Some-Some.ensures.items place len_p c.args.pushing.items same_p in
    let is : c.index.result.now.recovered ≡ recovered_at place c.args.reports.items =
    recovered_there c.loop-held.reports.items c.args.reports.items place c.index.result.now (omega (arith, at.left, longer, c.loop-held.reports.ok.0))
    (c.index.ensures ∙ ap (λ n. slice_index_or c.loop-held.reports.items n c.index.result.now) c.len-place.ensures) (at.before place (omega (arith, longer))) in
    let within = c.requires.recovered place (omega (arith, at.left, at.reports, longer, c.args.reports.ok.0)) in
    let amount = ap amount_of mine in
    omega (arith, is, within, amount)

pub loop-held-init : goal.loop-held-init
loop-held-init g c =
    let helds = c.args.helds in
    let reports = c.args.reports in
    let none = no_item c.args.shards.items (sym c.args.shards.ok.0 ∙ c.requires.empty) in
    record {
      pushing = c.requires.pushing;
      stored = c.requires.stored;
      reports = refl;
      left = omega (arith, c.requires.reports);
      same_pushing = λ i below. refl;
      same_stored = λ i below. refl;
      complete = c.requires.complete;
      closed = λ i report past at. let there = get_below reports.items i report at in absurd (omega (arith, past, there, c.requires.reports, reports.ok.0));
      before = λ i below. refl;
      same_helds = λ i below. refl;
      rows = λ i held report past there at. let below = get_below helds.items i held there in absurd (omega (arith, past, below, helds.ok.0));
      room = omega (arith, c.requires.room, c.requires.empty);
      handed = ap (λ shards. map (λ held. closed_of held.shard.memory) helds.items ++ reverse shards) none ∙ append-nil (map (λ held. closed_of held.shard.memory) helds.items);
    }

pub loop-held-preserved : goal.loop-held-preserved
loop-held-preserved g c =
    let at = c.loop-held.invariant in
    let rest = c.pop.new.self in
    let place = vec_len rest in
    let longer : vec_len c.loop-held.helds ≡ place + 1 = omega (arith, c.in-Some.ensures.len) in
    let len_h : length rest.items ≡ place = sym rest.ok.0 in
    let len_p : length c.pop-in-Some.new.self.items ≡ place = omega (arith, c.in-Some-Some.ensures.len, at.pushing, longer, c.pop-in-Some.new.self.ok.0) in
    let len_t : length c.pop-in-Some-2.new.self.items ≡ place = omega (arith, c.in-Some-Some.ensures'.len, at.stored, longer, c.pop-in-Some-2.new.self.ok.0) in
    let same_p : (i : ℕ) → i < place + 1 → shares_at i c.loop-held.pushing.items ≡ shares_at i c.args.pushing.items = λ i below. at.same_pushing i (omega (arith, below, longer)) in
    let same_t : (i : ℕ) → i < place + 1 → shares_at i c.loop-held.stored.items ≡ shares_at i c.args.stored.items = λ i below. at.same_stored i (omega (arith, below, longer)) in
    let mine = popped_shares c.loop-held.pushing.items c.pop-in-Some.new.self.items c.in-Some-Some.pushers c.in-Some-Some.ensures.items place len_p c.args.pushing.items same_p in
    let told = popped_shares c.loop-held.stored.items c.pop-in-Some-2.new.self.items c.in-Some-Some.tallies c.in-Some-Some.ensures'.items place len_t c.args.stored.items same_t in
    let whole = at.complete place c.in-Some.held (popped_get c.loop-held.helds.items rest.items c.in-Some.held c.in-Some.ensures.items place len_h) in
    let placed : c.len-place.result ≡ place = c.len-place.ensures in
    let done : IsGathered (recovered_at place c.args.reports.items) (amount_of (shares_at place c.args.pushing.items)) (amount_of (shares_at place c.args.stored.items)) c.gather-shard.result.0 =
    gathered_as _ (amount_of c.in-Some-Some.pushers.items) (amount_of c.in-Some-Some.tallies.items) _ _ _ c.gather-shard.result.0
    (recovered_there c.loop-held.reports.items c.args.reports.items place c.index.result.now (omega (arith, at.left, longer, c.loop-held.reports.ok.0))
    (c.index.ensures ∙ ap (λ n. slice_index_or c.loop-held.reports.items n c.index.result.now) c.len-place.ensures) (at.before place (omega (arith, longer))))
    (ap amount_of mine) (ap amount_of told) c.gather-shard.ensures.closed in
    record {
      pushing = omega (arith, len_p, c.pop-in-Some.new.self.ok.0);
      stored = omega (arith, len_t, c.pop-in-Some-2.new.self.ok.0);
      reports = at.reports;
      left = omega (arith, at.left, longer);
      same_pushing = left_shares c.loop-held.pushing.items c.pop-in-Some.new.self.items c.in-Some-Some.pushers c.in-Some-Some.ensures.items place len_p c.args.pushing.items same_p;
      same_stored = left_shares c.loop-held.stored.items c.pop-in-Some-2.new.self.items c.in-Some-Some.tallies c.in-Some-Some.ensures'.items place len_t c.args.stored.items same_t;
      complete = λ i held there. at.complete i held (left_get c.loop-held.helds.items rest.items c.in-Some.held c.in-Some.ensures.items i held there);
      closed = λ i report past there.
          gathered_set (λ n. recovered_at n c.args.reports.items) (λ n. amount_of (shares_at n c.args.pushing.items)) (λ n. amount_of (shares_at n c.args.stored.items)) c.loop-held.reports.items place c.gather-shard.result.0 done
          (λ j r beyond. at.closed j r (omega (arith, beyond, longer))) i report past
          (subst (λ n. slice_get (slice_set c.loop-held.reports.items n c.gather-shard.result.0) i ≡ Some report) placed there);
      before = λ i below.
          ap (λ n. slice_get (slice_set c.loop-held.reports.items n c.gather-shard.result.0) i) placed ∙ below_set c.loop-held.reports.items place c.gather-shard.result.0 i below ∙ at.before i (omega (arith, below, longer));
      same_helds = λ i below.
          left_same c.loop-held.helds.items rest.items c.in-Some.held c.in-Some.ensures.items i (omega (arith, below, len_h)) ∙ at.same_helds i (omega (arith, below, longer));
      rows = λ i held report past there counted.
          rows_set (λ h. h.shard.memory.state.rows) c.args.helds.items c.loop-held.reports.items place c.gather-shard.result.0 c.in-Some.held
          (sym (at.same_helds place (omega (arith, longer))) ∙ popped_get c.loop-held.helds.items rest.items c.in-Some.held c.in-Some.ensures.items place len_h)
          c.gather-shard.ensures.rows
          (λ j h r beyond. at.rows j h r (omega (arith, beyond, longer))) i held report past there
          (subst (λ n. slice_get (slice_set c.loop-held.reports.items n c.gather-shard.result.0) i ≡ Some report) placed counted);
      room = omega (arith, at.room, longer, c.push_reserved.ensures.len, c.push_reserved.ensures.capacity);
      handed = handed_on (λ h. closed_of h.shard.memory) c.loop-held.helds.items rest.items c.in-Some.held c.loop-held.shards.items c.push_reserved.new.self.items
          (map (λ h. closed_of h.shard.memory) c.args.helds.items) c.in-Some.ensures.items
          (c.push_reserved.ensures.items ∙ ap (λ s. c.loop-held.shards.items ++ s ∷ []) c.gather-shard.ensures.shard) at.handed;
    }

pub returns-clause-closed : goal.returns-clause-closed
returns-clause-closed g c i report there =
    let none = none_left (vec_len c.loop-held.helds) c.in_default.ensures.variant.1 in
    c.loop-held.invariant.closed i report (omega (arith, none)) there

pub returns-clause-rows : goal.returns-clause-rows
returns-clause-rows g c i held report there counted =
    let none = none_left (vec_len c.loop-held.helds) c.in_default.ensures.variant.1 in
    c.loop-held.invariant.rows i held report (omega (arith, none)) there counted

pub returns-clause-shards : goal.returns-clause-shards
returns-clause-shards g c =
    let none = none_left (vec_len c.loop-held.helds) c.in_default.ensures.variant.1 in
    let empty = no_item c.loop-held.helds.items (sym c.loop-held.helds.ok.0 ∙ none) in
    c.reverse.ensures.items ∙ ap (λ helds. map (λ held. closed_of held.shard.memory) helds ++ reverse c.loop-held.shards.items) (sym empty)
    ∙ c.loop-held.invariant.handed
