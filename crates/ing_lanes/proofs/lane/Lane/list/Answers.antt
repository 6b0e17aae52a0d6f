use Rattle.std.proofs.Common.{◌≤◌, List, length, map, subst, sym, ◌∙◌, ap}
use Rattle.std.specs.Prelude.{string_bytes}
use Rattle.std.proofs.lemmas.Option.{slice_get-map}
use Rattle.std.proofs.lemmas.Result.{IfOk-weaker}
use Rattle.std.specs.Option.{option_map}
use Rattle.ing_node.specs.Catalog.{matchers_in}
use Rattle.ing_rows.specs.Rows.{Row}
use Rattle.ing_lanes.specs.ByLane.{Entries, Listed, NotListed}
use Rattle.ing_lanes.proofs.lane.Lane.list.Goals as goal

-- texts are listed
pub returns-in-Ok-clause-came : goal.returns-in-Ok-clause-came
returns-in-Ok-clause-came g c = λ asks told same.
    let said = c.in-Ok.ensures.lists in
    record {
      listing = Listed (map string_bytes c.in-Ok.texts.items);
      may_be = record {
        ms = matchers_in c.args.selector;
        asks = asks;
        shards = said.shards;
        all = said.all;
        no_less = λ i rows at. subst (λ n. n ≤ length rows) (sym (same (Entries i)))
            (said.no_less i (length rows) (slice_get-map (λ (l : List Row). length l) said.shards i ∙ ap (option_map (λ (l : List Row). length l)) at));
        lists = said.lists;
      };
      told = c.of_catalog.ensures;
    }

-- a lock was not passed
pub returns-in-Err-clause-came : goal.returns-in-Err-clause-came
returns-in-Err-clause-came g c = λ asks.
    IfOk-weaker c.node_fault.result _ _
    (λ reply made told same. record { listing = NotListed c.in-Err.fault; may_be = c.in-Err.ensures.refused; told = made })
    c.node_fault.ensures
