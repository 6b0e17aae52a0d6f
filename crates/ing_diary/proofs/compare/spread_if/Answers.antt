use Rattle.std.proofs.Common.{◌≡◌, ◌++◌, List, [], OnOk, append-nil, ap, filter, sym, subst, ◌∙◌}
use Rattle.ing_rows.specs.Placement.{shard_of}
use Rattle.ing_rows.specs.Rows.{StreamKey}
use Rattle.ing_diary.specs.Notes.{Note, is_in_shard}
use Rattle.ing_diary.proofs.NoteLaws.{all_in, none_in}
use Rattle.ing_diary.proofs.compare.spread_if.Goals as goal

pub returns-then-shard_of-shard : goal.returns-then-shard_of-shard
returns-then-shard_of-shard c =
    let s : StreamKey = record { tenant = c.noted.inside.tenant; name = c.noted.inside.name } in
    let old = c.args.notes.now.items in
    let at : c.shard_of.result ≡ shard_of s.tenant s.name c.args.shards = c.shard_of.ensures.shard ∙ ap (λ n. shard_of s.tenant n c.args.shards) c.as_str.ensures in
    let all : filter (is_in_shard c.args.shards c.args.shard) c.args.noted.now ≡ c.args.noted.now =
    subst (λ (ns : List Note). filter (is_in_shard c.args.shards c.args.shard) ns ≡ ns) c.noted.view_is
    (all_in c.args.shards c.args.shard s c.noted.inside.entries.items (sym at ∙ c.if-shard_of-shard.true)) in
    subst (λ (ns : List Note). OnOk c.spread_one.result (c.spread_one.new.notes.items ≡ old ++ ns)) (sym all) c.spread_one.ensures

pub returns-else-shard_of-shard : goal.returns-else-shard_of-shard
returns-else-shard_of-shard c =
    let s : StreamKey = record { tenant = c.noted.inside.tenant; name = c.noted.inside.name } in
    let old = c.args.notes.now.items in
    let at : c.shard_of.result ≡ shard_of s.tenant s.name c.args.shards = c.shard_of.ensures.shard ∙ ap (λ n. shard_of s.tenant n c.args.shards) c.as_str.ensures in
    let none = subst (λ (ns : List Note). filter (is_in_shard c.args.shards c.args.shard) ns ≡ []) c.noted.view_is
    (none_in c.args.shards c.args.shard s c.noted.inside.entries.items (λ same. c.if-shard_of-shard.false (at ∙ same))) in
    sym (append-nil old) ∙ ap (λ (ns : List Note). old ++ ns) (sym none)
