use Rattle.std.proofs.Common.{length, take, nat_lt, rules, arith}
use Rattle.std.proofs.lemmas.Slice.{between_to_end}
use Rattle.std.proofs.lemmas.List.Sorted.{IsPartitionPoint-from_clause, IsPartitionedBy-ltb, IsNonDecreasingBy-take}
use Rattle.ing_postings.proofs.Walked.{FrontLeft, front_left}
use Rattle.ing_postings.proofs.postings.from_place.Goals as goal

left : (c : goal.After-result-1) → FrontLeft c.args.list.now c.args.place c.partition_point-at.result
left c =
    let list = c.args.list.now in
    let end = c.end_above-end.result in
    let split = IsPartitionPoint-from_clause (λ p. nat_lt p c.args.place) (take end list) c.partition_point-at.result c.partition_point-at.ensures.partitioned (IsPartitionedBy-ltb (λ p. p) (take end list) c.args.place (IsNonDecreasingBy-take (λ p. p) end list c.requires)) (λ a r f k. search rules) in
    front_left list c.args.place end c.partition_point-at.result c.requires c.end_above-end.ensures.within c.end_above-end.ensures.above c.partition_point-at.ensures.bound split

pub returns-clause-above : goal.returns-clause-above
returns-clause-above c = rw (between_to_end c.args.list.now c.partition_point-at.result (length c.args.list.now) (omega arith)) (left c).above

pub returns-clause-rest : goal.returns-clause-rest
returns-clause-rest c = rw (between_to_end c.args.list.now c.partition_point-at.result (length c.args.list.now) (omega arith)) (left c).rest
