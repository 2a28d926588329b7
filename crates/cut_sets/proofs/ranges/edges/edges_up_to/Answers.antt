use Rattle.std.proofs.Common.{ℕ, nat_le, rules, arith}
use Rattle.std.proofs.lemmas.Bool.{leb-true, leb-false}
use Rattle.std.proofs.lemmas.List.Sorted.{IsPartitionPoint-from_clause, IsPartitionedBy-leb}
use Rattle.cut_sets.proofs.EdgeLemmas.{counted}
use Rattle.cut_sets.proofs.ranges.edges.edges_up_to.Goals as goal

pub returns-clause-parts : goal.returns-clause-parts
returns-clause-parts c =
    let point = IsPartitionPoint-from_clause (λ (e : ℕ). nat_le e c.args.number) c.args.edges.now _
    c.partition_point.ensures.partitioned (IsPartitionedBy-leb (λ (e : ℕ). e) c.args.edges.now c.args.number
    c.requires) (λ a r q k. search rules) in
    (λ k d low high. leb-true _ _ (point.0 k d low high), λ k d low high. leb-false _ _ (point.1 k d low high))

pub returns-clause-count : goal.returns-clause-count
returns-clause-count c =
    let e = counted c.args.edges.now c.args.number c.partition_point.result c.partition_point.ensures.bound
    (returns-clause-parts c) in
    omega (arith, e)
