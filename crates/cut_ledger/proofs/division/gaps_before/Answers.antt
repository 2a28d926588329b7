-- The search ends at the first gap that ends after the number.
use Rattle.std.proofs.Common.{nat_le, rules}
use Rattle.std.proofs.lemmas.Bool.{leb-true, leb-false}
use Rattle.std.proofs.lemmas.List.Sorted.{IsPartitionPoint-from_clause, IsPartitionedBy-leb}
use Rattle.cut_ledger.specs.declared.division.Stretch.{Stretch}
use Rattle.cut_ledger.proofs.division.gaps_before.Goals as goal

pub returns-clause-parts : goal.returns-clause-parts
returns-clause-parts c =
    let point = IsPartitionPoint-from_clause (λ (s : Stretch). nat_le s.end c.args.number) c.args.stretches.now _
    c.partition_point.ensures.partitioned (IsPartitionedBy-leb (λ (s : Stretch). s.end) c.args.stretches.now
    c.args.number c.requires) (λ a r q k. search rules) in
    (λ k d low high. leb-true _ _ (point.0 k d low high), λ k d low high. leb-false _ _ (point.1 k d low high))
