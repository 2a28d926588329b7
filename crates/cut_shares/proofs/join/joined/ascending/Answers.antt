use Rattle.std.proofs.Common.{rules}
use Rattle.std.proofs.lemmas.List.Sorted.{IsNonDecreasingBy-from_sort_by_key}
use Rattle.cut_ledger.specs.declared.slip.Slip.{Slip}
use Rattle.cut_shares.proofs.join.joined.ascending.Goals as goal

pub returns-clause-sorted : goal.returns-clause-sorted
returns-clause-sorted c =
    IsNonDecreasingBy-from_sort_by_key (λ (s : Slip). s.piece.first) _ c.sort_unstable_by_key.ensures.sorted
    (λ a r q k. search rules)
