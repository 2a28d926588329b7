use Rattle.std.proofs.Common.{◌≡◌, ◌*◌, not}
use Rattle.cut_sets.specs.ranges.Spans.{spans}
use Rattle.cut_ledger.proofs.Words.{flat_map, has, range_with_len}
use Rattle.cut_ledger.proofs.ledger.Ledger.gaps.Given as goal

-- the gaps of the cells so far
abbrev pub invariant-loop-cell : goal.invariant-loop-cell
invariant-loop-cell l =
    l.gaps.items ≡ flat_map (λ c. spans (λ t. not (has l.self.contents t)) (c * l.self.contents.plan.repeats)
    l.self.contents.plan.repeats) (range_with_len 0 l.cell)
