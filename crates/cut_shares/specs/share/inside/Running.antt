-- What only the crate's own clauses and proofs cite, beside specs/Running.antt.
use Rattle.std.specs.Prelude.{⊤, List, map}
use Rattle.cut_plan.specs.Values.{Values}
use Rattle.cut_outcome.specs.declared.piece.Piece.{Piece}
use Rattle.cut_outcome.specs.Sum.{sum_of, trials_in}
use Rattle.cut_ledger.specs.declared.slip.Slip.{Slip}
use Rattle.cut_ledger.specs.Slips.{IsFirstBad}
use Rattle.cut_journal.specs.declared.store_fault.StoreFault.{StoreFault}
use Rattle.cut_journal.specs.declared.store_fault.StoreFault.TheVariants.{Memory, BadSlip}

-- why a run does not begin: memory ran out, which says nothing of the slips, or the fault names the first bad one
abbrev pub IsFaultOfOpening : Values → List Slip → StoreFault → Type 0
IsFaultOfOpening v ss Memory = ⊤
IsFaultOfOpening v ss (BadSlip n) = IsFirstBad v ss n
IsFaultOfOpening v ss fault = ⊥

-- what is kept of a piece that was run
abbrev pub slip_at : Values → Piece → Slip
slip_at v p = record { piece = p; totals = sum_of v (trials_in p) }

abbrev pub slips_at : Values → List Piece → List Slip
slips_at v ps = map (slip_at v) ps
