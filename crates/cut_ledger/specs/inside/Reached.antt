-- What is true of the state of every run. Only the crate's private clauses cite it.
use Rattle.std.specs.Prelude.{◌≡◌, ◌<◌, ◌≤◌, ℕ, true, false, List, length, None, IfSome}
use Rattle.std.specs.List.{AllByRecursion}
use Rattle.cut_plan.specs.Values.{Values}
use Rattle.cut_plan.specs.Cells.{trial_count}
use Rattle.cut_outcome.specs.Outcome.{one_if}
use Rattle.cut_ledger.specs.declared.slip.Slip.{Slip}
use Rattle.cut_ledger.specs.Contents.{Contents, has, is_in, over_base}
use Rattle.cut_ledger.specs.Machine.{StudyState, available}
use Rattle.cut_ledger.specs.World.{AreTrue, IsTrueSlip, times_in, pieces_of_slips}

-- the slip of an append that failed: it is true, and none of its trials is held
pub record IsDoubtful (v : Values) (l : Contents) (s : Slip) : Type 0 where
  pub is_true : IsTrueSlip v s
  pub free : (t : ℕ) → is_in s.piece t ≡ true → has l t ≡ false

-- a ledger that has just begun with slips that are true and apart
pub record IsOver (l : Contents) (base : List Slip) : Type 0 where
  pub some : 0 < l.plan.repeats
  pub over : l ≡ over_base l.plan base
  pub slips : AreTrue l.plan base

-- a ledger over true slips that are apart
pub record IsFounded (v : Values) (l : Contents) : Type 0 where
  pub plan : l.plan ≡ v
  pub some : 0 < v.repeats
  pub within : (t : ℕ) → has l t ≡ true → t < trial_count v
  pub base : AreTrue v l.base

-- the state of a run of a plan
pub record IsReached (v : Values) (s : StudyState) : Type 0 where
  pub ledger : IsFounded v s.ledger
  -- the slips that are kept are true, and each of their trials is held, in one of them
  pub kept : AllByRecursion (IsTrueSlip v) s.kept
  pub apart : (t : ℕ) → times_in (pieces_of_slips s.kept) t ≤ one_if (has s.ledger t)
  pub doubtful : IfSome s.doubtful (λ slip. IsDoubtful v s.ledger slip)
  pub frozen : s.broken ≡ false → s.doubtful ≡ None
  pub sent : s.sent ≤ length (available s.ledger)
