-- How a reading of slips goes on from one of their gates.
use Rattle.std.proofs.Common.{◌≡◌, ◌∙◌, ◌+◌, ◌-◌, ℕ, suc, List, [], Result, Ok, Err, length, drop, sym, arith}
use Rattle.std.specs.Prelude.{Some, None}
use Rattle.std.proofs.lemmas.Bool.Decides.{nat_tests}
use Rattle.std.proofs.lemmas.List.{drop-drop, length-drop}
use Rattle.cut_plan.specs.Failing.{version_of}
use Rattle.cut_ledger.specs.declared.slip.Slip.{Slip}
use Rattle.cut_journal.specs.declared.fault.JournalFault.{JournalFault}
use Rattle.cut_journal.specs.declared.kept_slips.KeptSlips.TheInside.{Inside}
use Rattle.cut_journal.specs.File.{slip_length}
use Rattle.cut_journal.specs.Reading.{reading, slips_in, then_slips}
use Rattle.cut_journal.specs.Unread.{IsReadNext}
use Rattle.cut_journal.specs.inside.Places.{gate_place}
use Rattle.cut_journal.specs.inside.Steps.{IsOfPlan, IsStep}
use Rattle.cut_journal.specs.inside.UnreadInside.{unread_of, IsAtGate}
use Rattle.cut_journal.proofs.Gates.{gate_far, gate_next, nine_numbers}
use Rattle.cut_journal.proofs.Readings.{first_there, plan_read, reading_at}

-- ---- the first gate

pub begins_at : (k : Inside) → IsOfPlan k.study k.bytes.now → k.gate.number ≡ 0 → k.gate.place ≡ gate_place k.study 0
    → IsAtGate k
begins_at k is none here =
    grind (arith, first_there k.study k.bytes.now is.header is.text)

pub begins_unread : (k : Inside) → IsOfPlan k.study k.bytes.now → k.gate.number ≡ 0 → k.gate.place
    ≡ gate_place k.study 0 → (unread_of k).slips ≡ reading k.study k.bytes.now
begins_unread k is none here =
    let more : length k.bytes.now - k.gate.number ≡ length k.bytes.now = omega arith in
    rw (more, none, here) (sym (plan_read k.study k.bytes.now is ∙ reading_at k.study k.bytes.now))

-- ---- a step

-- what is unread begins with what is found after the gate
opened : (k : Inside) (later : Result (List Slip) JournalFault) → IsAtGate k
    → slips_in k.study (suc (length k.bytes.now - (k.gate.number + 1))) (k.gate.number + 1)
    (drop k.gate.place k.bytes.now) ≡ later → (unread_of k).slips ≡ later
opened k later at is =
    let more : length k.bytes.now - k.gate.number ≡ suc (length k.bytes.now - (k.gate.number + 1)) =
    omega (arith, at.place, at.within, gate_far k.study k.gate.number) in
    rw more is

-- the gate after a slip
abbrev pub moved : Inside → ℕ → Inside
moved k size = record k { gate = record { number = k.gate.number + 1; place = k.gate.place + size } }

-- the slip after the gate was read
pub next_at : (k : Inside) (slip : Slip) (size : ℕ) → size ≡ slip_length (version_of k.study.failing) → IsAtGate k
    → IsStep (Ok (Some slip)) k.study (k.gate.number + 1) (drop k.gate.place k.bytes.now) → IsAtGate (moved k size)
next_at k slip size is at step =
    grind (arith, nat_tests, gate_next, length-drop)

pub reads_on : (k : Inside) (slip : Slip) (size : ℕ) → size ≡ slip_length (version_of k.study.failing) → IsAtGate k
    → IsStep (Ok (Some slip)) k.study (k.gate.number + 1) (drop k.gate.place k.bytes.now)
    → IsReadNext (Ok (Some slip)) (unread_of k) (unread_of (moved k size))
reads_on k slip size is at step =
    grind (arith, opened k (then_slips slip (unread_of (moved k size)).slips) at, drop-drop, nine_numbers)

pub reads_none : (k : Inside) → IsAtGate k
    → IsStep (Ok None) k.study (k.gate.number + 1) (drop k.gate.place k.bytes.now) → (unread_of k).slips ≡ Ok []
reads_none k at shut =
    grind (arith, opened k (Ok []) at)

pub reads_fault : (k : Inside) (fault : JournalFault) → IsAtGate k
    → IsStep (Err fault) k.study (k.gate.number + 1) (drop k.gate.place k.bytes.now) → (unread_of k).slips ≡ Err fault
reads_fault k fault at step =
    grind (arith, opened k (Err fault) at)
