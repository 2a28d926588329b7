-- Bytes are a study of one plan at most.
use Rattle.std.proofs.Common.{◌≡◌, ℕ, zero, suc, true, List, Ok, Err}
use Rattle.std.proofs.Common.{refl, subst, arith}
use Rattle.cut_plan.specs.Values.{Values}
use Rattle.cut_ledger.specs.declared.slip.Slip.{Slip}
use Rattle.cut_ledger.specs.Slips.{AreGood}
use Rattle.cut_ledger.proofs.SlipLemmas.{none_bad}
use Rattle.cut_journal.specs.declared.fault.JournalFault.TheVariants as journal
use Rattle.cut_journal.specs.Reading.{is_study, says_plan, reading}
use Rattle.cut_status.specs.declared.fault.StatusFault.{StatusFault}
use Rattle.cut_status.specs.declared.fault.StatusFault.TheVariants.{Memory, NoStudy, Damaged, BadSlip}
use Rattle.cut_status.specs.Status.{StatusValue}
use Rattle.cut_status.specs.Study.{IsStudyOf, IsStatusOf, IsStatusFault}
use Rattle.cut_status.proofs.Headers.{ReadsBack, same_plan}
use Rattle.cut_status.proofs.Readings.{choice_is}

-- ---- readings that say the plan's text

read_says : (v : Values) (bytes : List ℕ) (slips : List Slip) → reading v bytes ≡ Ok slips → (is_study bytes ≡ true)
    × (says_plan v bytes ≡ true)
read_says v bytes slips is =
    grind (arith, choice_is)

slip_says : (v : Values) (bytes : List ℕ) (n : ℕ) → reading v bytes ≡ Err (journal.Damaged (suc n))
    → says_plan v bytes ≡ true
slip_says v bytes n is =
    grind (arith, choice_is)

-- ---- one plan

one_study : ReadsBack → (bytes : List ℕ) (v w : Values) (ss ts : List Slip) → IsStudyOf bytes v ss
    → IsStudyOf bytes w ts → (v ≡ w) × (ss ≡ ts)
one_study back bytes v w ss ts one two =
    grind (arith, same_plan, read_says)

pub one_status : ReadsBack → (bytes : List ℕ) (s t : StatusValue) → IsStatusOf bytes s → IsStatusOf bytes t → s ≡ t
one_status back bytes s t one two =
    let same = one_study back bytes one.plan two.plan one.slips two.slips one.study two.study in
    search arith

-- ---- and no fault

pub fault_alone : ReadsBack → (bytes : List ℕ) (s : StatusValue) (e : StatusFault) → IsStatusOf bytes s
    → IsStatusFault bytes e → e ≡ Memory
fault_alone back bytes s Memory one is = refl
fault_alone back bytes s NoStudy one is =
    grind (arith, read_says)
fault_alone back bytes s (Damaged zero) one is =
    grind arith
fault_alone back bytes s (Damaged (suc n)) one is =
    grind (arith, same_plan, slip_says, read_says)
fault_alone back bytes s (BadSlip n) one is =
    let same = one_study back bytes one.plan is.plan one.slips is.slips one.study is.study in
    let good : AreGood is.plan is.slips = subst (λ (ss : List Slip). AreGood is.plan ss) same.1
    (subst (λ (v : Values). AreGood v one.slips) same.0 one.good) in
    absurd (none_bad is.plan is.slips n good is.bad)
