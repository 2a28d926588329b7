use Rattle.std.proofs.Common.{◌≡◌, ◌∙◌, ℕ, List, [], Result, Ok, Err, refl, sym, ap}
use Rattle.cut_plan.specs.Values.{Values}
use Rattle.cut_disks.specs.Faulty.{FaultyDiskValue}
use Rattle.cut_disks.specs.Memory.{state_of}
use Rattle.cut_ledger.specs.declared.slip.Slip.{Slip}
use Rattle.cut_ledger.specs.World.{AreTrue}
use Rattle.cut_journal.specs.declared.fault.JournalFault.{JournalFault}
use Rattle.cut_journal.specs.declared.fault.JournalFault.TheVariants.{NoStudy}
use Rattle.cut_journal.specs.Reading.{reading}
use Rattle.cut_pool_tests.proofs.hall.deeds.BrittleShelfFaultyDisk.open.Goals as goal

no_study : (v : Values) → reading v [] ≡ Err NoStudy
unfolding reading
no_study v = refl

-- no slips are read from no bytes
none_read : (v : Values) (bytes : List ℕ) (slips : List Slip) → bytes ≡ [] → reading v bytes ≡ Ok slips
    → AreTrue v slips
none_read v bytes slips none reads =
    let some : Result (List Slip) JournalFault = Ok slips in
    let fault : Result (List Slip) JournalFault = Err NoStudy in
    absurd (let no : fault ≡ some = sym (no_study v) ∙ sym (ap (λ (b : List ℕ). reading v b) none) ∙ reads in
    let never : ⊥ = cc in never)

pub returns : goal.returns
returns c = record {
  given = tt;
  trusted = λ t. (
    refl,
    λ slips reads. none_read c.args._plan.now (state_of c.in-Ok.disk.memory).bytes slips
        (ap (λ (d : FaultyDiskValue). (state_of d.memory).bytes) c.in-Ok.ensures ∙ c.new.ensures.items) reads,
  );
}
