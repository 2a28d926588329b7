-- What a crash leaves is what the machine of runs says.
use Rattle.std.proofs.Common.{arith, ◌≡◌, ◌++◌, inl, inr, ℕ, Bool, true, false, List, [], ◌∷◌, Option}
use Rattle.std.proofs.Common.{Some, None, is_some, unwrap_or, refl, append-nil}
use Rattle.cut_plan.specs.Values.{Values}
use Rattle.cut_outcome.specs.Computed.{Computed}
use Rattle.cut_ledger.specs.declared.slip.Slip.{Slip}
use Rattle.cut_ledger.specs.declared.event.Event.TheVariants.{HandIn, HandInDiskFails, CrashReopen}
use Rattle.cut_ledger.specs.Machine.{StudyState, after, opened, slip_of, slips_found, taken, failed}
use Rattle.cut_ledger.specs.Refusals.{refusal_of}
use Rattle.cut_journal.specs.Journal.{kept_slips, ReadsAs}
use Rattle.cut_journal.specs.Laws.{IsResumed, CrashesBetweenCalls, CrashesInAppends, AppendsFollow}
use Rattle.cut_journal.specs.Laws.{OpeningsFollow, OtherEventsFollow}
use Rattle.cut_journal.proofs.Appends.{kept_are}
use Rattle.cut_journal.proofs.Moments.{weaker}
use Rattle.cut_journal.proofs.Series.{none_of}

-- a study that is opened over what a run finds
reopened : (v : Values) (s : StudyState) (keep : Bool) (slips : List Slip) → s.ledger.plan ≡ v → s.has_journal ≡ true
    → slips_found s keep ≡ slips
    → (size : ℕ) → after s (CrashReopen keep size) ≡ opened v true slips size
reopened v s keep slips plan journal found size = rw (found, plan, journal) refl

resumed : (v : Values) (s : StudyState) (ks : List Slip) (doubtful : Option Slip) (bytes : List ℕ) → s.ledger.plan ≡ v
    → s.has_journal ≡ true → s.kept ≡ ks → s.doubtful ≡ doubtful
    → ReadsAs v ks doubtful bytes → IsResumed v s bytes
resumed v s ks doubtful bytes plan journal kept doubt (inl reads) =
    let found : slips_found s false ≡ ks = rw (journal, kept) (append-nil ks) in
    (false, (ks, (reads, reopened v s false ks plan journal found)))
resumed v s ks doubtful bytes plan journal kept doubt (inr (slip, both)) =
    let found : slips_found s true ≡ ks ++ slip ∷ [] = rw (journal, kept, doubt, both.0) refl in
    (true, (ks ++ slip ∷ [], (both.1, reopened v s true (ks ++ slip ∷ []) plan journal found)))

pub between_calls : CrashesBetweenCalls
between_calls v count doubtful d s sound of image is =
    resumed v s (kept_slips v count d) doubtful image of.plan of.journal of.kept of.doubt (sound.images image is)

-- what the run makes of a result that the ledger takes
after_failing : (s : StudyState) (r : Computed) → s.broken ≡ false → refusal_of s.ledger r ≡ None
    → after s (HandInDiskFails r) ≡ failed s r
after_failing s r sound fine = rw (sound, fine) refl

after_broken : (s : StudyState) (r : Computed) → s.broken ≡ true → after s (HandInDiskFails r) ≡ s
after_broken s r broken = rw broken refl

after_taking : (s : StudyState) (r : Computed) → s.broken ≡ false → refusal_of s.ledger r ≡ None → after s (HandIn r)
    ≡ taken s r
after_taking s r sound fine = rw (sound, fine) refl

in_append : (v : Values) (ks : List Slip) (doubtful : Option Slip) (s : StudyState) (r : Computed) → s.ledger.plan ≡ v
    → s.has_journal ≡ true → s.kept ≡ ks → s.doubtful ≡ doubtful
    → s.broken ≡ is_some doubtful → refusal_of s.ledger r ≡ None → (bytes : List ℕ)
    → ReadsAs v ks (Some (unwrap_or doubtful (slip_of r))) bytes
    → IsResumed v (after s (HandInDiskFails r)) bytes
in_append v ks None s r plan journal kept doubt broken fine bytes reads = rw (after_failing s r broken fine)
    (resumed v (failed s r) ks (Some (slip_of r)) bytes plan journal kept refl reads)
in_append v ks (Some slip) s r plan journal kept doubt broken fine bytes reads = rw (after_broken s r broken)
    (resumed v s ks (Some slip) bytes plan journal kept doubt reads)

pub in_appends : CrashesInAppends
in_appends v count doubtful old new s r of fine moments =
    weaker (ReadsAs v (kept_slips v count old) (Some (unwrap_or doubtful (slip_of r))))
    (IsResumed v (after s (HandInDiskFails r)))
    (in_append v (kept_slips v count old) doubtful s r of.plan of.journal of.kept of.doubt of.broken fine) old new
    moments

-- ---- the journal of a run stays so

pub follows : {D : Type 0} → AppendsFollow D
follows result r old new before now s of fine broken left kept =
    grind (arith, none_of, after_taking s r, after_failing s r)

pub opening_follows : OpeningsFollow
opening_follows v count slips d size reads long =
    grind (arith, kept_are v count slips d reads long)

pub others_follow : OtherEventsFollow
others_follow v count doubtful d s event of leaves =
    grind arith
