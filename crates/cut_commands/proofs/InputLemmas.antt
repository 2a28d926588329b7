-- A buffer after several reads into it, and the plan that is read so.
use Rattle.std.proofs.Common.{◌≡◌, ℕ, ◌+◌, ◌≤◌, ◌<◌, false, List, [], ◌++◌}
use Rattle.std.proofs.Common.{Err, length, nat_lt, take, refl, sym, ap, ◌∙◌, arith, length-append, inl}
use Rattle.std.specs.Prelude.{IsErrOf}
use Rattle.std.specs.Str.{is_utf8}
use Rattle.std.proofs.lemmas.List.{length-take-le, take-take}
use Rattle.std.proofs.lemmas.Slice.{take-put_mid}
use Rattle.std.proofs.Math.Seq.{take-append-add}
use borrow.Rule.Slice.PartMut.{put_mid}
use Rattle.cut_plan.specs.Accepted.{plan_of}
use Rattle.cut_plan.specs.Refusals.{IsFaultOfText}
use Rattle.cut_plan.specs.declared.refusal.PlanFault.{PlanFault}
use Rattle.cut_plan.specs.declared.refusal.PlanFault.TheVariants as plan
use Rattle.cut_plan.specs.declared.refusal.Refusal.TheVariants.{NotJson, PlanTooLong}
use Rattle.cut_wires.specs.Log.{WireLog}
use Rattle.cut_commands.specs.Faults.{fault_of_plan}
use Rattle.cut_commands.specs.Run.{GivesPlan, GivesText, IsReadAs}
use Rattle.cut_commands.specs.inside.Run.{FillsFrom}
use Rattle.cut_commands.specs.declared.fault.CliFault.{CliFault}
use Rattle.cut_commands.specs.declared.fault.CliFault.TheVariants.{Memory, Read}
use Rattle.cut_commands.proofs.Logs.{read_none}

-- the first bytes of a buffer after a read into its rest
pub take_filled : (filled n : ℕ) (k : ℕ) (buffer got : List ℕ) → filled ≤ length buffer → n ≤ length got
    → take (filled + n) (put_mid filled k buffer got) ≡ take filled buffer ++ take n got
take_filled filled n k buffer got within few =
    let all = take-put_mid filled k buffer got (filled + length got) refl within in
    let long : length (take filled buffer) ≡ filled = length-take-le filled buffer within in
    sym (take-take (filled + n) (filled + length got) (put_mid filled k buffer got) (omega arith))
    ∙ ap (λ xs. take (filled + n) xs) all
    ∙ ap (λ m. take (m + n) (take filled buffer ++ got)) (sym long)
    ∙ take-append-add (take filled buffer) got n

-- what was read is within the buffer
pub filled_fits : (filled n : ℕ) (k : ℕ) (buffer got : List ℕ) → filled ≤ length buffer → n ≤ length got → filled + n
    ≤ length (put_mid filled k buffer got)
filled_fits filled n k buffer got within few =
    grind (arith, length-append, length-take-le)

-- ---- a text, or none

-- a buffer of as many bytes as are read at most was not filled
pub gives_unfilled : (limit room : ℕ) (fault : CliFault) (buffer : List ℕ) (old new : WireLog) → room ≡ limit
    → FillsFrom room (Err fault) buffer old new → GivesText limit (Err fault) old new
gives_unfilled limit room Read buffer old new same is = (is.0, omega (arith, same, is.1), is.2)
gives_unfilled limit room fault buffer old new same is = absurd is

-- no text is no plan
pub gives_no_plan : (fault : CliFault) (old new : WireLog) → GivesText 65537 (Err fault) old new
    → GivesPlan (Err fault) old new
gives_no_plan Memory old new is = record { text = []; ended = false; log = is ∙ read_none old; is = inl (refl, refl) }
gives_no_plan Read old new is = record { text = is.0; ended = false; log = is.2; is = (is.1, refl) }
gives_no_plan fault old new is = absurd is

-- no plan was made of a text that was read
pub refused_as : {T : Type 0} (text : List ℕ) (fault : PlanFault) → length text ≤ 65537
    → IsFaultOfText (plan_of text) fault → (65536 < length text
    → IsErrOf {T = T} (Err fault) (plan.Refused PlanTooLong))
    → (length text ≤ 65536 → is_utf8 text ≡ false → IsErrOf {T = T} (Err fault) (plan.Refused NotJson))
    → IsReadAs text (nat_lt (length text) 65537) (Err (fault_of_plan fault))
refused_as text plan.Memory short why long utf8 = grind arith
refused_as text (plan.Refused refusal) short why long utf8 = grind arith
