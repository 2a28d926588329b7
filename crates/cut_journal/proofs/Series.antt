-- Slips that are appended one after another, and what each crash of it leaves.
use Rattle.std.proofs.Common.{◌≡◌, ◌∙◌, ◌++◌, ℕ, List, [], ◌∷◌, Option, Some, None, refl}
use Rattle.std.proofs.Common.{arith, sym, subst, append-nil, append_assoc}
use Rattle.std.specs.Prelude.{IsSome, ◌⊎◌}
use Rattle.cut_plan.specs.Values.{Values}
use Rattle.cut_disks.specs.State.{DiskState, Throughout}
use Rattle.cut_ledger.specs.declared.slip.Slip.{Slip}
use Rattle.cut_journal.specs.Journal.{AppendsEach, IsFileOf, ReadsAs, kept_slips}
use Rattle.cut_journal.proofs.Moments.{stays, weaker, and_then}

pub none_of : (o : Option Slip) → (IsSome o → ⊥) → o ≡ None
none_of o never =
    grind arith

reads_on : (v : Values) (kept : List Slip) (e : Option Slip) (bytes : List ℕ) → ReadsAs v kept None bytes
    → ReadsAs v kept e bytes
reads_on v kept e bytes reads =
    grind arith

-- what an append of each kind leaves to be said of the doubtful slip before it
abbrev pub LeavesDoubt : Option Slip → Option Slip → List Slip → Type 0
LeavesDoubt d e ys = (d ≡ None) ⊎ ((ys ≡ []) × (e ≡ d))

-- moments at which only the kept slips are there
only_kept : (v : Values) (kept : List Slip) (d e : Option Slip) (old mid : DiskState) → LeavesDoubt d e []
    → Throughout old mid (ReadsAs v kept d) → Throughout old mid (ReadsAs v kept e)
only_kept v kept d e old mid doubt before =
    grind (arith, weaker (ReadsAs v kept None) (ReadsAs v kept e) (reads_on v kept e) old mid)

-- before others
begun_with : (v : Values) (kept ys : List Slip) (d e : Option Slip) (old mid new : DiskState) → LeavesDoubt d e ys
    → Throughout old mid (ReadsAs v kept d)
    → AppendsEach v kept e ys mid new → AppendsEach v kept e ys old new
begun_with v kept [] d e old mid new doubt before after =
    and_then (ReadsAs v kept e) old mid new (only_kept v kept d e old mid doubt before) after
begun_with v kept (y ∷ ys) d e old mid new doubt before after =
    grind (arith, and_then (ReadsAs v kept (Some y)) old mid, only_kept v kept d (Some y) old mid)

-- slips that are appended after others
pub each_then : (v : Values) (kept now xs ys : List Slip) (d e : Option Slip) (old mid new : DiskState) → now ≡ kept
    ++ xs → LeavesDoubt d e ys
    → AppendsEach v kept d xs old mid → AppendsEach v now e ys mid new → AppendsEach v kept e (xs ++ ys) old new
each_then v kept now [] ys d e old mid new are doubt before after =
    begun_with v kept ys d e old mid new doubt before
    (subst (λ (l : List Slip). AppendsEach v l e ys mid new) (are ∙ append-nil kept) after)
each_then v kept now (x ∷ xs) ys d e old mid new are doubt before after = (
  before.0,
  (
    before.1.0,
    each_then v (kept ++ x ∷ []) now xs ys d e before.0 mid new (are ∙ sym (append_assoc kept (x ∷ []) xs)) doubt
        before.1.1 after,
  ),
)

-- nothing is appended
pub nothing_appended : (v : Values) (count : ℕ) (doubtful : Option Slip) (d : DiskState) → IsFileOf v count doubtful d
    → AppendsEach v (kept_slips v count d) doubtful [] d d
nothing_appended v count doubtful d sound =
    stays (ReadsAs v (kept_slips v count d) doubtful) d d refl (λ image of. sound.images image of)
