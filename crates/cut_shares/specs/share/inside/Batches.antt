-- What the batches of a run leave in the journal.
use Rattle.std.specs.Prelude.{◌≡◌, ◌≤◌, ◌+◌, ◌++◌, ℕ, Bool, true, false, List, [], ◌∷◌, length, All, IsSome}
use Rattle.std.specs.Prelude.{None, Some, Result, Ok, Err}
use Rattle.cut_plan.specs.Values.{Values}
use Rattle.cut_outcome.specs.declared.piece.Piece.{Piece}
use Rattle.cut_disks.specs.Log.{DiskLog}
use Rattle.cut_ledger.specs.declared.slip.Slip.{Slip}
use Rattle.cut_ledger.specs.World.{pieces_of_slips, times_in}
use Rattle.cut_journal.specs.declared.store_fault.StoreFault.{StoreFault}
use Rattle.cut_journal.specs.declared.store_fault.StoreFault.TheVariants.{Broken, Disk}
use Rattle.cut_journal.specs.Adding.{Adds}
use Rattle.cut_journal.specs.Journal.{JournalValue}
use Rattle.cut_shares.specs.declared.share.share.Share.{Share}
use Rattle.cut_shares.specs.share.inside.Pieces.{IsSharePiece, own_times}
use Rattle.cut_shares.specs.share.Share.{IsShareSlip}
use Rattle.cut_shares.specs.share.inside.Running.{slips_at}

-- the share's trials in some pieces are those of these pieces, of these for which memory ran out, and what is left
pub record AreParted (s : Share) (v : Values) (all done lost left : List Piece) : Type 0 where
  pub done_own : All (IsSharePiece s v) done
  pub lost_own : All (IsSharePiece s v) lost
  pub times : (t : ℕ) → times_in done t + times_in lost t + own_times s v left t ≡ own_times s v all t

-- where memory sufficed for all, none is lost, and else some is
pub record IsWhole (whole : Bool) (lost : List Piece) : Type 0 where
  pub none : whole ≡ true → length lost ≡ 0
  pub some : whole ≡ false → 1 ≤ length lost

-- slips of the share whose trials are among its trials in some pieces, each as often as there at most
pub record AreWithin (s : Share) (v : Values) (all : List Piece) (slips : List Slip) : Type 0 where
  pub each : All (IsShareSlip s v) slips
  pub times : (t : ℕ) → times_in (pieces_of_slips slips) t ≤ own_times s v all t

-- up to here, with these pieces left: which results are kept, and for which pieces memory ran out
pub record IsUpTo {D : Type 0} (log : D → DiskLog) (whole : Bool) (s : Share)
    (v : Values) (all left : List Piece) (old new : JournalValue D) : Type 0 where
  pub done : List Piece
  pub lost : List Piece
  pub parted : AreParted s v all done lost left
  pub sufficed : IsWhole whole lost
  pub kept : Adds log (slips_at v done) None old new

-- how the batches end: all are worked off; or the journal is broken and takes none; or the disk failed at one slip
abbrev pub EndsPieces : {D : Type 0} → (D → DiskLog) → Result Bool StoreFault → Share → Values
    → List Piece → JournalValue D → JournalValue D → Type 0
EndsPieces log (Ok whole) s v all old new = IsUpTo log whole s v all [] old new
EndsPieces log (Err Broken) s v all old new =
    Adds log [] None old new × IsSome old.doubtful × ((t : ℕ) × (1 ≤ own_times s v all t))
EndsPieces log (Err Disk) s v all old new =
    (added : List Slip) × (slip : Slip)
    × (Adds log added (Some slip) old new × AreWithin s v all (added ++ slip ∷ []))
EndsPieces log (Err fault) s v all old new = ⊥
