-- Laws of the files of shares that several machines wrote.
use Rattle.std.specs.Prelude.{◌≡◌, ◌≤◌, ◌<◌, ◌==◌, ◌++◌, ℕ, List, [], All, count_by, take}
use Rattle.std.specs.List.{flat_map}
use Rattle.cut_plan.specs.Cells.{trial_count}
use Rattle.cut_plan.specs.Plan.{IsPlan}
use Rattle.cut_plan.specs.Values.{Values}
use Rattle.cut_ledger.specs.lines.Lines.{table}
use Rattle.cut_ledger.specs.declared.slip.Slip.{Slip}
use Rattle.cut_ledger.specs.Table.{table_over}
use Rattle.cut_ledger.specs.Slips.{AreGood}
use Rattle.cut_ledger.specs.World.{AreTrue, pieces_of_slips, times_in}
use Rattle.cut_shares.specs.declared.share.share.Share.{Share}
use Rattle.cut_shares.specs.share.Running.{AreOfShare, AreWhole}
use Rattle.cut_shares.specs.join.Joined.{joined}

-- how a plan is divided into shares: how many there are, and how many trials a block has at most
pub record Sharing : Type 0 where
  pub shares : ℕ
  pub block_size : ℕ

-- the file of a share: which share it is, and the slips in it
pub record FileOfShare : Type 0 where
  pub share : Share
  pub slips : List Slip

-- the slips of files, one file after another
abbrev pub all_slips : List FileOfShare → List Slip
all_slips files = flat_map (λ file. file.slips) files

-- how many of the files are of the share of a number
abbrev pub files_of_share : ℕ → List FileOfShare → ℕ
files_of_share index files = count_by (λ file. file.share.index == index) files

-- the file of one of the shares of a plan: it has true slips of that share, no two with a trial in common, and may have
-- all of its trials or not
pub record IsFileOfShare (sharing : Sharing) (v : Values) (file : FileOfShare) : Type 0 where
  pub shares : file.share.shares ≡ sharing.shares
  pub block_size : file.share.block_size ≡ sharing.block_size
  pub slips : AreOfShare file.share v [] file.slips

-- files of the shares of a plan, no two of one share; there may be shares without a file
pub record AreFilesOfShares (sharing : Sharing) (v : Values) (files : List FileOfShare) : Type 0 where
  pub each : All (IsFileOfShare sharing v) files
  pub once : (index : ℕ) → files_of_share index files ≤ 1

-- there is a file of each share, and each file has every trial of its share
pub record AreComplete (sharing : Sharing) (v : Values) (files : List FileOfShare) : Type 0 where
  pub some : 1 ≤ sharing.shares
  pub all : (index : ℕ) → 1 ≤ index → index ≤ sharing.shares → files_of_share index files ≡ 1
  pub each : All (λ file. AreWhole file.share v [] file.slips) files

-- the slips of all files are true, and no trial is in two of them
abbrev pub SharesAreTrue : Type 0
SharesAreTrue =
    (sharing : Sharing) (v : Values) (files : List FileOfShare) → AreFilesOfShares sharing v files
    → AreTrue v (all_slips files)

-- so a ledger can begin with them
abbrev pub SharesAreGood : Type 0
SharesAreGood =
    (sharing : Sharing) (v : Values) (files : List FileOfShare) → AreFilesOfShares sharing v files
    → AreGood v (all_slips files)

-- and the table over the joined ones is that of the plan
abbrev pub SharesGiveThePlansTable : Type 0
SharesGiveThePlansTable =
    (sharing : Sharing) (v : Values) (files : List FileOfShare) → IsPlan v → AreFilesOfShares sharing v files
    → table_over v (joined v (all_slips files)) ≡ table v

-- and if the files are complete, each trial of the plan is in exactly one of the joined slips
abbrev pub CompleteSharesHaveAllTrials : Type 0
CompleteSharesHaveAllTrials =
    (sharing : Sharing) (v : Values) (files : List FileOfShare) → IsPlan v → AreFilesOfShares sharing v files
    → AreComplete sharing v files → (t : ℕ) → t < trial_count v
    → times_in (pieces_of_slips (joined v (all_slips files))) t ≡ 1

-- ---- shares that are stopped and resumed

-- the first slips of those that a run of a share may add are such too
abbrev pub FirstSlipsAreOfShare : Type 0
FirstSlipsAreOfShare =
    (s : Share) (v : Values) (ss added : List Slip) (n : ℕ) → AreOfShare s v ss added → AreOfShare s v ss (take n added)

-- slips of a share, and those that a run may add to them, are slips of the share together
abbrev pub ResumedSlipsAreOfShare : Type 0
ResumedSlipsAreOfShare =
    (s : Share) (v : Values) (ss added : List Slip) → AreOfShare s v [] ss → AreOfShare s v ss added
    → AreOfShare s v [] (ss ++ added)

-- and they have all of its trials where those that are added have all that the others lack
abbrev pub ResumedSlipsAreWhole : Type 0
ResumedSlipsAreWhole =
    (s : Share) (v : Values) (ss added : List Slip) → AreOfShare s v [] ss → AreWhole s v ss added
    → AreWhole s v [] (ss ++ added)
