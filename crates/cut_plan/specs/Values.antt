-- What a plan says: its thirteen named values. (This project's profile of the study in the Rapid
-- paper's section on the sensitivity to K, H and L.)
use Rattle.std.specs.Prelude.{ℕ, List, Bool}
use Rattle.cut_plan.specs.declared.dead.Dead.{Dead}
use Rattle.cut_plan.specs.declared.failing.Failing.{Failing}

pub record Values : Type 0 where
  -- how often each alert comes to each receiver
  pub copies : ℕ
  -- whether crashed observers raise alerts
  pub dead : Dead
  -- the numbers of failed processes to study
  pub f : List ℕ
  -- how targets fail, and by it the version of the plan's format
  pub failing : Failing
  -- the high watermarks to study
  pub h : List ℕ
  -- whether implicit alerts are added
  pub implicit : Bool
  -- the numbers of rings to study
  pub k : List ℕ
  -- the low watermarks to study
  pub l : List ℕ
  -- how many processes raise false alerts
  pub liars : ℕ
  -- how many links are cut
  pub links : ℕ
  -- how many processes there are
  pub nodes : ℕ
  -- how many trials each cell has
  pub repeats : ℕ
  -- the 32 bytes from which rings and draws are made
  pub seed : List ℕ
