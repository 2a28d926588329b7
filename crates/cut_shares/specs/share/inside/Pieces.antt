-- The pieces of a share.
use Rattle.std.specs.Prelude.{◌≡◌, ℕ, ◌&&◌, true, List, count_by, IsTrue}
use Rattle.std.specs.List.{sum_by}
use Rattle.cut_plan.specs.Values.{Values}
use Rattle.cut_outcome.specs.declared.piece.Piece.{Piece}
use Rattle.cut_outcome.specs.Sum.{is_piece}
use Rattle.cut_ledger.specs.Contents.{all_trials, is_in}
use Rattle.cut_shares.specs.declared.share.share.Share.{Share}
use Rattle.cut_shares.specs.share.Share.{is_in_share}

-- a piece of a share: one of the plan, all of whose trials are of the share
pub record IsSharePiece (s : Share) (v : Values) (p : Piece) : Type 0 where
  pub piece : IsTrue (is_piece v p)
  pub own : (t : ℕ) → is_in p t ≡ true → is_in_share s v t ≡ true

-- in how many of some pieces a trial is, if it is of the share
abbrev pub own_times : Share → Values → List Piece → ℕ → ℕ
own_times s v ps t = count_by (λ p. is_in p t && is_in_share s v t) ps

-- how many trials of a share are in some pieces, each as often as it is in one
abbrev pub own_trials : Share → Values → List Piece → ℕ
own_trials s v ps = sum_by (own_times s v ps) (all_trials v)

-- how many trials pieces have
abbrev pub trials_in_all : List Piece → ℕ
trials_in_all ps = sum_by (λ p. p.count) ps
