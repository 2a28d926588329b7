-- What is known of a piece of a plan: it ends below 2^32, and its trials are of one cell.
use Rattle.std.proofs.Common.{◌≡◌, ℕ, zero, suc, ◌+◌, ◌/◌, ◌<◌, ◌≤◌, ◌^◌, length, arith}
use Rattle.cut_outcome.proofs.Words.{IsTrue, cells_of, trial_count, IsPlan, Values, Piece, cell_at, is_piece}
use Rattle.std.proofs.Math.Nat.{div-mul-le_self, div-zero}
use Rattle.std.proofs.lemmas.Nat.{le-div, mul-le}

div_le : (k a b : ℕ) → a ≤ b → a / k ≤ b / k
div_le zero a b le = omega (arith, div-zero a)
div_le (suc k) a b le =
    le-div (a / suc k) b (suc k) (omega arith) (omega (arith, le, div-mul-le_self a (suc k)))

pub record PieceFacts (v : Values) (p : Piece) : Type 0 where
  pub some : 0 < p.count
  pub end : p.first + p.count ≤ trial_count v
  pub cell : (t : ℕ) → p.first ≤ t → t < p.first + p.count → cell_at v t ≡ cell_at v p.first

pub piece_facts : (v : Values) (p : Piece) → IsTrue (is_piece v p) → PieceFacts v p
piece_facts v p piece =
    grind (arith, div_le)

-- a plan has fewer than 2^32 trials
pub few_trials : (v : Values) → IsPlan v → trial_count v < 2 ^ 32
few_trials v plan =
    omega (arith, mul-le (length (cells_of v)) v.repeats 4096 1000000 plan.few_cells plan.few_repeats)
