-- An order, and the table of the place of each process in it.
use Rattle.std.specs.Prelude.{◌≡◌, ℕ, ◌<◌, List, length, slice_index}

-- an order and its inverse: both have n entries, and each undoes the other
pub record IsInverse (n : ℕ) (order positions : List ℕ) : Type 0 where
  pub order_length : length order ≡ n
  pub positions_length : length positions ≡ n
  pub process : (i : ℕ) → i < n → slice_index order i < n
  pub position : (p : ℕ) → p < n → slice_index positions p < n
  pub placed : (i : ℕ) → i < n → slice_index positions (slice_index order i) ≡ i
  pub found : (p : ℕ) → p < n → slice_index order (slice_index positions p) ≡ p
