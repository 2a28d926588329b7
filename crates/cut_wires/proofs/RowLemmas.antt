-- The rows of a table, one after the other.
use Rattle.std.proofs.Common.{◌≡◌, ◌∙◌, ◌≤◌, ◌+◌, ◌*◌, ◌++◌, ◌∷◌, [], ℕ, List, length, sym, ap, zero-add, arith}
use Rattle.std.proofs.Common.{append_assoc, append-nil, length-append}
use Rattle.std.specs.List.{range_with_len, flat_map}
use Rattle.std.proofs.Math.Nat.{add-mul}
use Rattle.std.proofs.lemmas.List.Concat.{flat_map-append}
use Rattle.cut_lists.proofs.Ranges.{range_with_len_more}
use Rattle.cut_wires.specs.Rows.{Table, rows_to}

module _ (framed : List ℕ → List ℕ) (t : Table) where
  pub rows_more : (n : ℕ) → rows_to framed t (n + 1) ≡ rows_to framed t n ++ framed (t.row n)
  rows_more n =
      let row : ℕ → List ℕ = λ place. framed (t.row place) in
      ap (λ places. framed t.header ++ flat_map row places) (range_with_len_more 0 n n (zero-add n))
      ∙ ap (λ xs. framed t.header ++ xs) (flat_map-append row (range_with_len 0 n) (n ∷ [])
      ∙ ap (λ xs. flat_map row (range_with_len 0 n) ++ xs) (append-nil (row n)))
      ∙ sym (append_assoc (framed t.header) (flat_map row (range_with_len 0 n)) (row n))

  -- a row more of at most this many bytes
  pub short_more : (n : ℕ) → length (rows_to framed t n) ≤ (n + 1) * (t.longest + 5)
      → length (framed (t.row n)) ≤ t.longest + 5
      → length (rows_to framed t (n + 1)) ≤ ((n + 1) + 1) * (t.longest + 5)
  short_more n before here =
      let more : length (rows_to framed t (n + 1)) ≡ length (rows_to framed t n) + length (framed (t.row n)) =
      ap (λ xs. length xs) (rows_more n) ∙ length-append (rows_to framed t n) (framed (t.row n)) in
      omega (arith, before, here, more, add-mul (n + 1) 1 (t.longest + 5))

  pub header_only : rows_to framed t 0 ≡ framed t.header
  header_only = append-nil (framed t.header)
