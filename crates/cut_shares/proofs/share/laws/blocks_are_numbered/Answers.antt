use Rattle.std.proofs.Common.{◌≡◌, ◌∙◌, ℕ, ◌+◌, ◌*◌, ◌/◌, ◌%◌, ◌<◌, ◌≤◌, ◌==◌, inl, inr, ap, arith}
use Rattle.std.proofs.lemmas.Bool.{cases_lt}
use Rattle.std.proofs.lemmas.Nat.{div-add-mod', mod_below}
use Rattle.cut_ledger.proofs.CellLemmas.{cell_is}
use Rattle.cut_shares.proofs.Words.{Values, begins_block, block_of, div_ceil, one_if}
use Rattle.cut_shares.proofs.share.laws.blocks_are_numbered.Goals as goal

-- the quotients of one number and the next
next_quotient : (o p : ℕ) → 1 ≤ p
    → ((o + 1) / p ≡ o / p + one_if ((o + 1) % p == 0)) × (div_ceil (o + 1) p ≡ o / p + 1)
next_quotient o p some =
    grind arith

next_block : (size : ℕ) (v : Values) (t : ℕ) → 1 ≤ size → 1 ≤ v.repeats
    → block_of size v (t + 1) ≡ block_of size v t + one_if (begins_block size v (t + 1))
next_block size v t some repeats =
    let r : ℕ = v.repeats in
    let c : ℕ = t / r in
    let o : ℕ = t % r in
    let whole : c * r + o ≡ t = div-add-mod' t r in
    let below : o < r = mod_below t r (omega arith) in
    let next = next_quotient o size some in
    let parts = div-add-mod' (t + 1) r in
    elim (cases_lt (o + 1) r) [
      | inl inside ↦
          (let cell : (t + 1) / r ≡ c = cell_is r c (t + 1) (omega arith) (omega arith) in
          let at : (t + 1) % r ≡ o + 1 = (let sum = rw cell at parts in omega (arith, sum, whole)) in
          rw (cell, at) (omega (arith, next.0)))
      | inr past ↦
          (let last : r ≡ o + 1 = omega arith in
          let cell : (t + 1) / r ≡ c + 1 = cell_is r (c + 1) (t + 1) (omega arith) (omega arith) in
          let at : (t + 1) % r ≡ 0 = (let sum = rw cell at parts in omega (arith, sum, whole)) in
          let ceiling : div_ceil r size ≡ o / size + 1 =
          ap (λ n. div_ceil n size) last ∙ next.1 in
          rw (cell, at) (grind (arith, ceiling)))
    ]

pub returns : goal.returns
returns c = grind (arith, next_block)
