-- Places round a ring of n places.
use Rattle.std.proofs.Common.{◌≡◌, ℕ, zero, suc, ◌+◌, ◌-◌, ◌%◌, ◌<◌, ◌∙◌, arith}
use Rattle.std.proofs.Math.Nat.{mod-eq_of_lt, mod_self}

-- b is the place just before t, round n places
pub record IsBefore (n b t : ℕ) : Type 0 where
  pub below : b < n
  pub next : (b + 1) % n ≡ t

pub before : (n t : ℕ) → t < n → (b : ℕ) × IsBefore n b t
before n zero low = (
  n - 1,
  record {
    below = omega arith;
    next =
        (let e : n - 1 + 1 ≡ n = omega arith in rw e (mod_self n));
  },
)
before n (suc t) low = (
  t,
  record {
    below = omega arith;
    next = mod-eq_of_lt (let w : t + 1 < n = omega arith in w)
        ∙ (let w : t + 1 ≡ suc t = omega arith in w);
  },
)

-- places with one next place are one place
pub next_one : (n a b : ℕ) → a < n → b < n → (a + 1) % n ≡ (b + 1) % n → a ≡ b
next_one n a b low high e = grind arith
