-- The rings that a seed gives (this project's profile, over SHA-256 of FIPS 180-4).
use Rattle.std.specs.Prelude.{ℕ, ◌++◌, List, map, count_by}
use Rattle.std.specs.List.{range_with_len}
use Rattle.std.specs.Int.{w32, to_be_bytes}
use Rattle.std.specs.declared.cmp.Ordering.{Ordering}
use Rattle.std.specs.Ordering.{nat_cmp, ordering_then, is_lt}
use Rattle.std.specs.Cmp.Lexicographic.{slice_cmp}
use Rattle.sha2.specs.Sha256.{sha256}
use Rattle.cut_rings.specs.Layout.{Layout}

-- the digest by which process p is placed on a ring: of the seed, the ring's number and p, the numbers
-- in 4 bytes, the high byte first
unfoldable pub digest_of : List ℕ → ℕ → ℕ → List ℕ
digest_of seed ring p = sha256 (seed ++ to_be_bytes w32 ring ++ to_be_bytes w32 p)

-- how q and p compare on a ring: by their digests as bytes, and by their numbers where these tie
abbrev pub compare_hashed : List ℕ → ℕ → ℕ → ℕ → Ordering
compare_hashed seed ring q p =
    ordering_then (slice_cmp nat_cmp (digest_of seed ring q) (digest_of seed ring p)) (nat_cmp q p)

-- the position of p on a ring: how many processes compare as less
abbrev pub hashed_position : List ℕ → ℕ → ℕ → ℕ → ℕ
hashed_position seed n ring p = count_by (λ q. is_lt (compare_hashed seed ring q p)) (range_with_len 0 n)

-- the first rings of n processes
abbrev pub hashed_layout : List ℕ → ℕ → ℕ → Layout
hashed_layout seed n rings = record {
  nodes = n;
  positions = map (λ ring. map (λ p. hashed_position seed n ring p) (range_with_len 0 n)) (range_with_len 0 rings);
}
