-- Spans of numbers, and the longest ones whose numbers pass a test.
use Rattle.std.specs.Prelude.{ℕ, ◌+◌, ◌-◌, ◌==◌, ◌&&◌, ◌||◌, Bool, not, List, [], ◌∷◌, map, filter, length, nat_lt}
use Rattle.std.specs.Prelude.{nat_le, if◌then◌else◌}
use Rattle.std.specs.List.{range_with_len, take_while}
use Rattle.cut_sets.specs.declared.ranges.span.Span.{Span}

-- the numbers of a span
abbrev pub numbers_in : Span → List ℕ
numbers_in p = range_with_len p.first p.count

-- whether a number is one of them
abbrev pub is_in : Span → ℕ → Bool
is_in p t = nat_le p.first t && nat_lt t (p.first + p.count)

-- a number from `low` on begins a span if it passes the test and the number before it, if there is one, does not
abbrev pub begins : (ℕ → Bool) → ℕ → ℕ → Bool
begins test low t = test t && (t == low || not (test (t - 1)))

-- the longest span that begins at t and ends at or before `high`
abbrev pub span_at : (ℕ → Bool) → ℕ → ℕ → Span
span_at test high t = record { first = t; count = length (take_while test (range_with_len t (high - t))) }

-- the longest spans of passing numbers among the n numbers from `low` on, ascending
abbrev pub spans : (ℕ → Bool) → ℕ → ℕ → List Span
spans test low n = map (span_at test (low + n)) (filter (begins test low) (range_with_len low n))

-- the span from one number to another, none if it is empty
abbrev pub span_between : ℕ → ℕ → List Span
span_between from end = if nat_lt from end then record { first = from; count = end - from } ∷ [] else []
