-- Laws of the longest spans of what passes a test.
use Rattle.std.specs.Prelude.{◌≡◌, ℕ, ◌+◌, ◌<◌, ◌≤◌, Bool, All, filter}
use Rattle.std.specs.List.{range_with_len, flat_map}
use Rattle.cut_sets.specs.declared.ranges.span.Span.{Span}
use Rattle.cut_sets.specs.ranges.Spans.{numbers_in, spans}

-- the numbers of the spans, one span after another, are those that pass: each once, ascending
abbrev pub SpansCover : Type 0
SpansCover =
    (test : ℕ → Bool) (low n : ℕ) → flat_map numbers_in (spans test low n) ≡ filter test (range_with_len low n)

-- a span that is not empty, of numbers from `low` to `low + n - 1`
pub record IsWithin (low n : ℕ) (s : Span) : Type 0 where
  pub some : 0 < s.count
  pub starts : low ≤ s.first
  pub ends : s.first + s.count ≤ low + n

abbrev pub SpansWithin : Type 0
SpansWithin = (test : ℕ → Bool) (low n : ℕ) → All (IsWithin low n) (spans test low n)
