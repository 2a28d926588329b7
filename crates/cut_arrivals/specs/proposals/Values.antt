-- The values of which a receiver's lows and highs are ranks.
use Rattle.std.specs.Prelude.{◌≡◌, ℕ, List, map, filter}
use Rattle.std.specs.List.{range_with_len}
use Rattle.std.specs.List.Sorted.{IsPermutation}
use Rattle.cut_rings.specs.Edges.{set_of}
use Rattle.cut_detector.specs.Counts.{is_full}
use Rattle.cut_arrivals.specs.proposals.Times.{full_time}
use Rattle.cut_arrivals.specs.proposals.Reception.{Reception, images_at}

-- the images of the alerted edges to s, in any order
pub record ArePresent (x : Reception) (last s : ℕ) (values : List ℕ) : Type 0 where
  pub rings : List ℕ
  pub moved : IsPermutation (filter (λ ring. set_of x.edges ring s) (range_with_len 0 x.rule.k)) rings
  pub values_are : values ≡ map (λ ring. images_at x last ring s) rings

-- the full times, by images, of the rings that count for s in the end, in any order
pub record AreFullTimes (x : Reception) (last s : ℕ) (values : List ℕ) : Type 0 where
  pub rings : List ℕ
  pub moved : IsPermutation (filter (λ ring. is_full x.layout x.rule (set_of x.edges) ring s)
      (range_with_len 0 x.rule.k)) rings
  pub values_are : values ≡ map (λ ring. full_time last x.layout x.rule (images_at x last) ring s) rings
