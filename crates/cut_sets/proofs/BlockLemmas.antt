-- Blocks of a section: one that is changed, and room in all.
use Rattle.std.proofs.Common.{◌≡◌, ◌∙◌, ℕ, zero, suc, ◌∷◌, ◌+◌, ◌*◌, ◌-◌, ◌/◌, ◌%◌, ◌<◌, ◌≤◌, inl, inr, true, false}
use Rattle.std.proofs.Common.{◌&&◌, List, [], map, length, get_or, set, min, max, nat_lt, refl, ap}
use Rattle.std.proofs.Common.{sym, arith}
use Rattle.std.specs.List.{list_all}
use Rattle.std.proofs.Math.Seq.{map-set_same}
use Rattle.std.proofs.lemmas.Bool.{cases_eq}
use Rattle.std.proofs.lemmas.List.Folds.{list_all_at}
use Rattle.std.proofs.lemmas.List.Sums.{list_all-from_AllPass}
use Rattle.std.proofs.lemmas.List.{get_or-map, get_or-set_same, get_or-set_other, length-map, length-set}
use Rattle.cut_sets.specs.declared.ranges.run.Run.{Run}
use Rattle.cut_sets.specs.ranges.inside.Edges.{IsRun, Row, is_within, is_between, flipped}
use Rattle.cut_sets.specs.ranges.inside.Blocks.{Blocks, is_at}

-- what contracts see of a section's rows
abbrev pub blocks_in : List Row → Blocks
blocks_in rows = record { blocks = map (λ r. r.edges) rows; room = list_all (λ r. r.room) rows }

-- ---- room

pub no_row : Row
no_row = record { edges = []; room = false }

-- room was made in the first n blocks
pub record AreReserved (olds news : List Row) (n : ℕ) : Type 0 where
  pub len : length news ≡ length olds
  pub edges : map (λ r. r.edges) news ≡ map (λ r. r.edges) olds
  pub done : (k : ℕ) → k < n → (get_or news k no_row).room ≡ true
  pub rest : (k : ℕ) → n ≤ k → get_or news k no_row ≡ get_or olds k no_row

pub reserved_more : (olds news : List Row) (n : ℕ) (r : Row) → AreReserved olds news n → n < length news → r
    ≡ record (get_or news n no_row) { room = true } → AreReserved olds (set news n r) (n + 1)
reserved_more olds news n r are in' is = grind (arith, length-set, map-set_same, get_or-set_same, get_or-set_other)

-- all of them
pub all_reserved : (olds news : List Row) → AreReserved olds news (length olds) → list_all (λ r. r.room) news ≡ true
all_reserved olds news are = list_all-from_AllPass (λ (r : Row). r.room) news
    (λ k d low. get_same news k d low ∙ are.done k (omega (arith, are.len)))
  where
    get_same : (rs : List Row) (k : ℕ) (d : Row) → k < length rs → (get_or rs k d).room ≡ (get_or rs k no_row).room
    get_same [] k d low = absurd (omega arith)
    get_same (r ∷ rs) zero d low = refl
    get_same (r ∷ rs) (suc k) d low = get_same rs k d (omega arith)

-- where one is refused, what was done so far is not seen
pub refused : (olds news : List Row) (n : ℕ) (r : Row) → AreReserved olds news n → n < length news → r
    ≡ get_or news n no_row → r.room ≡ false → blocks_in (set news n r) ≡ blocks_in olds
refused olds news n r are in' same none =
    let edges : map (λ x. x.edges) (set news n r) ≡ map (λ x. x.edges) olds =
    map-set_same (λ (x : Row). x.edges) news n r no_row (ap (λ (x : Row). x.edges) same) ∙ are.edges in
    let now : list_all (λ x. x.room) (set news n r) ≡ false =
    list_all_at (λ (x : Row). x.room) (set news n r) n no_row (omega (arith, length-set news n r))
    (ap (λ (x : Row). x.room) (get_or-set_same news n r no_row in') ∙ none) in
    grind (arith, list_all_at)

-- and there was not room in all
pub had_none : (olds news : List Row) (n : ℕ) → AreReserved olds news n → n < length news → (get_or news n no_row).room
    ≡ false → list_all (λ x. x.room) olds ≡ false
had_none olds news n are in' none =
    grind (arith, list_all_at)

-- ---- numbers turned round

-- a block's part of what lies between two numbers
between_in : (from end n t : ℕ) → end ≤ 4294967295 → t / 65536 ≡ n
    → is_between (max from (n * 65536)) (min end (min (n * 65536 + 65536) 4294967295)) t ≡ is_between from end t
between_in from end n t small own = grind arith

-- the blocks below number n are turned round
pub record AreFlipped (olds news : List (List ℕ)) (from end n : ℕ) : Type 0 where
  pub len : length news ≡ length olds
  pub each : (t : ℕ) → is_at news t ≡ flipped (is_between from end t && nat_lt (t / 65536) n) (is_at olds t)

pub flipped_more : (olds news : List (List ℕ)) (from end n : ℕ) (xs : List ℕ) → end ≤ 4294967295 → n < length news
    → AreFlipped olds news from end n → ((t : ℕ) → is_within xs t
    ≡ flipped (is_between (max from (n * 65536)) (min end (min (n * 65536 + 65536) 4294967295)) t)
    (is_within (get_or news n []) t)) → AreFlipped olds (set news n xs) from end (n + 1)
flipped_more olds news from end n xs small in' are turned = record {
  len = length-set news n xs ∙ are.len;
  each = λ t. elim (cases_eq (t / 65536) n) [
    | inl own ↦
        grind (arith, get_or-set_same news n xs, between_in from end n t small own)
    | inr other ↦
        grind (arith, get_or-set_other)
  ];
}
  where
    below-more : (k n : ℕ) → (k ≡ n → ⊥) → nat_lt k n ≡ nat_lt k (n + 1)
    below-more k n other = grind arith

-- ---- the edges of a block

pub edges_at : (rows : List Row) (k : ℕ) → k < length rows → get_or (map (λ r. r.edges) rows) k []
    ≡ (get_or rows k no_row).edges
edges_at rows k low = get_or-map (λ (r : Row). r.edges) rows k no_row [] low

-- up to the end of a run of its block, or of the block
pub run_within : (rows : List Row) (p : ℕ) (run : Run) (r : Row) → p / 65536 < length rows → r
    ≡ get_or rows (p / 65536) no_row → p < 4294967295 → IsRun (is_within r.edges) p run
    → IsRun (is_at (map (λ x. x.edges) rows)) p (record
    { held = run.held; end = min run.end (min (p + (65536 - p % 65536)) 4294967295) })
run_within rows p run r in' same small its =
    let longer = its.longer in
    record {
      longer = omega arith;
      lasts = λ t low high.
          (let own : t / 65536 ≡ p / 65536 = omega arith in
          ap (λ k. is_within (get_or (map (λ x. x.edges) rows) k []) t) own
          ∙ ap (λ xs. is_within xs t) (edges_at rows (p / 65536) in')
          ∙ ap (λ (x : Row). is_within x.edges t) (sym same)
          ∙ its.lasts t low (omega arith));
    }

pub there : (rows : List Row) (p : ℕ) (b : Blocks) → blocks_in rows ≡ b → p / 65536 < length b.blocks → p / 65536
    < length rows
there rows p b is low = omega (arith, ap (λ (x : Blocks). length x.blocks) is, length-map rows (λ (r : Row). r.edges))
