-- How many processes are stable, and how many stable or unstable, where a set of edges says which rings count for each.
use Rattle.std.specs.Prelude.{◌≡◌, ℕ, ◌==◌, ◌&&◌, Bool, List, count_by, nat_lt, nat_le, vec_len}
use Rattle.std.specs.List.{range_with_len, list_any}
use Rattle.cut_detector.specs.declared.rule.Rule.{Rule}
use Rattle.cut_detector.specs.declared.masks.Masks.{Masks}
use Rattle.cut_detector.specs.Counts.{ring_count}
use Rattle.cut_detector.specs.Masks.{edges_in}

-- how many rings count for s
abbrev pub rings_full : Masks → ℕ → ℕ
rings_full full s = ring_count full.k (edges_in full.masks.items) s

-- whether at least H rings count for s
abbrev pub stable_in : Rule → Masks → ℕ → Bool
stable_in rule full s = nat_le rule.h (rings_full full s)

-- whether at least L rings count for s
abbrev pub marked_in : Rule → Masks → ℕ → Bool
marked_in rule full s = nat_le rule.l (rings_full full s)

-- whether at least L and fewer than H rings count for s
abbrev pub unstable_in : Rule → Masks → ℕ → Bool
unstable_in rule full s = nat_le rule.l (rings_full full s) && nat_lt (rings_full full s) rule.h

-- of how many processes a test holds
abbrev pub processes_with : (ℕ → Bool) → Masks → ℕ
processes_with test full = count_by test (range_with_len 0 (vec_len full.masks))

abbrev pub stable_count : Rule → Masks → ℕ
stable_count rule full = processes_with (stable_in rule full) full

abbrev pub marked_count : Rule → Masks → ℕ
marked_count rule full = processes_with (marked_in rule full) full

-- the list has the processes for which some ring counts, and no other
abbrev pub IsTouched : Masks → List ℕ → Type 0
IsTouched full touched = (s : ℕ) → list_any (λ p. s == p) touched
    ≡ (nat_lt s (vec_len full.masks) && nat_lt 0 (rings_full full s))
