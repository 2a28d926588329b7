-- Processes in the order of their ranks, each of which is given its role.
use Rattle.std.proofs.Common.{◌≡◌, ◌≢◌, ℕ, ◌+◌, ◌<◌, ◌≤◌, ◌⊎◌, List, length, get_or, set, map, sym, ap, ◌∙◌, inl, inr}
use Rattle.std.proofs.Common.{arith}
use Rattle.std.specs.List.{range_with_len}
use Rattle.std.proofs.lemmas.List.FromFn.{fill_by_all}
use Rattle.std.proofs.lemmas.List.{get_or-set_same, get_or-set_other}
use Rattle.std.proofs.lemmas.Bool.{cases_lt}
use Rattle.cut_plan.specs.Values.{Values}
use Rattle.cut_rings.specs.Layout.{Layout}
use Rattle.cut_draws.specs.Source.{Source}
use Rattle.cut_draws.specs.ProcessOrder.{process_rank, IsProcessOrder}
use Rattle.cut_alerts.specs.Drawn.{ranked_role}
use Rattle.cut_alerts.specs.declared.role.Role.TheVariants.{Healthy}

-- after targets, liars and sources all are healthy
pub ranked_late : (v : Values) (f : ℕ) (r : Layout) (p rank : ℕ) → f + v.liars + v.links ≤ rank
    → ranked_role v f r p rank ≡ Healthy
ranked_late v f r p rank late = grind arith

-- those of a rank below m have their roles
abbrev pub HaveRoles : {R : Type 0} → Source → ℕ → (ℕ → ℕ → R) → R → ℕ → List R → Type 0
HaveRoles d n role none m roles = (p : ℕ) → p < n → process_rank d n p < m → get_or roles p none
    ≡ role p (process_rank d n p)

-- one more rank: the process that has it is given its role
pub roles_more : {R : Type 0} (d : Source) (n : ℕ) (order : List ℕ) → IsProcessOrder d n order
    → (role : ℕ → ℕ → R) (none : R) (m x : ℕ) (v : R) (roles : List R) → m < n → get_or order m 0 ≡ x → v ≡ role x m
    → length roles ≡ n → HaveRoles d n role none m roles → HaveRoles d n role none (m + 1) (set roles x v)
roles_more {R} d n order is role none m x v roles below at own long before p in_range under = by
    (cases_lt (process_rank d n p) m)
  where
    rank : process_rank d n x ≡ m
    rank = ap (process_rank d n) (sym at) ∙ is.ranks m (omega (arith, is.count))

    by : (process_rank d n p < m) ⊎ (m ≤ process_rank d n p) → get_or (set roles x v) p none
        ≡ role p (process_rank d n p)
    by (inl less) =
        let apart : p ≢ x = λ e. omega (arith, ap (process_rank d n) e, rank) in
        get_or-set_other roles x p v none apart ∙ before p in_range less
    by (inr most) =
        let same : process_rank d n p ≡ m = omega arith in
        let is_x : x ≡ p = sym at ∙ ap (λ i. get_or order i 0) (sym same) ∙ (is.found p in_range).1 in
        grind (arith, get_or-set_same)

-- those of a rank from m on have none
abbrev pub HaveNoRoles : {R : Type 0} → Source → ℕ → R → ℕ → List R → Type 0
HaveNoRoles d n none m roles = (p : ℕ) → p < n → m ≤ process_rank d n p → get_or roles p none ≡ none

-- one rank less
pub fewer_left : {R : Type 0} (d : Source) (n : ℕ) (order : List ℕ) → IsProcessOrder d n order
    → (none : R) (m x : ℕ) (v : R) (roles : List R) → m < n → get_or order m 0 ≡ x
    → HaveNoRoles d n none m roles → HaveNoRoles d n none (m + 1) (set roles x v)
fewer_left d n order is none m x v roles below at before p in_range later =
    let rank : process_rank d n x ≡ m = ap (process_rank d n) (sym at) ∙ is.ranks m (omega (arith, is.count, below)) in
    let apart : p ≢ x = λ e. omega (arith, ap (process_rank d n) e, rank, later) in
    get_or-set_other roles x p v none apart ∙ before p in_range (omega (arith, later))

-- all have theirs
pub roles_all : {R : Type 0} (d : Source) (n : ℕ) (order : List ℕ) → IsProcessOrder d n order
    → (role : ℕ → ℕ → R) (none : R) (m : ℕ) (roles : List R) → length roles ≡ n
    → ((p rank : ℕ) → m ≤ rank → rank < n → role p rank ≡ none)
    → HaveRoles d n role none m roles → HaveNoRoles d n none m roles → roles
    ≡ map (λ p. role p (process_rank d n p)) (range_with_len 0 n)
roles_all d n order is role none m roles long rest each others =
    fill_by_all (λ p. role p (process_rank d n p)) roles n none long (λ p below. elim (cases_lt (process_rank d n p) m) [
      | inl early ↦ each p below early
      | inr late ↦ others p below late ∙ sym (rest p (process_rank d n p) late (is.found p below).0)
    ])
