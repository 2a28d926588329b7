-- The roles of a trial: who is a target, and how many receive. Ranks are a bijection, so as many processes
-- are targets as the cell fails.
use Rattle.std.proofs.Common.{◌≡◌, ◌⊎◌, ℕ, ◌+◌, ◌-◌, ◌<◌, ◌||◌, Bool, true, false, length, map, not, nat_lt, inl, inr}
use Rattle.std.proofs.Common.{refl, sym, ap, ◌∙◌, arith, zero-add}
use Rattle.cut_outcome.proofs.Words.{count_by, if◌then◌else◌, range_with_len, Values, deaf_of, Layout, subject_of}
use Rattle.cut_outcome.proofs.Words.{Source}
use Rattle.cut_outcome.proofs.Words.{key_at, process_place, process_rank, compare_processes, is_target}
use Rattle.cut_outcome.proofs.Words.{role_at, same_role, drawn, ranked_role, receivers_of}
use Rattle.std.specs.Ordering.{nat_cmp}
use Rattle.std.proofs.lemmas.Bool.{cases_lt, lt-ltb, ltb-true, le-ltb}
use Rattle.std.proofs.lemmas.Cmp.{nat_cmp_total, then_total, on_total}
use Rattle.std.proofs.lemmas.List.{get_or_past}
use Rattle.std.proofs.lemmas.List.FromFn.{length-map-range_with_len, get_or-map-range_with_len}
use Rattle.std.proofs.lemmas.List.Sums.{length-filter}
use Rattle.std.proofs.lemmas.Map.Lookups.{exact_unsigned, exact_pairs}
use Rattle.cut_lists.proofs.RankOrders.{count_by-ranks_above}
use Rattle.cut_lists.proofs.Ranges.{count_by_agree}
use Rattle.cut_alerts.specs.declared.role.Role.{Role}
use Rattle.cut_alerts.specs.declared.role.Role.TheVariants.{Healthy, Crashed, Deaf, Liar, LinkSource}

abbrev is_target_role : Role → Bool
is_target_role role = same_role Crashed role || same_role Deaf role

target_by_rank : (first a b c : Bool) (to : ℕ) → (first ≡ true → a ≡ true) → is_target_role
    (if first then Crashed else (if a then Deaf
    else (if b then Liar else (if c then LinkSource to else Healthy)))) ≡ a
target_by_rank true a b c to is = sym (is refl)
target_by_rank false true b c to _ = refl
target_by_rank false false true c to _ = refl
target_by_rank false false false true to _ = refl
target_by_rank false false false false to _ = refl

module _ (v : Values) (f : ℕ) (d : Source) (r : Layout) where
  abbrev rank : ℕ → ℕ
  rank p = process_rank d v.nodes p

  abbrev role : ℕ → Role
  role p = ranked_role v f r p (rank p)

  -- every process has a role
  pub roles_length : length (drawn v f d r).roles ≡ v.nodes
  roles_length = length-map-range_with_len role 0 v.nodes

  role_is : (p : ℕ) → p < v.nodes → role_at (drawn v f d r) p ≡ role p
  role_is p below = get_or-map-range_with_len role 0 v.nodes p p Healthy below (zero-add p)

  -- a process is a target exactly where its rank is below f
  target_is : (p : ℕ) → p < v.nodes → is_target (drawn v f d r) p ≡ nat_lt (rank p) f
  target_is p below =
      ap is_target_role (role_is p below)
      ∙ target_by_rank (nat_lt (rank p) (f - deaf_of v f)) (nat_lt (rank p) f) (nat_lt (rank p) (f + v.liars))
      (nat_lt (rank p) (f + v.liars + v.links)) (subject_of r 0 p)
      (λ low. lt-ltb (rank p) f (omega (arith, ltb-true (rank p) (f - deaf_of v f) low)))

  -- the receivers are all processes but f
  pub receivers_are_the_rest : length (receivers_of (drawn v f d r)) ≡ v.nodes - f
  receivers_are_the_rest =
      let receives : ℕ → Bool = λ p. not (is_target (drawn v f d r) p) in
      let key : ℕ → ℕ = λ p. key_at d (process_place p) in
      length-filter receives (range_with_len 0 (length (drawn v f d r).roles))
      ∙ ap (λ n. count_by receives (range_with_len 0 n)) roles_length
      ∙ count_by_agree receives (λ p. not (nat_lt (rank p) f)) 0 v.nodes
      (record { same = λ p _ below. ap not (target_is p (omega arith)) })
      ∙ count_by-ranks_above {R = compare_processes d} (then_total (on_total key nat_cmp_total) nat_cmp_total)
      (λ p q tied. ap (λ (x : ℕ × ℕ). x.1)
      (exact_pairs nat_cmp nat_cmp exact_unsigned exact_unsigned (key p, p) (key q, q) tied)) v.nodes f

  -- where none lies and no link is cut, who is no target is healthy, and where no target is deaf, who is one
  -- has crashed
  pub target_or_healthy : v.liars ≡ 0 → v.links ≡ 0 → (p : ℕ)
      → ((rank p < f) × (deaf_of v f ≡ 0 → role_at (drawn v f d r) p ≡ Crashed))
      ⊎ (role_at (drawn v f d r) p ≡ Healthy)
  target_or_healthy no_liars no_links p = elim (cases_lt p v.nodes) [
    | inl below ↦ elim (cases_lt (rank p) f) [
      | inl low ↦ inl (low, λ none. role_is p below ∙ rw (lt-ltb (rank p) (f - deaf_of v f) (omega arith)))
      | inr high ↦ (
          let no_liar = le-ltb (rank p) (f + v.liars) (omega arith) in
          let no_link = le-ltb (rank p) (f + v.liars + v.links) (omega arith) in
          let no_crash = le-ltb (rank p) (f - deaf_of v f) (omega arith) in
          inr (role_is p below ∙ rw (no_crash, le-ltb (rank p) f high, no_liar, no_link)))
    ]
    | inr past ↦ inr (get_or_past (map role (range_with_len 0 v.nodes)) p Healthy
        (omega (arith, roles_length)))
  ]
