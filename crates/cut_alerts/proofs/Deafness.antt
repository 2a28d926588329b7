-- What the number of deaf targets changes in the roles of a trial: ways of failing that draw alike, and one deaf
-- target more.
use Rattle.std.proofs.Common.{◌≡◌, ◌≢◌, ℕ, ◌+◌, ◌-◌, ◌<◌, ◌≤◌, Bool, true, false, min, map, nat_lt, inl, inr, refl, sym}
use Rattle.std.proofs.Common.{ap, ◌∙◌, arith, zero-add}
use Rattle.std.specs.Prelude.{if◌then◌else◌}
use Rattle.std.specs.List.{range_with_len}
use Rattle.std.specs.Ordering.{nat_cmp}
use Rattle.std.proofs.lemmas.Bool.{cases_lt, lt-ltb, ltb-true, le-ltb}
use Rattle.std.proofs.lemmas.Cmp.{nat_cmp_total, then_total, on_total}
use Rattle.std.proofs.lemmas.List.{get_or_past}
use Rattle.std.proofs.lemmas.List.FromFn.{length-map-range_with_len, get_or-map-range_with_len}
use Rattle.std.proofs.lemmas.Map.Lookups.{exact_unsigned, exact_pairs}
use Rattle.cut_lists.proofs.RankOrders.{ranks-decide}
use Rattle.cut_plan.specs.declared.failing.Failing.{Failing}
use Rattle.cut_plan.specs.declared.failing.Failing.TheVariants.{Mixed}
use Rattle.cut_plan.specs.Values.{Values}
use Rattle.cut_plan.specs.Targets.{deaf_among}
use Rattle.cut_rings.specs.Layout.{Layout, subject_of}
use Rattle.cut_draws.specs.Source.{Source, key_at}
use Rattle.cut_draws.specs.ProcessOrder.{process_place, process_rank, compare_processes}
use Rattle.cut_alerts.specs.declared.role.Role.{Role}
use Rattle.cut_alerts.specs.declared.role.Role.TheVariants.{Healthy, Crashed, Deaf, Liar, LinkSource}
use Rattle.cut_alerts.specs.Assignment.{role_at, has_crashed, same_role}
use Rattle.cut_alerts.specs.Drawn.{ranked_role}
use Rattle.cut_alerts.specs.Laws.{with_failing, drawn_with, DrawAlike, HasTurned, TurnsOne}

-- ---- ways of failing that draw alike

pub draw_alike : (v : Values) (how other : Failing) (f : ℕ) (d : Source) (r : Layout) → deaf_among how f
    ≡ deaf_among other f → DrawAlike v how other f d r
draw_alike v how other f d r same =
    grind arith

-- ---- one deaf target more

crashed_by_rank : (a b c e : Bool) (to : ℕ) → same_role Crashed
    (if a then Crashed else (if b then Deaf
    else (if c then Liar else (if e then LinkSource to else Healthy)))) ≡ a
crashed_by_rank true b c e to = refl
crashed_by_rank false true c e to = refl
crashed_by_rank false false true e to = refl
crashed_by_rank false false false true to = refl
crashed_by_rank false false false false to = refl

module _ (v : Values) (f : ℕ) (d : Source) (r : Layout) where
  abbrev rank : ℕ → ℕ
  rank p = process_rank d v.nodes p

  abbrev role : ℕ → ℕ → Role
  role deaf p = ranked_role (with_failing v (Mixed deaf)) f r p (rank p)

  role_is : (deaf p : ℕ) → p < v.nodes → role_at (drawn_with v deaf f d r) p ≡ role deaf p
  role_is deaf p below = get_or-map-range_with_len (role deaf) 0 v.nodes p p Healthy below (zero-add p)

  role_past : (deaf p : ℕ) → v.nodes ≤ p → role_at (drawn_with v deaf f d r) p ≡ Healthy
  role_past deaf p past =
      get_or_past (map (role deaf) (range_with_len 0 v.nodes)) p Healthy
      (omega (arith, length-map-range_with_len (role deaf) 0 v.nodes))

  -- who has crashed has a rank below the deaf ones
  crashed_is_low : (deaf q : ℕ) → has_crashed (drawn_with v deaf f d r) q ≡ true → rank q < f - min deaf f
  crashed_is_low deaf q crashed = elim (cases_lt q v.nodes) [
    | inl below ↦ ltb-true (rank q) (f - min deaf f)
        (sym (crashed_by_rank (nat_lt (rank q) (f - min deaf f)) (nat_lt (rank q) f) (nat_lt (rank q) (f + v.liars))
        (nat_lt (rank q) (f + v.liars + v.links)) (subject_of r 0 q))
        ∙ sym (ap (same_role Crashed) (role_is deaf q below)) ∙ crashed)
    | inr past ↦ absurd (let no = rw (role_past deaf q past) at crashed in cc)
  ]

  -- the process of that rank turns
  turned : (deaf p : ℕ) → p < v.nodes → rank p + deaf + 1 ≡ f → HasTurned v deaf f d r p
  turned deaf p below at = record {
    process = below;
    rank = at;
    crashed = role_is deaf p below ∙ rw (lt-ltb (rank p) (f - min deaf f) (omega (arith, at)));
    highest = λ q crashed. omega (arith, at, crashed_is_low deaf q crashed);
    deaf_then = role_is (deaf + 1) p below
        ∙ rw (le-ltb (rank p) (f - min (deaf + 1) f) (omega (arith, at)), lt-ltb (rank p) f (omega (arith, at)));
  }

  -- one of a lower rank has crashed before and after
  lower_stays : (deaf p : ℕ) → rank p + deaf + 1 < f → role deaf p ≡ role (deaf + 1) p
  lower_stays deaf p low =
      rw (
        lt-ltb (rank p) (f - min deaf f) (omega (arith, low)),
        lt-ltb (rank p) (f - min (deaf + 1) f)
            (omega (arith, low)),
      )

  -- and one of a higher rank has not
  higher_stays : (deaf p : ℕ) → f < rank p + deaf + 1 → role deaf p ≡ role (deaf + 1) p
  higher_stays deaf p high =
      rw (
        le-ltb (rank p) (f - min deaf f) (omega (arith, high)),
        le-ltb (rank p) (f - min (deaf + 1) f)
            (omega (arith, high)),
      )

  changed : (deaf p : ℕ) → role_at (drawn_with v deaf f d r) p ≢ role_at (drawn_with v (deaf + 1) f d r) p
      → HasTurned v deaf f d r p
  changed deaf p differs = elim (cases_lt p v.nodes) [
    | inl below ↦ (
        let same : (role deaf p ≡ role (deaf + 1) p) → ⊥ =
        λ e. differs (role_is deaf p below ∙ e ∙ sym (role_is (deaf + 1) p below)) in
        elim (cases_lt (rank p + deaf + 1) f) [
          | inl low ↦ absurd (same (lower_stays deaf p low))
          | inr most ↦ elim (cases_lt f (rank p + deaf + 1)) [
            | inl high ↦ absurd (same (higher_stays deaf p high))
            | inr least ↦ turned deaf p below (omega (arith, most, least))
          ]
        ])
    | inr past ↦ absurd (differs (role_past deaf p past ∙ sym (role_past (deaf + 1) p past)))
  ]

  one_turns : (deaf p q : ℕ) → HasTurned v deaf f d r p → HasTurned v deaf f d r q → p ≡ q
  one_turns deaf p q has also =
      let key : ℕ → ℕ = λ p. key_at d (process_place p) in
      ranks-decide {R = compare_processes d} (then_total (on_total key nat_cmp_total) nat_cmp_total)
      (λ p q tied. ap (λ (x : ℕ × ℕ). x.1)
      (exact_pairs nat_cmp nat_cmp exact_unsigned exact_unsigned (key p, p) (key q, q) tied)) v.nodes p q has.process
      also.process
      (omega (arith, has.rank, also.rank))

  pub turns_one : (deaf : ℕ) → TurnsOne v deaf f d r
  turns_one deaf = record { changed = changed deaf; turned = turned deaf; one = one_turns deaf }
