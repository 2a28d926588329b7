-- The roles that lists of targets, liars and cut links give (this project's profile).
use Rattle.std.specs.Prelude.{◌≢◌, ℕ, ◌<◌, ◌≤◌, ◌==◌, ◌++◌, List, [], map, count_by}
use Rattle.std.specs.Prelude.{unwrap_or, option_map, if◌then◌else◌}
use Rattle.std.specs.List.{All, list_any, find, range_with_len}
use Rattle.cut_plan.specs.declared.dead.Dead.{Dead}
use Rattle.cut_plan.specs.declared.faults.Faults.{Faults}
use Rattle.cut_plan.specs.declared.faults.Faults.TheVariants as fault
use Rattle.cut_alerts.specs.declared.role.Role.{Role}
use Rattle.cut_alerts.specs.declared.role.Role.TheVariants.{Healthy, Crashed, Deaf, Liar, LinkSource}
use Rattle.cut_alerts.specs.Assignment.{Assignment}

-- the processes that have a role other than healthy: targets, liars, and the sources of links
abbrev pub all_named : List ℕ → List ℕ → List (ℕ × ℕ) → List ℕ
all_named targets liars links = targets ++ liars ++ map (λ l. l.0) links

-- each link goes from one process to another of the n
abbrev pub AreLinks : ℕ → List (ℕ × ℕ) → Type 0
AreLinks n links = All (λ l. (l.1 < n) × (l.0 ≢ l.1)) links

-- how often p is named
abbrev pub times_named : List ℕ → List ℕ → List (ℕ × ℕ) → ℕ → ℕ
times_named targets liars links p = count_by (λ q. q == p) (all_named targets liars links)

-- lists that give each of n processes one role
pub record AreLegalLists (n : ℕ) (targets liars : List ℕ) (links : List (ℕ × ℕ)) : Type 0 where
  -- a process that is named is one of the n
  pub in_range : All (λ p. p < n) (all_named targets liars links)
  -- none of them is named twice
  pub once : (p : ℕ) → p < n → times_named targets liars links p ≤ 1
  pub linked : AreLinks n links

-- ---- the roles

-- p as the source of a link, if it is
abbrev pub source_role : List (ℕ × ℕ) → ℕ → Role
source_role links p = unwrap_or (option_map (λ l. LinkSource l.1) (find (λ l. l.0 == p) links)) Healthy

-- the role of p: crashed, deaf, a liar or a link source if it is among these, and else healthy
abbrev pub given_role : List ℕ → List ℕ → List ℕ → List (ℕ × ℕ) → ℕ → Role
given_role crashed deaf liars links p =
    if list_any (λ q. q == p) crashed then Crashed
    else (if list_any (λ q. q == p) deaf then Deaf
    else (if list_any (λ q. q == p) liars then Liar else source_role links p))

-- the roles of n processes, if some targets have crashed and others are deaf
abbrev pub given_mixed : ℕ → List ℕ → List ℕ → List ℕ → List (ℕ × ℕ) → Dead → Assignment
given_mixed n crashed deaf liars links dead = record {
  roles = map (λ p. given_role crashed deaf liars links p) (range_with_len 0 n);
  dead = dead;
}

-- the roles of n processes, if all targets fail in one way
abbrev pub given : ℕ → List ℕ → List ℕ → List (ℕ × ℕ) → Faults → Dead → Assignment
given n targets liars links fault.Crash dead = given_mixed n targets [] liars links dead
given n targets liars links fault.Deaf dead = given_mixed n [] targets liars links dead
