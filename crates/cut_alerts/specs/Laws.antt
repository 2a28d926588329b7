-- Laws of the roles that trials draw: what the way in which targets fail changes.
use Rattle.std.specs.Prelude.{◌≡◌, ◌≢◌, ℕ, ◌+◌, ◌<◌, ◌≤◌, IsTrue}
use Rattle.cut_plan.specs.declared.faults.Faults.TheVariants as fault
use Rattle.cut_plan.specs.declared.failing.Failing.{Failing}
use Rattle.cut_plan.specs.declared.failing.Failing.TheVariants.{Alike, Mixed}
use Rattle.cut_plan.specs.Values.{Values}
use Rattle.cut_plan.specs.Targets.{deaf_among}
use Rattle.cut_rings.specs.Layout.{Layout}
use Rattle.cut_draws.specs.Source.{Source}
use Rattle.cut_draws.specs.ProcessOrder.{process_rank}
use Rattle.cut_alerts.specs.declared.role.Role.TheVariants.{Crashed, Deaf}
use Rattle.cut_alerts.specs.Assignment.{Assignment, role_at, has_crashed}
use Rattle.cut_alerts.specs.Drawn.{drawn}
use Rattle.cut_alerts.specs.Alerted.{alert_list}

-- the plan, with targets that fail in this way
abbrev pub with_failing : Values → Failing → Values
with_failing v how = record v { failing = how }

-- ---- ways of failing that draw the same

-- the same roles, and so the same alerts
pub record DrawAlike (v : Values) (how other : Failing) (f : ℕ) (d : Source) (r : Layout) : Type 0 where
  pub roles : drawn (with_failing v how) f d r ≡ drawn (with_failing v other) f d r
  pub alerts : (k : ℕ) →
      alert_list r (drawn (with_failing v how) f d r) k ≡ alert_list r (drawn (with_failing v other) f d r) k

-- two ways do where as many of the f targets are deaf
abbrev pub AsManyDeafDrawAlike : Type 0
AsManyDeafDrawAlike =
    (v : Values) (how other : Failing) (f : ℕ) (d : Source) (r : Layout) →
    deaf_among how f ≡ deaf_among other f → DrawAlike v how other f d r

-- so a plan with no deaf target draws what crashes draw
abbrev pub NoneDeafDrawsCrashes : Type 0
NoneDeafDrawsCrashes =
    (v : Values) (f : ℕ) (d : Source) (r : Layout) → DrawAlike v (Mixed 0) (Alike fault.Crash) f d r

-- and one with as many deaf targets as targets, or more, draws what deaf ones alone draw
abbrev pub AllDeafDrawsDeaf : Type 0
AllDeafDrawsDeaf =
    (v : Values) (deaf f : ℕ) (d : Source) (r : Layout) → f ≤ deaf →
    DrawAlike v (Mixed deaf) (Alike fault.Deaf) f d r

-- ---- one deaf target more

-- the roles if this many targets are deaf
abbrev pub drawn_with : Values → ℕ → ℕ → Source → Layout → Assignment
drawn_with v deaf f d r = drawn (with_failing v (Mixed deaf)) f d r

-- with one more deaf target, process p has changed: it was the crashed one of the highest rank, and is deaf now
pub record HasTurned (v : Values) (deaf f : ℕ) (d : Source) (r : Layout) (p : ℕ) : Type 0 where
  pub process : p < v.nodes
  pub rank : process_rank d v.nodes p + deaf + 1 ≡ f
  pub crashed : role_at (drawn_with v deaf f d r) p ≡ Crashed
  pub highest : (q : ℕ) → IsTrue (has_crashed (drawn_with v deaf f d r) q) →
      process_rank d v.nodes q ≤ process_rank d v.nodes p
  pub deaf_then : role_at (drawn_with v (deaf + 1) f d r) p ≡ Deaf

-- one more deaf target changes the role of at most one process
pub record TurnsOne (v : Values) (deaf f : ℕ) (d : Source) (r : Layout) : Type 0 where
  -- a process whose role changes has turned
  pub changed : (p : ℕ) → role_at (drawn_with v deaf f d r) p ≢ role_at (drawn_with v (deaf + 1) f d r) p →
      HasTurned v deaf f d r p
  -- the process of that rank turns, if there is one
  pub turned : (p : ℕ) → p < v.nodes → process_rank d v.nodes p + deaf + 1 ≡ f → HasTurned v deaf f d r p
  -- no two turn
  pub one : (p q : ℕ) → HasTurned v deaf f d r p → HasTurned v deaf f d r q → p ≡ q

abbrev pub OneMoreDeafTurnsOne : Type 0
OneMoreDeafTurnsOne = (v : Values) (deaf f : ℕ) (d : Source) (r : Layout) → TurnsOne v deaf f d r
