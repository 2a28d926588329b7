-- The roles of all processes in a trial (this project's profile).
use Rattle.std.specs.Prelude.{ℕ, ◌==◌, ◌||◌, Bool, true, false, List, slice_index_or}
use Rattle.cut_plan.specs.declared.dead.Dead.{Dead}
use Rattle.cut_alerts.specs.declared.role.Role.{Role}
use Rattle.cut_alerts.specs.declared.role.Role.TheVariants.{Healthy, Crashed, Deaf, Liar, LinkSource}

-- whether two roles are the same
abbrev pub same_role : Role → Role → Bool
same_role Healthy Healthy = true
same_role Crashed Crashed = true
same_role Deaf Deaf = true
same_role Liar Liar = true
same_role (LinkSource p) (LinkSource q) = q == p
same_role _ _ = false

-- each process's role, and whether observers that have crashed raise alerts
pub record Assignment : Type 0 where
  pub roles : List Role
  pub dead : Dead

-- the role of process p
abbrev pub role_at : Assignment → ℕ → Role
role_at a p = slice_index_or a.roles p Healthy

-- p has crashed
abbrev pub has_crashed : Assignment → ℕ → Bool
has_crashed a p = same_role Crashed (role_at a p)

-- p is deaf: everything that is sent to it is lost
abbrev pub is_deaf : Assignment → ℕ → Bool
is_deaf a p = same_role Deaf (role_at a p)

-- p is a target: it has crashed or is deaf
abbrev pub is_target : Assignment → ℕ → Bool
is_target a p = has_crashed a p || is_deaf a p

-- p raises false alerts
abbrev pub is_liar : Assignment → ℕ → Bool
is_liar a p = same_role Liar (role_at a p)

-- the link from p to q is cut
abbrev pub is_cut : Assignment → ℕ → ℕ → Bool
is_cut a p q = same_role (LinkSource q) (role_at a p)
