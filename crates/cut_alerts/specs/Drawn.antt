-- The roles that a trial draws (this project's profile): processes ascend by key and number; the first
-- of them are targets, of which the first have crashed and the others are deaf; the next are liars, the
-- next link sources, whose cut link goes to their subject on the first ring.
use Rattle.std.specs.Prelude.{ℕ, ◌+◌, ◌-◌, map, nat_lt, if◌then◌else◌}
use Rattle.std.specs.List.{range_with_len}
use Rattle.cut_plan.specs.Values.{Values}
use Rattle.cut_plan.specs.Targets.{deaf_among}
use Rattle.cut_rings.specs.Layout.{Layout, subject_of}
use Rattle.cut_draws.specs.Source.{Source}
use Rattle.cut_draws.specs.ProcessOrder.{process_rank}
use Rattle.cut_alerts.specs.declared.role.Role.{Role}
use Rattle.cut_alerts.specs.declared.role.Role.TheVariants.{Healthy, Crashed, Deaf, Liar, LinkSource}
use Rattle.cut_alerts.specs.Assignment.{Assignment}

-- the role of process p, if it has this rank: of the f targets, which come first, the last ones are deaf
abbrev pub ranked_role : Values → ℕ → Layout → ℕ → ℕ → Role
ranked_role v f r p rank =
    if nat_lt rank (f - deaf_among v.failing f) then Crashed
    else (if nat_lt rank f then Deaf
    else (if nat_lt rank (f + v.liars) then Liar
    else (if nat_lt rank (f + v.liars + v.links) then LinkSource (subject_of r 0 p) else Healthy)))

-- the roles of a trial of a cell with f failed processes, by the trial's draws
abbrev pub drawn : Values → ℕ → Source → Layout → Assignment
drawn v f d r = record {
  roles = map (λ p. ranked_role v f r p (process_rank d v.nodes p)) (range_with_len 0 v.nodes);
  dead = v.dead;
}
