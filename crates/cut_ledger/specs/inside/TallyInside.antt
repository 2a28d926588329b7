-- What of a `SlipTally` contracts see, and what is always true of it.
use Rattle.std.specs.Prelude.{◌≡◌, ◌≤◌, length, count_by}
use Rattle.cut_plan.specs.Cells.{trial_count}
use Rattle.cut_plan.specs.Plan.{IsPlan}
use Rattle.cut_sets.specs.ranges.Held.{has}
use Rattle.cut_ledger.specs.declared.tally.SlipTally.TheInside.{Inside}
use Rattle.cut_ledger.specs.Contents.{all_trials}
use Rattle.cut_ledger.specs.Tally.{Tally}

abbrev pub tally_of : Inside → Tally
tally_of a = record { plan = a.plan; held = a.trials.held; slips = a.slips; refused = a.refused }

pub record IsTally (a : Inside) : Type 0 where
  pub plan : IsPlan a.plan
  pub section_len : a.trials.section_len ≡ a.plan.repeats
  pub all : length a.trials.held ≡ trial_count a.plan
  pub held : a.held ≡ count_by (has a.trials) (all_trials a.plan)
  -- each slip has a trial
  pub few : a.slips ≤ a.held
