-- How a share ends, by the options that ask for it.
use Rattle.std.proofs.Common.{◌≡◌, ℕ, List, Option, Bor, Result, subst}
use Rattle.std.specs.Bool.{⊤}
use Rattle.cut_files.specs.Place.{Place, StaysElsewhere, while_open}
use Rattle.cut_wires.specs.Log.{WireLog}
use Rattle.cut_shares.specs.declared.share.share.Share as share
use Rattle.cut_machines.specs.Share.{EndsShare}
use Rattle.cut_commands.specs.Run.{plan_place}
use Rattle.cut_commands.specs.declared.fault.CliFault.{CliFault}
use Rattle.cut_command_line.specs.declared.job.ShareOptions.{ShareOptions}
use Rattle.cut_jobs.specs.Jobs.{EndsShareOf}

pub share_ends : (o : ShareOptions) (s : share.Share) (file : Bor (List ℕ)) (plan : Option (Bor (List ℕ)))
    (before after : List ℕ → Place) (old new : WireLog) (result : Result ⊤ CliFault) → (file ≡ o.file) × (plan ≡ o.plan)
    → (s.index ≡ o.index) × (s.shares ≡ o.shares) × (s.block_size ≡ o.piece)
    → EndsShare result s (plan_place (while_open file.now before) plan) (before file.now) (after file.now) old new
    → StaysElsewhere file.now before after → EndsShareOf o before after old new result
share_ends o s file plan before after old new result files numbers ends elsewhere = (
  s,
  numbers.0,
  numbers.1,
  numbers.2,
  subst (λ (f : Bor (List ℕ)). EndsShare result s (plan_place (while_open f.now before) o.plan) (before f.now) (after f.now)
      old new) files.0
      (subst (λ (p : Option (Bor (List ℕ))). EndsShare result s (plan_place (while_open file.now before) p)
      (before file.now) (after file.now) old new) files.1 ends),
  subst (λ (f : Bor (List ℕ)). StaysElsewhere f.now before after) files.0 elsewhere,
)
