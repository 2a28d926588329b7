use Rattle.std.proofs.Common.{◌∙◌, inl, ℕ, List, Option, Some, None, Bor, refl, ap, sym, subst}
use Rattle.std.specs.Prelude.{option_map}
use Rattle.cut_disks.specs.Log.{DiskLog}
use Rattle.cut_files.specs.Place.{Place, closed, while_open}
use Rattle.cut_files.proofs.Places.{stands_while_open}
use Rattle.cut_wires.specs.Log.{WireLog}
use Rattle.cut_commands.specs.Run.{plan_place, source_place}
use Rattle.cut_commands.specs.Study.{EndsRun, RunsFrom}
use Rattle.cut_commands.proofs.Sources.{closed_opened, same_place}
use Rattle.cut_commands.proofs.StudyLemmas.{plain_ends}
use Rattle.cut_commands.proofs.run_command.run.Goals as goal

-- without a checkpoint it has the table of the plan
pub returns-in_default : goal.returns-in_default
returns-in_default g c =
    let before = g.F.Files.log c.args.files.now in
    let plan = c.args.study.plan in
    let old : WireLog = g.W.Wire.log c.args.wire.now in
    let new : WireLog = g.W.Wire.log c.run_from.new.wire in
    let ended = c.run_from.result.ended in
    let back = option_map g.F.Disk.Disk.log c.run_from.result.disk in
    let disk = ap (λ d. option_map g.F.Disk.Disk.log d) c.new-study.ensures.1 in
    let source = ap (λ s. source_place g.F.Files.log s) c.new-study.ensures.2 ∙ c.of.ensures in
    let runs : RunsFrom None back (plan_place before plan) old new ended =
    subst (λ (p : Option Place). RunsFrom None back p old new ended) source
    (subst (λ (d : Option DiskLog). RunsFrom d back (source_place g.F.Files.log c.new-study.result.source) old new ended)
    disk c.run_from.ensures.runs) in
    subst (λ (f : Option (Bor (List ℕ))). EndsRun f plan before before old new ended) (sym c.in_default.is)
    (plain_ends (plan_place before plan) back old new ended runs, refl)

pub returns : goal.returns
returns g c =
    let first = g.F.Files.log c.args.files.now in
    let mid = g.F.Files.log c.open.new.self in
    let last = g.F.Files.log c.close.new.self in
    let file = c.in-Some.path.now in
    let disk : DiskLog = g.F.Disk.Disk.log c.in_ok-disk.disk in
    let back : DiskLog = g.F.Disk.Disk.log c.in-Some-disk.disk in
    let old : WireLog = g.W.Wire.log c.args.wire.now in
    let new : WireLog = g.W.Wire.log c.run_from-disk.new.wire in
    let ended = c.run_from-disk.result.ended in
    let plan = c.of-2.ensures ∙ same_place mid (while_open file first) c.args.study.plan
    (stands_while_open file first mid c.in_ok-disk.ensures.opened.1 c.in_ok-disk.ensures.elsewhere) in
    let left = ap (λ d. option_map g.F.Disk.Disk.log d) c.in-Some-disk.is in
    let runs = rw (c.new-study-2.ensures.1, c.new-study-2.ensures.2) at c.run_from-disk.ensures.runs in
    subst (λ (f : Option (Bor (List ℕ))). EndsRun f c.args.study.plan first last old new ended) (sym c.in-Some.is) (
      inl (
        disk,
        back,
        (
          c.in_ok-disk.ensures.opened.0,
          c.close.ensures.closed ∙ ap (closed back) c.in_ok-disk.ensures.opened.1 ∙ closed_opened back (first file),
          subst (λ (b : Option DiskLog). RunsFrom (Some disk) b (plan_place (while_open file first) c.args.study.plan) old
              new ended) left
              (subst (λ (p : Option Place). RunsFrom (Some disk)
              (option_map g.F.Disk.Disk.log c.run_from-disk.result.disk) p old new ended) plan runs),
        ),
      ),
      λ other apart. c.close.ensures.elsewhere other apart ∙ c.in_ok-disk.ensures.elsewhere other apart,
    )
