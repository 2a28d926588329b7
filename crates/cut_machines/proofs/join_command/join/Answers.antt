use Rattle.std.proofs.Common.{◌∙◌, ℕ, Err, inl, inr, refl, sym, ap, subst}
use Rattle.std.proofs.lemmas.List.{length-map}
use Rattle.cut_files.specs.Place.{IsOpen, closed}
use Rattle.cut_files.proofs.Everywhere.{stays_everywhere}
use Rattle.cut_files.proofs.Places.{opened_open}
use Rattle.cut_commands.specs.declared.fault.CliFault.{CliFault}
use Rattle.cut_commands.proofs.Sources.{closed_opened}
use Rattle.cut_machines.specs.JoinCommand.{NamesRefusedFile}
use Rattle.cut_machines.proofs.JoinEnds.{names_from, still_open}
use Rattle.cut_machines.proofs.join_command.join.Goals as goal

pub returns-in-Err-clause-ends : goal.returns-in-Err-clause-ends
returns-in-Err-clause-ends g c = inr (
  c.in-Err.fault,
  (
    c.in-Err.ensures.refused,
    stays_everywhere c.args.paths.to.now (g.F.Files.log c.args.files.now) (g.F.Files.log c.open.new.self)
        c.in-Err.ensures.elsewhere c.in-Err.ensures.stays,
    ap (λ (fault : CliFault). Err fault) c.from.ensures,
    refl,
    refl,
  ),
)

pub close-requires : goal.close-requires
close-requires g c =
    let before = g.F.Files.log c.args.files.now c.args.paths.to.now in
    subst IsOpen
    (sym (still_open c.args.paths.to.now before (g.F.Files.log c.open.new.self) (g.F.Files.log c.join_onto-disk.new.files)
    c.in-Ok.ensures.opened.1 c.join_onto-disk.ensures.stays)) (opened_open before)

pub returns-clause-ends : goal.returns-clause-ends
returns-clause-ends g c =
    let before = g.F.Files.log c.args.files.now c.args.paths.to.now in
    let found = g.F.Files.log c.open.new.self in
    let left = g.F.Files.log c.join_onto-disk.new.files in
    let back = g.F.Disk.Disk.log c.join_onto-disk.result.disk in
    inl record {
      found = found;
      left = left;
      disk = g.F.Disk.Disk.log c.in-Ok.disk;
      back = back;
      opens = c.in-Ok.ensures.opened.0;
      out = c.in-Ok.ensures.opened.1;
      beside = c.in-Ok.ensures.elsewhere;
      ends = c.join_onto-disk.ensures.ends;
      shut = c.close.ensures.closed
          ∙ ap (closed back) (still_open c.args.paths.to.now before found left c.in-Ok.ensures.opened.1
          c.join_onto-disk.ensures.stays)
          ∙ closed_opened back before;
      others = c.close.ensures.elsewhere;
    }

pub returns-clause-names : goal.returns-clause-names
returns-clause-names g c =
    subst (λ (n : ℕ). NamesRefusedFile n c.join_onto-disk.result.ended c.join_onto-disk.result.refused)
    (length-map c.args.paths.from.now _) (names_from _ _ _ _ _ _ c.join_onto-disk.ensures.ends)
