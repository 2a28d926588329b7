use Rattle.std.proofs.Common.{◌∙◌, Option, Result, Ok, Err, refl, sym, subst}
use Rattle.std.specs.Bool.{⊤}
use Rattle.std.proofs.lemmas.Result.{err_from_is_err_and}
use Rattle.cut_plan.specs.Values.{Values}
use Rattle.cut_wires.specs.Log.{WireLog}
use Rattle.cut_commands.specs.declared.fault.CliFault.{CliFault}
use Rattle.cut_commands.specs.declared.fault.CliFault.TheVariants.{Memory}
use Rattle.cut_commands.specs.Run.{EndsCommandFrom, GivesPlanFrom, canonical_task, source_place}
use Rattle.cut_commands.proofs.RunLemmas.{leaves_answer, leaves_nothing}
use Rattle.cut_commands.proofs.Sources.{ends_left_from, ends_unread_from}
use Rattle.cut_files.specs.Place.{Place}
use Rattle.cut_commands.proofs.canonical.canonical_from.Goals as goal

pub returns-in_err-plan : goal.returns-in_err-plan
returns-in_err-plan g c =
    let source : Option Place = source_place g.F.Files.log c.args.source in
    let old : WireLog = g.W.Wire.log c.args.wire.now in
    let new : WireLog = g.W.Wire.log c.read_plan.new.wire in
    let p = err_from_is_err_and c.from_residual.result c.from_residual.ensures.1 in
    subst (λ (x : Result ⊤ CliFault). EndsCommandFrom canonical_task source old new x) (sym p.1)
    (rw p.2 (ends_unread_from canonical_task source c.in_err-plan.field-0.0 old new c.in_err-plan.ensures))

pub returns-in_err-line : goal.returns-in_err-line
returns-in_err-line g c =
    let source : Option Place = source_place g.F.Files.log c.args.source in
    let v : Values = c.in_ok-plan.plan in
    let old : WireLog = g.W.Wire.log c.args.wire.now in
    let mid : WireLog = g.W.Wire.log c.read_plan.new.wire in
    let given : GivesPlanFrom source (Ok v) old mid = subst (λ (x : Result Values CliFault). GivesPlanFrom source x old mid) c.in_ok-plan.was
    c.read_plan.ensures in
    let p = err_from_is_err_and c.from_residual-in_err-line.result c.from_residual-in_err-line.ensures.1 in
    subst (λ (x : Result ⊤ CliFault). EndsCommandFrom canonical_task source old mid x) (sym p.1)
    (rw p.2 (ends_left_from canonical_task source v (Err Memory) old mid mid given
    (leaves_nothing canonical_task v Memory mid refl refl)))

pub returns : goal.returns
returns g c =
    let source : Option Place = source_place g.F.Files.log c.args.source in
    let v : Values = c.in_ok-plan.plan in
    let old : WireLog = g.W.Wire.log c.args.wire.now in
    let mid : WireLog = g.W.Wire.log c.read_plan.new.wire in
    let new : WireLog = g.W.Wire.log c.write_answer.new.wire in
    let given : GivesPlanFrom source (Ok v) old mid = subst (λ (x : Result Values CliFault). GivesPlanFrom source x old mid) c.in_ok-plan.was
    c.read_plan.ensures in
    ends_left_from canonical_task source v c.write_answer.result old mid new given
    (leaves_answer canonical_task v c.as_slice.result.now c.write_answer.result mid new
    (c.as_slice.ensures.value ∙ c.in_ok-line.ensures) c.write_answer.ensures)
