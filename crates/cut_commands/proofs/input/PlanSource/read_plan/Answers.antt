use Rattle.std.proofs.Common.{List, ℕ, Option, Result, Ok, sym, subst}
use Rattle.cut_files.specs.Place.{Place}
use Rattle.std.proofs.lemmas.Result.{err_from_is_err_and}
use Rattle.cut_plan.specs.Values.{Values}
use Rattle.cut_wires.specs.Log.{WireLog}
use Rattle.cut_commands.specs.Run.{GivesPlanFrom, GivesTextFrom, source_place}
use Rattle.cut_commands.specs.declared.fault.CliFault.{CliFault}
use Rattle.cut_commands.proofs.Sources.{gives_no_plan_from, gives_plan_from, gives_refused_from}
use Rattle.cut_commands.proofs.input.PlanSource.read_plan.Goals as goal

pub returns-in_err-text : goal.returns-in_err-text
returns-in_err-text g c =
    let source : Option Place = source_place g.F.Files.log c.args.self.now in
    let old : WireLog = g.W.Wire.log c.args.wire.now in
    let new : WireLog = g.W.Wire.log c.read_text.new.wire in
    let p = err_from_is_err_and c.from_residual.result c.from_residual.ensures.1 in
    subst (λ (x : Result Values CliFault). GivesPlanFrom source x old new) (sym p.1)
    (rw p.2 (gives_no_plan_from source c.in_err-text.field-0.0 old new c.in_err-text.ensures))

pub returns-in_err-from_json : goal.returns-in_err-from_json
returns-in_err-from_json g c =
    let source : Option Place = source_place g.F.Files.log c.args.self.now in
    let old : WireLog = g.W.Wire.log c.args.wire.now in
    let new : WireLog = g.W.Wire.log c.read_text.new.wire in
    let text : List ℕ = c.as_slice.result.now in
    let p = err_from_is_err_and c.from_residual-in_err-from_json.result c.from_residual-in_err-from_json.ensures.1 in
    subst (λ (x : Result Values CliFault). GivesPlanFrom source x old new) (sym p.1)
    (rw p.2 (gives_refused_from source text c.in_err-from_json.field-0.0 old new
    (subst (λ (t : List ℕ). GivesTextFrom source (Ok t) old new) (sym c.as_slice.ensures.value) c.in_ok-text.ensures)
    c.in_err-from_json.ensures.err c.in_err-from_json.ensures.too_long c.in_err-from_json.ensures.no_text))

pub returns : goal.returns
returns g c =
    let source : Option Place = source_place g.F.Files.log c.args.self.now in
    let old : WireLog = g.W.Wire.log c.args.wire.now in
    let new : WireLog = g.W.Wire.log c.read_text.new.wire in
    let text : List ℕ = c.as_slice.result.now in
    gives_plan_from source text c.in_ok-from_json.field-0 old new
    (subst (λ (t : List ℕ). GivesTextFrom source (Ok t) old new) (sym c.as_slice.ensures.value) c.in_ok-text.ensures)
    c.in_ok-from_json.ensures.ok
