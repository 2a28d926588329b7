use Rattle.std.proofs.Common.{◌∙◌, List, ℕ, Option, Result, Ok, sym, subst}
use Rattle.std.specs.Bool.{⊤}
use Rattle.std.specs.Io.{StartsWith}
use Rattle.std.proofs.lemmas.Result.{err_from_is_err_and}
use Rattle.cut_plan.specs.Accepted.{plan_of}
use Rattle.cut_explain.specs.FirstLine.{first_line}
use Rattle.cut_files.specs.Place.{Place}
use Rattle.cut_wires.specs.Log.{WireLog}
use Rattle.cut_commands.specs.Explain.{Explains, IsExplanation}
use Rattle.cut_commands.specs.Run.{EndsFrom, GivesTextFrom, source_place}
use Rattle.cut_commands.specs.declared.fault.CliFault.{CliFault}
use Rattle.cut_commands.proofs.ExplainLemmas.{ends_estimated, ends_no_text, ends_unwritten, ends_without_memory}
use Rattle.cut_commands.specs.inside.Explain.{IsWrittenAfter}
use Rattle.cut_commands.proofs.explain.explain_from.Goals as goal

pub returns-in_err-text : goal.returns-in_err-text
returns-in_err-text g c =
    let source : Option Place = source_place g.F.Files.log c.args.source in
    let old : WireLog = g.W.Wire.log c.args.wire.now in
    let new : WireLog = g.W.Wire.log c.read_text.new.wire in
    let p = err_from_is_err_and c.from_residual.result c.from_residual.ensures.1 in
    subst (λ (x : Result ⊤ CliFault). EndsFrom Explains source old new x) (sym p.1)
    (rw p.2 (ends_no_text source c.in_err-text.field-0.0 old new c.in_err-text.ensures))

pub returns-in_err-plan : goal.returns-in_err-plan
returns-in_err-plan g c =
    let source : Option Place = source_place g.F.Files.log c.args.source in
    let old : WireLog = g.W.Wire.log c.args.wire.now in
    let mid : WireLog = g.W.Wire.log c.read_text.new.wire in
    let text : List ℕ = c.as_slice.result.now in
    let given : GivesTextFrom source (Ok text) old mid =
    subst (λ (t : List ℕ). GivesTextFrom source (Ok t) old mid) (sym c.as_slice.ensures.value) c.in_ok-text.ensures in
    let p = err_from_is_err_and c.from_residual-in_err-plan.result c.from_residual-in_err-plan.ensures.1 in
    subst (λ (x : Result ⊤ CliFault). EndsFrom Explains source old mid x) (sym p.1)
    (rw p.2 (ends_without_memory source text old mid given))

pub returns-in_err-write_answer : goal.returns-in_err-write_answer
returns-in_err-write_answer g c =
    let source : Option Place = source_place g.F.Files.log c.args.source in
    let old : WireLog = g.W.Wire.log c.args.wire.now in
    let mid : WireLog = g.W.Wire.log c.read_text.new.wire in
    let new : WireLog = g.W.Wire.log c.write_answer.new.wire in
    let text : List ℕ = c.as_slice.result.now in
    let whole : List ℕ = c.as_bytes.result.now in
    let given : GivesTextFrom source (Ok text) old mid =
    subst (λ (t : List ℕ). GivesTextFrom source (Ok t) old mid) (sym c.as_slice.ensures.value) c.in_ok-text.ensures in
    let explains : IsExplanation text whole =
    subst (λ (bytes : List ℕ). StartsWith bytes (first_line (plan_of text))) (sym c.as_bytes.ensures.value)
    c.in_ok-plan.ensures.first_line in
    let p = err_from_is_err_and c.from_residual-in_err-write_answer.result
    c.from_residual-in_err-write_answer.ensures.1 in
    subst (λ (x : Result ⊤ CliFault). EndsFrom Explains source old new x) (sym p.1)
    (rw p.2 (ends_unwritten source text old mid given whole explains new c.in_err-write_answer.field-0.0
    c.in_err-write_answer.ensures))

pub returns-in-Ok : goal.returns-in-Ok
returns-in-Ok g c =
    let source : Option Place = source_place g.F.Files.log c.args.source in
    let old : WireLog = g.W.Wire.log c.args.wire.now in
    let mid : WireLog = g.W.Wire.log c.read_text.new.wire in
    let first : WireLog = g.W.Wire.log c.write_answer.new.wire in
    let new : WireLog = g.W.Wire.log c.write_estimate.new.wire in
    let text : List ℕ = c.as_slice.result.now in
    let whole : List ℕ = c.as_bytes.result.now in
    let given : GivesTextFrom source (Ok text) old mid =
    subst (λ (t : List ℕ). GivesTextFrom source (Ok t) old mid) (sym c.as_slice.ensures.value) c.in_ok-text.ensures in
    let explains : IsExplanation text whole =
    subst (λ (bytes : List ℕ). StartsWith bytes (first_line (plan_of text))) (sym c.as_bytes.ensures.value)
    c.in_ok-plan.ensures.first_line in
    let after : IsWrittenAfter whole c.write_estimate.result first new =
    subst (λ (before : List ℕ). IsWrittenAfter before c.write_estimate.result first new)
    (c.as_bytes-in-Ok.ensures.value ∙ sym c.as_bytes.ensures.value) c.write_estimate.ensures in
    ends_estimated source text old mid given whole explains new c.in-Ok.plan
    (c.in_ok-plan.ensures.plan ∙ c.in-Ok.is) first
    c.in_ok-write_answer.ensures c.write_estimate.result after
