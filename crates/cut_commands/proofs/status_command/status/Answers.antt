use Rattle.std.proofs.Common.{◌∙◌, inl, inr, ℕ, List, Result, Err, sym, ap, subst, refl}
use Rattle.std.specs.Bool.{⊤}
use Rattle.std.proofs.lemmas.Result.{err_from_is_err_and}
use Rattle.cut_files.specs.Place.{Place}
use Rattle.cut_status.specs.declared.fault.StatusFault.{StatusFault}
use Rattle.cut_wires.specs.Log.{WireLog}
use Rattle.cut_commands.specs.Faults.{fault_of_status}
use Rattle.cut_commands.specs.Status.{EndsOver, EndsStatus}
use Rattle.cut_commands.specs.declared.fault.CliFault.{CliFault}
use Rattle.cut_commands.proofs.status_command.status.Goals as goal

pub returns-in_err-status : goal.returns-in_err-status
returns-in_err-status g c =
    let place : Place = g.F.Files.log c.args.files.now c.args.path.now in
    let l : WireLog = g.W.Wire.log c.args.wire.now in
    let bytes : List ℕ = c.in_ok-bytes.bytes.items in
    let fault : StatusFault = c.in_err-status.field-0.0 in
    let over : EndsOver bytes l l (Err (fault_of_status fault)) = inr (fault, (c.in_err-status.ensures.err, refl, refl)) in
    let ends : EndsStatus place l l (Err (fault_of_status fault)) =
    inl (bytes, (c.in_ok-bytes.ensures.content, over)) in
    let p = err_from_is_err_and c.from_residual-in_err-status.result c.from_residual-in_err-status.ensures.1 in
    subst (λ (x : Result ⊤ CliFault). EndsStatus place l l x) (sym (p.1 ∙ ap (λ (e : CliFault). Err e) p.2)) ends

pub returns : goal.returns
returns g c =
    let old : WireLog = g.W.Wire.log c.args.wire.now in
    let new : WireLog = g.W.Wire.log c.write_answer.new.wire in
    let bytes : List ℕ = c.in_ok-bytes.bytes.items in
    let over : EndsOver bytes old new c.write_answer.result = inl (
      c.as_slice.result.now,
      (
        (
          c.in_ok-status.status,
          (c.in_ok-status.ensures.ok, c.as_slice.ensures.value ∙ c.in_ok-text.ensures),
        ),
        c.write_answer.ensures,
      ),
    ) in
    inl (bytes, (c.in_ok-bytes.ensures.content, over))
