use Rattle.std.proofs.Common.{◌≡◌, List, ℕ, [], ◌∷◌, ◌++◌, subst, ap, ◌∙◌}
use Rattle.cut_commands.specs.Faults.{fault_line}
use Rattle.cut_jobs.specs.Sending.{IsSent}
use Rattle.cut_jobs.proofs.program.end_fault.Goals as goal

pub returns : goal.returns
returns g c =
    let line : c.as_bytes.result.now ≡ fault_line c.args.fault.now =
    c.as_bytes.ensures.value ∙ c.deref.ensures.0 ∙ c.push_str.ensures.bytes
    ∙ ap (λ (text : List ℕ). text ++ 10 ∷ []) c.text-line.ensures.text in (
      subst (λ (text : List ℕ). IsSent text (g.E.Wire.log c.args.errors.now) (g.E.Wire.log c.report.new.errors)) line
          c.report.ensures,
      c.status.ensures,
    )
