use Rattle.std.proofs.Common.{inl, inr, refl}
use Rattle.clap.specs.declared.error.kind.ErrorKind.TheVariants.{OutOfMemory}
use Rattle.cut_command_line.proofs.line.parse_line.Goals as goal

pub returns-in-Err-clause-err : goal.returns-in-Err-clause-err
returns-in-Err-clause-err g c = (
  OutOfMemory,
  inr (inl refl),
  c.line_fault.ensures.status,
  λ is. c.line_fault.ensures.text refl,
)
