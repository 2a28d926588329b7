use Rattle.std.proofs.Common.{length, sym, subst, ◌∙◌}
use Rattle.std.proofs.lemmas.Result.{err_from_is_err_and}
use Rattle.cut_wires.specs.Log.{WireLog}
use Rattle.cut_commands.specs.Run.{GivesText}
use Rattle.cut_commands.specs.inside.Run.{text_of}
use Rattle.cut_commands.proofs.InputLemmas.{gives_unfilled}
use Rattle.cut_commands.proofs.input.read_text.Goals as goal

pub returns-in_err-filled : goal.returns-in_err-filled
returns-in_err-filled g c =
    let old : WireLog = g.W.Wire.log c.args.wire.now in
    let new : WireLog = g.W.Wire.log c.fill_buffer.new.wire in
    let p = err_from_is_err_and c.from_residual-in_err-filled.result c.from_residual-in_err-filled.ensures.1 in
    subst (λ x. GivesText c.args.limit (text_of x) old new) (sym p.1)
    (rw p.2 (gives_unfilled c.args.limit (length c.as_mut_slice.result.now) c.in_err-filled.field-0.0
    c.fill_buffer.new.buffer
    old new (c.as_mut_slice.ensures.len ∙ c.in_ok-text.ensures.len) c.in_err-filled.ensures))
