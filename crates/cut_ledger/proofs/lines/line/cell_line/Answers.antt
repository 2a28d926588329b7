use Rattle.std.proofs.Common.{◌≡◌, ℕ, List, [], ◌∷◌, ◌++◌, IfOk, ap, sym, ◌∙◌, subst}
use Rattle.std.proofs.lemmas.Option.{get_or_from_slice_get}
use Rattle.cut_plan.specs.declared.cell.Cell.{Cell}
use Rattle.cut_plan.specs.Cells.{cells_of}
use Rattle.cut_plan.specs.Failing.{version_of}
use Rattle.cut_outcome.specs.declared.totals.Totals.{Totals}
use Rattle.cut_outcome.specs.Outcome.{no_cell}
use Rattle.cut_ledger.specs.lines.Lines.{comma_line, columns, cell_numbered, line_with, settled_column}
use Rattle.cut_ledger.proofs.lines.line.cell_line.Goals as goal

pub returns-clause-line : goal.returns-clause-line
returns-clause-line c =
    let v = c.args.plan.now in
    let x : Totals = c.args.totals in
    let cell_is : c.cell-cell.result ≡ cell_numbered v c.args.number = sym
    (get_or_from_slice_get (cells_of v) c.args.number c.cell-cell.result no_cell c.cell-cell.ensures.value) in
    let settled : List ℕ = settled_column (version_of v.failing) x in
    let first : List ℕ =
    c.from.result ∷ c.from-2.result ∷ c.from-3.result ∷ c.from-4.result ∷ c.from-5.result ∷ x.receivers ∷ x.conflicts
    ∷ x.silent
    ∷ x.extra ∷ x.votes ∷ x.decided ∷ x.right ∷ [] in
    let written : c.as_slice-2.result.now ≡ (first ++ settled) ++ c.ppm_of.result ∷ [] =
    c.as_slice-2.ensures.value ∙ c.in_ok-push.ensures.items
    ∙ ap (λ (xs : List ℕ). xs ++ c.ppm_of.result ∷ []) (c.in_ok-push_settled.ensures
    ∙ ap (λ (xs : List ℕ). xs ++ settled) (c.in_ok-columns.ensures.items ∙ c.as_slice.ensures)) in
    let repeats : c.from-5.result ≡ v.repeats = c.from-5.ensures ∙ c.repeats.ensures.value in
    let by_cell : (first ++ settled) ++ c.ppm_of.result ∷ [] ≡ columns v c.cell-cell.result x =
    cc (c.from.ensures, c.from-2.ensures, c.from-3.ensures, c.from-4.ensures, repeats, c.ppm_of.ensures) in
    let line : comma_line c.as_slice-2.result.now ≡ line_with v c.args.number x =
    ap (λ (xs : List ℕ). comma_line xs) (written ∙ by_cell) ∙ ap (λ (d : Cell). comma_line (columns v d x)) cell_is in
    subst (λ (xs : List ℕ). IfOk c.write_row.result (λ line. line.items ≡ xs)) line c.write_row.ensures.text
