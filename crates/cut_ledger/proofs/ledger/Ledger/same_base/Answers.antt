-- Slips are equal where each of their numbers is.
use Rattle.std.proofs.Common.{sym, ◌∙◌, rules}
use Rattle.std.proofs.lemmas.Slice.Eq.{slice_eq-Decides}
use Rattle.cut_ledger.proofs.ledger.Ledger.same_base.Goals as goal

pub returns : goal.returns
returns c =
    let reported = slice_eq-Decides (λ a b. search rules) c.as_slice.result.now c.as_slice-2.result.now c.eq.result
    c.eq.ensures in
    rw (← c.self.view_is) (
      λ e. sym c.as_slice.ensures ∙ reported.0 e ∙ c.as_slice-2.ensures,
      λ e. reported.1
          (c.as_slice.ensures ∙ e ∙ sym c.as_slice-2.ensures),
    )
