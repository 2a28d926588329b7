use Rattle.std.proofs.Common.{◌∙◌, Some, sym, ap, arith}
use Rattle.cut_ledger.proofs.DivisionLemmas.{ends_rise, found_by, none_past}
use Rattle.cut_ledger.proofs.division.Division.get.Goals as goal

pub gaps_before-at-requires : goal.gaps_before-at-requires
gaps_before-at-requires c = rw c.deref.ensures.value
    (ends_rise c.self.inside.size c.self.inside.stretches.items c.self.invariant.counted)

pub piece_in-requires-clause-number : goal.piece_in-requires-clause-number
piece_in-requires-clause-number c =
    (found_by c.self.inside.size c.self.inside.stretches.items _ _ c.args.number c.gaps_before-at.result
    c.in-Some.stretch.now c.self.invariant.counted c.deref.ensures.value c.deref-2.ensures.value
    c.gaps_before-at.ensures.parts c.in-Some.ensures.lookup.3.0 c.in-Some.ensures.lookup.3.1).has

pub returns-in-Some : goal.returns-in-Some
returns-in-Some c =
    let found = found_by c.self.inside.size c.self.inside.stretches.items _ _ c.args.number c.gaps_before-at.result
    c.in-Some.stretch.now c.self.invariant.counted c.deref.ensures.value c.deref-2.ensures.value
    c.gaps_before-at.ensures.parts c.in-Some.ensures.lookup.3.0 c.in-Some.ensures.lookup.3.1 in
    rw (← c.self.view_is) (ap Some c.piece_in.ensures ∙ sym found.is)

pub returns-in-None : goal.returns-in-None
returns-in-None c =
    grind (arith, none_past)
