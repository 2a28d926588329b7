-- Only the room of one cell changes.
use Rattle.std.proofs.Common.{◌≡◌, ◌∙◌, ℕ, true, Result, Ok, Err, List, length, set, ap}
use Rattle.std.proofs.lemmas.List.{length-set}
use Rattle.cut_sets.specs.ranges.Held.{Held}
use Rattle.cut_ledger.proofs.Words.{AreKept, OnErr, OnOk, Slip, Totals, Values}
use Rattle.cut_ledger.proofs.CellLemmas.{kept_alike}
use Rattle.cut_ledger.proofs.ledger.Ledger.reserve.Goals as goal

kept_by : {E : Type 0} (r : Result (Unit {0}) E) (v : Values) (base : List Slip) (old new : Held) (sums : List Totals)
    (c : ℕ) → AreKept v base old sums → OnOk r (new ≡ record old { room = set old.room c true }) → OnErr r (new ≡ old)
    → AreKept v base new sums
kept_by (Ok u) v base old new sums c kept ok err =
    kept_alike v base old new sums kept (ap (λ (h : Held). h.section_len) ok) (ap (λ (h : Held). h.held) ok)
    (ap (λ (h : Held). length h.room) ok ∙ length-set old.room c true)
kept_by (Err e) v base old new sums c kept ok err =
    kept_alike v base old new sums kept (ap (λ (h : Held). h.section_len) err) (ap (λ (h : Held). h.held) err)
    (ap (λ (h : Held). length h.room) err)

pub invariant_of-self : goal.invariant_of-self
invariant_of-self c =
    let l = c.self.inside in
    kept_by c.reserve.result l.plan l.base l.held_trials.trials c.reserve.new.self l.held_trials.sums.items c.args.cell
    c.self.invariant c.reserve.ensures.ok c.reserve.ensures.err
