use Rattle.std.proofs.Common.{rules, ◌∙◌, ◌+◌, ◌++◌, ℕ, List, [], ◌∷◌, Result, Err, take, drop, get_or, sym, ap, subst}
use Rattle.std.proofs.Common.{take-append-drop}
use Rattle.std.specs.Bool.{⊤}
use Rattle.std.proofs.lemmas.List.{take_more}
use Rattle.std.proofs.lemmas.Result.{err_from_is_err_and}
use Rattle.cut_plan.specs.Failing.{version_of}
use Rattle.cut_plan.specs.Values.{Values}
use Rattle.cut_outcome.specs.Sum.{each_number}
use Rattle.cut_ledger.specs.declared.slip.Slip.{Slip}
use Rattle.cut_journal.specs.declared.store_fault.StoreFault.{StoreFault}
use Rattle.cut_journal.specs.Adding.{EndsAdding}
use Rattle.cut_journal.specs.File.{HoldsAllTotals}
use Rattle.cut_journal.proofs.Adding.{adding_stops, all_added, none_added}
use Rattle.cut_journal.proofs.journal.Journal.add_all.Goals as goal

-- what is read of a list where nothing is
abbrev no_slip : Slip
no_slip = record { piece = record { first = 0; count = 0 }; totals = each_number (λ n. 0) }

pub loop-slip-init : goal.loop-slip-init
loop-slip-init g c =
    record { added = none_added g.D.Disk.log c.args.self.now c.journals_stay_readable.ensures.sound }

pub add_slip-requires : goal.add_slip-requires
add_slip-requires g c =
    let slips : List Slip = c.args.slips.now in
    let n : ℕ = c.loop-slip.slip-index in
    subst (λ (v : Values). HoldsAllTotals (version_of v.failing) (get_or slips n no_slip).totals)
    (sym c.loop-slip.invariant.added.plan) (c.requires n no_slip c.loop-slip-test.true)

pub returns-in_err-add_slip : goal.returns-in_err-add_slip
returns-in_err-add_slip g c =
    let p = err_from_is_err_and c.from_residual.result c.from_residual.ensures.1 in
    let slips : List Slip = c.args.slips.now in
    let n : ℕ = c.loop-slip.slip-index in
    subst (λ (x : Result ⊤ StoreFault). EndsAdding {T = ⊤} g.D.Disk.log x slips c.args.self.now c.add_slip.new.self)
    (sym (p.1 ∙ ap (λ (e : StoreFault). Err e) p.2))
    (adding_stops ⊤ ⊤ g.D.Disk.log c.in_err-add_slip.field-0.0 (take n slips) (get_or slips n no_slip ∷ [])
    (drop (n + 1) slips) slips c.args.self.now c.loop-slip.self c.add_slip.new.self
    (sym (take-append-drop (n + 1) slips)
    ∙ ap (λ (l : List Slip). l ++ drop (n + 1) slips) (take_more slips n no_slip (search rules)))
    c.loop-slip.invariant.added c.in_err-add_slip.ensures)

pub loop-slip-preserved : goal.loop-slip-preserved
loop-slip-preserved g c = record {
  added = all_added {T = ⊤} g.D.Disk.log tt _ _ _ c.args.self.now c.loop-slip.self c.add_slip.new.self
      (sym (take_more c.args.slips.now c.loop-slip.slip-index no_slip (search rules))) c.loop-slip.invariant.added
      c.in_ok-add_slip.ensures;
}
