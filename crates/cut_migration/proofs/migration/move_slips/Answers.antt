use Rattle.std.proofs.Common.{◌+◌, ◌∙◌, List, Result, Ok, Err, ℕ, get_or, refl, sym, ap, subst, arith}
use Rattle.std.specs.Bool.{⊤}
use Rattle.std.proofs.lemmas.Result.{err_from_is_err_and}
use Rattle.std.proofs.lemmas.Option.{slice_get-get_or}
use Rattle.cut_plan.specs.Values.{Values}
use Rattle.cut_outcome.specs.Sum.{each_number}
use Rattle.cut_ledger.specs.declared.slip.Slip.{Slip}
use Rattle.cut_journal.specs.declared.store_fault.StoreFault.{StoreFault}
use Rattle.cut_journal.proofs.Adding.{none_added}
use Rattle.cut_migration.specs.Migration.{EndsMigration}
use Rattle.cut_migration.specs.inside.Migration.{MovesOne}
use Rattle.cut_migration.proofs.Migrations.{moved_more, stopped, true_more}
use Rattle.cut_migration.proofs.migration.move_slips.Goals as goal

-- what is read of a list where nothing is
abbrev no_slip : Slip
no_slip = record { piece = record { first = 0; count = 0 }; totals = each_number (λ n. 0) }

pub loop-slip-init : goal.loop-slip-init
loop-slip-init g c = record {
  count = refl;
  true = λ i d low. absurd (omega (arith, low));
  added = none_added g.D.Disk.log c.args.journal.now c.journals_stay_readable.ensures.sound;
}

pub returns-in_err-move_slip-clause-ends : goal.returns-in_err-move_slip-clause-ends
returns-in_err-move_slip-clause-ends g c =
    let p = err_from_is_err_and c.from_residual.result c.from_residual.ensures.1 in
    let held = c.loop-slip.invariant in
    let v : Values = c.args.target.plan.now in
    let ss : List Slip = c.args.slips.now in
    let n : ℕ = c.loop-slip.slip-index in
    let one : MovesOne {T = ⊤} g.D.Disk.log (Err c.in_err-move_slip.field-0.0) v (c.loop-slip.count + 1)
    (get_or ss n no_slip) c.loop-slip.journal c.move_slip.new.journal = c.in_err-move_slip.ensures in
    subst (λ (x : Result ℕ StoreFault). EndsMigration g.D.Disk.log x v ss c.args.journal.now c.move_slip.new.journal)
    (sym (p.1 ∙ ap (λ (e : StoreFault). Err e) p.2))
    (stopped g.D.Disk.log c.in_err-move_slip.field-0.0 v ss n (c.loop-slip.count + 1) (get_or ss n no_slip)
    c.args.journal.now c.loop-slip.journal c.move_slip.new.journal (ap (λ k. k + 1) held.count)
    (record { version = c.args.target.version; good = c.requires.good; plan = c.requires.plan })
    (slice_get-get_or ss n no_slip c.loop-slip-test.true) held.true held.added one)

pub loop-slip-preserved : goal.loop-slip-preserved
loop-slip-preserved g c =
    let held = c.loop-slip.invariant in
    let v : Values = c.args.target.plan.now in
    let ss : List Slip = c.args.slips.now in
    let n : ℕ = c.loop-slip.slip-index in
    let s : Slip = get_or ss n no_slip in
    let at = slice_get-get_or ss n no_slip c.loop-slip-test.true in
    let one : MovesOne {T = ⊤} g.D.Disk.log (Ok tt) v (c.loop-slip.count + 1) s c.loop-slip.journal c.move_slip.new.journal =
    c.in_ok-move_slip.ensures in
    record {
      count = ap (λ k. k + 1) held.count;
      true = true_more v ss n s at held.true one.2.1.0;
      added = moved_more g.D.Disk.log v ss n (c.loop-slip.count + 1) s c.args.journal.now c.loop-slip.journal
          c.move_slip.new.journal at held.added one;
    }
