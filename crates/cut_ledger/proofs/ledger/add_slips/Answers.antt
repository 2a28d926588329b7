-- A slip that is good is one more of what is held; the first that is not is reported.
use Rattle.std.proofs.Common.{ℕ, ◌<◌, List, length, take, get_or, refl, arith}
use Rattle.std.proofs.lemmas.List.{get_or_default, take_more}
use Rattle.cut_ledger.proofs.Words.{Slip, each_number}
use Rattle.cut_ledger.proofs.SlipLemmas.{good_more, over_more}
use Rattle.cut_ledger.proofs.ledger.add_slips.Goals as goal

abbrev no_slip : Slip
no_slip = record { piece = record { first = 0; count = 0 }; totals = each_number (λ n. 0) }

pub returns-then-not-is_good-clause-err : goal.returns-then-not-is_good-clause-err
returns-then-not-is_good-clause-err c =
    grind (arith, get_or_default)

pub loop-i-preserved : goal.loop-i-preserved
loop-i-preserved c =
    let slips : List Slip = c.args.slips.now in
    let i : ℕ = c.loop-i.i in
    let good = (c.if-not-is_good.ensures.good (take i slips) c.loop-i.invariant.over.exactly).0 refl in
    let within : i < length slips = omega arith in
    record {
      over = rw (take_more slips i no_slip within) (over_more c.args.plan.now (take i slips) c.loop-i.held_trials.trials
          c.add.new.self.trials c.loop-i.held_trials.sums.items c.add.new.self.sums.items (get_or slips i no_slip)
          c.loop-i.invariant.over good (c.if-not-is_good.ensures.fits refl).few c.in_ok-add.ensures.ok);
      good = good_more c.args.plan.now slips i no_slip within c.loop-i.invariant.good good;
    }
