-- Nothing is held.
use Rattle.std.proofs.Common.{◌∙◌, sym, arith}
use Rattle.std.proofs.lemmas.List.{length-replicate}
use Rattle.cut_ledger.proofs.TallyLemmas.{none_counted}
use Rattle.cut_ledger.proofs.tally.SlipTally.new.Goals as goal

pub invariant_of-result : goal.invariant_of-result
invariant_of-result c =
    let none = rw (c.cells.ensures.value, c.repeats.ensures.value) at c.in_ok-trials.ensures.held in
    record {
      plan = c.cells.ensures.plan;
      section_len = c.in_ok-trials.ensures.section_len ∙ c.repeats.ensures.value;
      all = grind (arith, none, length-replicate);
      held = sym (none_counted c.args.plan c.in_ok-trials.trials none);
      few = omega arith;
    }
