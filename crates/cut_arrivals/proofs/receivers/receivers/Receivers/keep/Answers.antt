use Rattle.std.proofs.Common.{rules}
use Rattle.cut_arrivals.proofs.Copied.{copies_none, copies_more}
use Rattle.cut_arrivals.proofs.receivers.receivers.Receivers.keep.Goals as goal

pub loop-copy-init : goal.loop-copy-init
loop-copy-init c = record {
  blocks = search rules;
  kept = copies_none c.args.trial c.args.receivers _ c.clear-2.ensures.items;
}

pub loop-copy-preserved : goal.loop-copy-preserved
loop-copy-preserved c = record {
  blocks = search rules;
  kept = copies_more c.args.trial c.args.receivers c.loop-copy.copy c.loop-copy.self.kept.items _
      c.loop-copy.invariant.kept (search rules);
}
