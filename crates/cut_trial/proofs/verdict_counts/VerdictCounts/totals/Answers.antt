use Rattle.std.proofs.Common.{nat_le}
use Rattle.cut_outcome.proofs.Words.{cast_of}
use Rattle.cut_outcome.proofs.FastRound.{byte_of}
use Rattle.cut_trial.proofs.verdict_counts.VerdictCounts.totals.Goals as goal

pub returns : goal.returns
returns c = λ a all h targets.
    let quorum = c.from-quorum.result in
    let most = c.largest-votes.ensures (cast_of all) h.votes in
    let exact = c.votes_for-right.ensures (cast_of all) h.votes in
    let decided = byte_of (nat_le quorum c.largest-votes.result) in
    let right = byte_of (nat_le quorum c.votes_for-right.result) in
    rw (c.from.ensures, c.from-2.ensures, decided, c.from-3.ensures, right, c.from-quorum.ensures)
    (rw (c.quorum.ensures, c.nodes-nodes.ensures.value, most, exact, targets)
    (rw (h.verdicts.conflicts, h.verdicts.silent, h.verdicts.extra, h.verdicts.settled, c.requires.version)))
