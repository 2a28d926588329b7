-- The reported processes are among the touched ones.
use Rattle.std.proofs.Common.{◌≡◌, ◌<◌, ◌==◌, vec_len, ap, sym, subst, ◌∙◌}
use Rattle.cut_detector.proofs.Words.{All, list_any, rule_in}
use Rattle.cut_detector.proofs.Counting.{touched-all}
use Rattle.cut_detector.proofs.Settling.{reported-touched, HoldsFull_empty}
use Rattle.cut_detector.proofs.reports.Reports.clear.Goals as goal

pub clear-requires-clause-within : goal.clear-requires-clause-within
clear-requires-clause-within c =
    let s = c.args.self.now in
    let same : vec_len s.tally.full.masks ≡ vec_len s.reported.masks = s.full_long ∙ sym s.reported_long in
    subst (λ n. All (λ p. p < n) c.deref.result.now) same
    (subst (All (λ p. p < vec_len s.tally.full.masks)) (sym c.deref.ensures.value)
    (touched-all s.tally.full s.tally.touched.items s.tally.touches))

pub clear-requires-clause-alone : goal.clear-requires-clause-alone
clear-requires-clause-alone c p some =
    let s = c.args.self.now in
    ap (λ xs. list_any (λ q. p == q) xs) c.deref.ensures.value
    ∙ reported-touched s p some

pub invariant_of-self-2-clause-full : goal.invariant_of-self-2-clause-full
invariant_of-self-2-clause-full c =
    let t = c.clear-2.new.self in
    HoldsFull_empty c.args.self.now.rings.now (rule_in t.rule) _ _ _ _ t.rule.low c.clear.ensures.masks
    c.clear-2.ensures.full
