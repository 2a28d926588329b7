use Rattle.std.proofs.Common.{◌≡◌, ℕ, ◌==◌, cond, take, length, slice_index}
use Rattle.cut_detector.proofs.Words.{list_any}
use Rattle.cut_detector.proofs.masks.Masks.clear.Given as goal

abbrev pub invariant-loop-subject : goal.invariant-loop-subject
invariant-loop-subject l = record {
  k : l.self.k ≡ l.initial.self.k;
  long : length l.self.masks.items ≡ length l.initial.self.masks.items;
  masks : (s : ℕ) → slice_index l.self.masks.items s
      ≡ cond (list_any (λ p. s == p) (take l.subject-index l.subjects)) 0 (slice_index l.initial.self.masks.items s);
}
