-- The piece is put in, with the sums of its trials.
use Rattle.std.proofs.Common.{◌≡◌, ◌*◌, ◌/◌, false, Result, Ok, Err, List, sym, subst}
use Rattle.cut_sets.specs.ranges.Held.{Held, has}
use Rattle.cut_ledger.specs.declared.held_trials.HeldTrials.{HeldTrials}
use Rattle.cut_ledger.proofs.Words.{AreKept, IsAdded, IsAtMost, IsTrue, OnErr, OnOk, Piece, Slip, Totals, Values}
use Rattle.cut_ledger.proofs.Words.{is_piece, list_any, sum_of, trials_in}
use Rattle.cut_ledger.proofs.AddLemmas.{taken_kept}
use Rattle.cut_ledger.proofs.ledger.Ledger.take.Goals as goal

-- the call in the ledger's own words
taken : (v w : Values) (base : List Slip) (old new : Held) (olds news : List Totals) (p q : Piece) (x : Totals)
    → AreKept v base old olds → q ≡ p → w ≡ v → x ≡ sum_of w (trials_in p) → IsTrue (is_piece w p)
    → list_any (has old) (trials_in p) ≡ false → IsAtMost (2048 * p.count) x
    → IsAdded old new olds news (q.first / v.repeats) q x → AreKept v base new news
taken v w base old new olds news p q x kept same-piece same-plan sums piece apart few added =
    taken_kept v base old new olds news p (record {
      kept = kept;
      piece = rw same-plan at piece;
      apart = apart;
      few = rw (sums, same-plan) at few;
      added = rw (sums, same-plan, same-piece) at added;
    })

either : {E P Q : Type 0} (r : Result (Unit {0}) E) (S : Type 0) → OnOk r P → OnErr r Q → (P → S) → (Q → S) → S
either (Ok u) S ok err f g = f ok
either (Err e) S ok err f g = g err

pub add-requires-clause-fits : goal.add-requires-clause-fits
add-requires-clause-fits c =
    let plan = rw (← c.self.view_is) at c.requires.plan in
    record {
      piece = rw (c.piece.ensures.value, ← plan) c.piece.ensures.piece;
      apart = rw (c.piece.ensures.value) (rw (← c.self.view_is) at c.requires.apart);
      few = rw (c.piece.ensures.value) c.totals.ensures.few;
    }

pub invariant_of-self : goal.invariant_of-self
invariant_of-self c =
    let l = c.self.inside in
    let new : HeldTrials = c.add.new.self in
    let p : Piece = c.args.offered.now.piece in
    let apart = rw (← c.self.view_is) at c.requires.apart in
    let plan = rw (← c.self.view_is) at c.requires.plan in
    either c.add.result (AreKept l.plan l.base new.trials new.sums.items) c.add.ensures.ok c.add.ensures.err
    (taken l.plan c.args.offered.now.plan l.base l.held_trials.trials new.trials l.held_trials.sums.items new.sums.items
    p
    c.piece.result c.totals.result c.self.invariant c.piece.ensures.value plan c.totals.ensures.value
    c.piece.ensures.piece apart c.totals.ensures.few)
    (λ same. subst (λ (k : HeldTrials). AreKept l.plan l.base k.trials k.sums.items) (sym same) c.self.invariant)
