use Rattle.std.proofs.Common.{◌≡◌, ◌∙◌, ◌+◌, ◌<◌, ◌++◌, ℕ, List, [], ◌∷◌, Option, None, set, take, length, arith}
use Rattle.std.proofs.lemmas.List.{map-append, take_more_set}
use Rattle.std.proofs.lemmas.List.Elements.{All-push}
use Rattle.cut_ledger.proofs.Law.{times_push}
use Rattle.cut_shares.proofs.Words.{Computed, IsSharePiece, Piece, PieceTask, is_in, one_if, own_times, pieces_of}
use Rattle.cut_shares.proofs.Counting.{of_same}
use Rattle.cut_shares.proofs.share.piece_task.deal_pieces.Goals as goal

-- a task that gets a piece
dealt : (tasks : List PieceTask) (n : ℕ) (p : Piece) (result : Option Computed) → n < length tasks
    → pieces_of (take (n + 1) (set tasks n (record { piece = p; result = result })))
    ≡ pieces_of (take n tasks) ++ p ∷ []
dealt tasks n p result low = grind (arith, take_more_set, map-append)

pub returns-in_default-clause-taken : goal.returns-in_default-clause-taken
returns-in_default-clause-taken c = λ t.
    (let held = c.loop-count.invariant in
    let mid : List Piece = c.loop-count.pieces.rest ∷ c.loop-count.pieces.later.now in
    let new : List Piece = c.next.new.self.rest ∷ c.next.new.self.later.now in
    let none = of_same (λ s v. own_times s v mid t ≡ 0) held.share held.plan (c.in_default.ensures.none t) in
    let empty = of_same (λ s v. own_times s v new t ≡ 0) held.share held.plan (c.in_default.ensures.empty t) in
    omega (arith, none, empty, held.taken t))

pub returns-in_default-clause-none : goal.returns-in_default-clause-none
returns-in_default-clause-none c = λ _ t.
    of_same (λ s v. own_times s v (c.next.new.self.rest ∷ c.next.new.self.later.now) t ≡ 0)
    c.loop-count.invariant.share c.loop-count.invariant.plan (c.in_default.ensures.empty t)

pub loop-count-preserved : goal.loop-count-preserved
loop-count-preserved c =
    let held = c.loop-count.invariant in
    let step = c.in-Some.ensures in
    let n = c.loop-count.count in
    let tasks = c.loop-count.tasks in
    let old = c.args.pieces.now in
    let mid : List Piece = c.loop-count.pieces.rest ∷ c.loop-count.pieces.later.now in
    let new : List Piece = c.next.new.self.rest ∷ c.next.new.self.later.now in
    let test = c.loop-count-test.true in
    let long = c.loop-count.auto.tasks in
    let are = dealt tasks n c.in-Some.piece None (omega (arith, test, long)) in
    record {
      plan = c.next.ensures.plan ∙ held.plan;
      share = c.next.ensures.share ∙ held.share;
      own = rw are (All-push (IsSharePiece old.share old.plan.now) (pieces_of (take n tasks)) c.in-Some.piece held.own
          (rw (held.share, held.plan) at step.own));
      taken = λ t.
          (let more = of_same (λ s v. one_if (is_in c.in-Some.piece t) + own_times s v new t ≡ own_times s v mid t)
          held.share held.plan (step.taken t) in
          rw are (omega (arith, times_push (pieces_of (take n tasks)) c.in-Some.piece t, more, held.taken t)));
      fewer = omega (arith, step.fewer, held.fewer);
    }
