-- What batches of pieces leave in the journal, one after another.
use Rattle.std.proofs.Common.{◌≡◌, ◌∙◌, ◌≤◌, ◌+◌, ◌++◌, ◌&&◌, ◌==◌, ℕ, Bool, true, not, cond, List, [], ◌∷◌, Ok, Err}
use Rattle.std.proofs.Common.{None, filter, length, refl, sym, ap, arith, append_assoc, append-nil, length-append}
use Rattle.std.specs.List.{list_all}
use Rattle.std.proofs.lemmas.List.{length-map, map-append, get_or_append_left}
use Rattle.std.proofs.lemmas.List.Elements.{All-append, All-head, All-tail}
use Rattle.std.proofs.lemmas.List.Filters.{sum_by-filter_both}
use Rattle.cut_lists.proofs.Maps.{count_by-map}
use Rattle.cut_lists.proofs.Parts.{count_first}
use Rattle.cut_ledger.proofs.Law.{times-append}
use Rattle.cut_journal.specs.declared.store_fault.StoreFault.TheVariants.{Broken, Disk}
use Rattle.cut_journal.proofs.Adding.{adding_stops, all_added}
use Rattle.cut_shares.proofs.Appends.{pieces_back, share_slips, slips_of}
use Rattle.cut_shares.proofs.Counting.{of_same}
use Rattle.cut_shares.proofs.Words.{Adds, All, AreParted, AreWithin, DiskLog, EndsAdding, EndsPieces, IsSharePiece}
use Rattle.cut_shares.proofs.Words.{IsShareSlip, IsUpTo, IsWhole, JournalValue, Piece, PieceTask, Share, Slip}
use Rattle.cut_shares.proofs.Words.{StoreFault, Values, done_of, has_result, is_in, lost_of, own_times, pieces_of}
use Rattle.cut_shares.proofs.Words.{pieces_of_slips, slip_at, slips_at, times_in}

-- what holds of all of a list holds of its first elements
pub All-first : {X : Type 0} (P : X → Type 0) (xs ys : List X) → All P (xs ++ ys) → All P xs
All-first P xs ys all k d low =
    rw (get_or_append_left xs ys d k low) at (all k d (omega (arith, low, length-append xs ys)))

-- ---- the pieces of tasks, with and without a result

-- a trial is in the pieces with a result and in the lost ones as often as in all of them
times_parted : (tasks : List PieceTask) (t : ℕ)
    → times_in (done_of tasks) t + times_in (lost_of tasks) t ≡ times_in (pieces_of tasks) t
times_parted tasks t =
    let times : (xs : List PieceTask) → times_in (pieces_of xs) t ≡ _ =
    count_by-map (λ p. is_in p t) (λ (x : PieceTask). x.piece) in
    rw (times (filter has_result tasks), times (filter (λ x. not (has_result x)) tasks), times tasks)
    (sum_by-filter_both has_result (λ x. not (has_result x)) (λ x. refl) (λ x. cond (is_in x.piece t) 1 0) tasks)

-- pieces of the share are so where only some tasks are left
own_filtered : (s : Share) (v : Values) (p : PieceTask → Bool) (tasks : List PieceTask)
    → All (IsSharePiece s v) (pieces_of tasks) → All (IsSharePiece s v) (pieces_of (filter p tasks))
own_filtered s v p [] own = own
own_filtered s v p (task ∷ tasks) own =
    grind (arith, All-head, own_filtered s v p tasks (All-tail (IsSharePiece s v) task.piece (pieces_of tasks) own))

-- all tasks have a result where no piece is lost
all_done : (tasks : List PieceTask) → list_all has_result tasks ≡ (length (lost_of tasks) == 0)
all_done [] = refl
all_done (task ∷ tasks) = grind (arith, all_done tasks)

whole_more : (whole done : Bool) (lost : List Piece) (tasks : List PieceTask) → IsWhole whole lost
    → done ≡ list_all has_result tasks → IsWhole (whole && done) (lost ++ lost_of tasks)
whole_more whole done lost tasks before is = grind (arith, all_done tasks, length-append)

-- ---- up to a batch

module _ (s : Share) (v : Values) (all : List Piece) where
  -- some trial is in pieces of the share
  pub some_time : (ps : List Piece) → All (IsSharePiece s v) ps → 1 ≤ length ps → (t : ℕ) × (1 ≤ times_in ps t)
  some_time [] own some = absurd (omega arith)
  some_time (p ∷ ps) own some =
      grind (arith, All-head (IsSharePiece s v) p ps own, count_first (λ q. is_in q p.first) p ps)

  -- slips of the pieces so far
  within : (done : List Piece) (slips later : List Slip) → All (IsSharePiece s v) done
      → ((t : ℕ) → times_in done t ≤ own_times s v all t) → slips_at v done ≡ slips ++ later → AreWithin s v all slips
  within done slips later own times are =
      let same : pieces_of_slips slips ++ pieces_of_slips later ≡ done =
      sym (map-append (λ (x : Slip). x.piece) slips later) ∙ ap pieces_of_slips (sym are) ∙ pieces_back v done in
      record {
        each = All-first (IsShareSlip s v) slips later (rw are at (share_slips s v done own));
        times = λ t. omega (arith, times t, ap (λ l. times_in l t) same, times-append);
      }

  module _ {D : Type 0} (log : D → DiskLog) (old : JournalValue D) where
    -- the adding of pieces' slips stopped
    pieces_stop : (e : StoreFault) (done : List Piece) (new : JournalValue D) → All (IsSharePiece s v) done
        → ((t : ℕ) → times_in done t ≤ own_times s v all t)
        → EndsAdding {T = Bool} log (Err e) (slips_at v done) old new → EndsPieces log (Err e) s v all old new
    pieces_stop Broken done new own times (added, failed, is) =
        let low = is.1.0 in
        let at = some_time done own (omega (arith, low, length-map done (slip_at v))) in
        let some = at.1 in
        (rw (is.1.2.0, is.1.2.1) at is.0, is.1.1, (at.0, omega (arith, some, times at.0)))
    pieces_stop Disk done new own times (added, failed, is) =
        let are = is.1.2.0 ∙ sym (append_assoc added (is.1.0 ∷ []) is.1.1) in
        (added, is.1.0, (rw is.1.2.1 at is.0, within done (added ++ is.1.0 ∷ []) is.1.1 own times are))
    pieces_stop fault done new own times (added, failed, is) = absurd is.1

-- nothing is done yet
pub none_yet : {D : Type 0} {log : D → DiskLog} {s : Share} {v : Values} {all : List Piece} {old : JournalValue D}
    → Adds log [] None old old → IsUpTo log true s v all all old old
none_yet added = record {
  done = [];
  lost = [];
  parted = grind arith;
  sufficed = grind arith;
  kept = added;
}

-- one batch more, whose tasks have these pieces
module _ {D : Type 0} {log : D → DiskLog} {whole : Bool} {s now : Share} {v w : Values} {all left dealt : List Piece}
    {old mid : JournalValue D} (next : List Piece) (tasks : List PieceTask) (new : JournalValue D)
    (before : IsUpTo log whole s v all left old mid) (plan : mid.plan ≡ v) (pieces : pieces_of tasks ≡ dealt)
    (share : now ≡ s) (same : w ≡ v) (own : All (IsSharePiece now w) dealt)
    (times : (t : ℕ) → times_in dealt t + own_times now w next t ≡ own_times now w left t) where
  own_pieces : All (IsSharePiece s v) (pieces_of tasks)
  own_pieces = rw (share, same, ← pieces) at own

  parted : AreParted s v all (before.done ++ done_of tasks) (before.lost ++ lost_of tasks) next
  parted = record {
    done_own = All-append (IsSharePiece s v) _ _ before.parted.done_own (own_filtered s v has_result tasks own_pieces);
    lost_own = All-append (IsSharePiece s v) _ _ before.parted.lost_own
        (own_filtered s v (λ x. not (has_result x)) tasks own_pieces);
    times = λ t.
        (let more = of_same (λ a b. times_in dealt t + own_times a b next t ≡ own_times a b left t) share same
        (times t) in
        omega (arith, before.parted.times t, more, ap (λ ps. times_in ps t) pieces, times_parted tasks t, times-append));
  }

  slips_join : slips_at v before.done ++ slips_of mid.plan tasks ≡ slips_at v (before.done ++ done_of tasks)
  slips_join = rw plan (sym (map-append (slip_at v) before.done (done_of tasks)))

  -- its results are kept
  pub batch_more : (done : Bool) → done ≡ list_all has_result tasks
      → EndsAdding {T = Bool} log (Ok done) (slips_of mid.plan tasks) mid new
      → IsUpTo log (whole && done) s v all next old new
  batch_more done is ends = record {
    done = before.done ++ done_of tasks;
    lost = before.lost ++ lost_of tasks;
    parted = parted;
    sufficed = whole_more whole done before.lost tasks before.sufficed is;
    kept = all_added {T = Bool} log done _ _ _ old mid new slips_join before.kept ends;
  }

  -- or it ends the run
  pub batch_stops : (e : StoreFault) → EndsAdding {T = Bool} log (Err e) (slips_of mid.plan tasks) mid new
      → EndsPieces log (Err e) s v all old new
  batch_stops e ends =
      pieces_stop s v all log old e (before.done ++ done_of tasks) new parted.done_own
      (λ t. omega (arith, parted.times t))
      (adding_stops Bool Bool log e (slips_at v before.done) (slips_of mid.plan tasks) [] _ old mid new
      (sym slips_join ∙ sym (append-nil _)) before.kept ends)

-- nothing is left
pub up_to_end : {D : Type 0} {log : D → DiskLog} {whole : Bool} {s now : Share} {v w : Values} {all left : List Piece}
    {old new : JournalValue D} → IsUpTo log whole s v all left old new → now ≡ s → w ≡ v
    → ((t : ℕ) → own_times now w left t ≡ 0) → IsUpTo log whole s v all [] old new
up_to_end {left = left} before share same none = record {
  done = before.done;
  lost = before.lost;
  parted = record {
    done_own = before.parted.done_own;
    lost_own = before.parted.lost_own;
    times = λ t. omega (arith, before.parted.times t, of_same (λ a b. own_times a b left t ≡ 0) share same (none t));
  };
  sufficed = before.sufficed;
  kept = before.kept;
}
