-- How a run of a share ends, by how its batches do.
use Rattle.std.proofs.Common.{◌≡◌, ◌∙◌, ◌≤◌, ◌+◌, ◌++◌, ◌==◌, ◌&&◌, ℕ, zero, suc, Bool, true, false, not, List, [], ◌∷◌}
use Rattle.std.proofs.Common.{Some, None, Result, Ok, Err, cond, filter, length, nat_le, nat_lt, refl, sym, ap, arith}
use Rattle.std.specs.Prelude.{IsErrAnd}
use Rattle.std.proofs.lemmas.Bool.Decides.{nat_tests}
use Rattle.std.proofs.lemmas.List.{nil_from_length}
use Rattle.std.proofs.lemmas.List.Folds.{list_any-append}
use Rattle.std.proofs.lemmas.Result.{err_from_is_err_and}
use Rattle.cut_lists.proofs.Counts.{list_any-count_by}
use Rattle.cut_lists.proofs.Maps.{count_by-map}
use Rattle.cut_lists.proofs.Parts.{count_first}
use Rattle.cut_disks.specs.Log.{Knows}
use Rattle.cut_ledger.specs.Laws.{GapsCover}
use Rattle.cut_ledger.proofs.CellLemmas.{held_at}
use Rattle.cut_ledger.proofs.FillLemmas.{count_trials}
use Rattle.cut_ledger.proofs.Law.{one_if-le}
use Rattle.cut_journal.specs.Journal.{IsFileOf}
use Rattle.cut_journal.specs.declared.store_fault.StoreFault.TheVariants.{Memory, BadSlip, WorkMemory, Broken, Disk}
use Rattle.cut_journal.proofs.Adding.{none_added}
use Rattle.cut_shares.proofs.Appends.{pieces_back, share_slips}
use Rattle.cut_shares.proofs.Batches.{some_time}
use Rattle.cut_shares.proofs.Words.{All, AreGood, AreOfShare, AreWhole, CanRun, DiskLog, EndsPieces, EndsShare}
use Rattle.cut_shares.proofs.Words.{IsFaultOfOpening, IsSharePiece, IsTrue, JournalValue, Piece, Share, Slip}
use Rattle.cut_shares.proofs.Words.{StoreFault, Values, count_by, gaps_of, has, is_in_base, is_in_share, is_lacking}
use Rattle.cut_shares.proofs.Words.{one_if, over_base, own_times, range_with_len, slips_at, times_in, trial_count}
use Rattle.cut_shares.proofs.Words.{trials_of_share}

-- ---- how often a trial is in the gaps

-- a number is once among those of a range that pass where it is in the range and passes, and else not
once_passing : (p : ℕ → Bool) (a n t : ℕ)
    → count_by (λ x. x == t) (filter p (range_with_len a n)) ≡ one_if (nat_le a t && nat_lt t (a + n) && p t)
once_passing p a zero t = grind (arith, nat_tests)
once_passing p a (suc n) t =
    let first = count_first (λ x. x == t) a (filter p (range_with_len (a + 1) n)) in
    grind (arith, nat_tests, once_passing p (a + 1) n t)

-- a trial of the share counts as often as it is in the pieces, and another not at all
own_is : (s : Share) (v : Values) (ps : List Piece) (t : ℕ)
    → own_times s v ps t ≡ cond (is_in_share s v t) (times_in ps t) 0
own_is s v [] t = grind arith
own_is s v (p ∷ ps) t = grind (arith, own_is s v ps t)

-- a trial of the share is in one gap where no slip has it, and else in none
gap_times : GapsCover → (s : Share) (v : Values) (ss : List Slip) (t : ℕ)
    → own_times s v (gaps_of (over_base v ss)) t ≡ one_if (is_lacking s v ss t)
gap_times cover s v ss t =
    let gaps : List Piece = gaps_of (over_base v ss) in
    let times = sym (count_trials gaps t) ∙ ap (count_by (λ x. x == t)) (cover (over_base v ss))
    ∙ once_passing (λ k. not (has (over_base v ss) k)) 0 (trial_count v) t in
    grind (arith, nat_tests, own_is s v gaps t, held_at v (is_in_base ss) t)

-- ---- the endings

is_true : (b : Bool) (n : ℕ) → 1 ≤ n → n ≤ one_if b → IsTrue b
is_true b n some few = grind arith

-- the answer of a run of a share with n trials, by how its batches end
abbrev pub answer_of : ℕ → Result Bool StoreFault → Result ℕ StoreFault
answer_of n (Ok true) = Ok n
answer_of n (Ok false) = Err WorkMemory
answer_of n (Err e) = Err e

module _ {D : Type 0} (log : D → DiskLog) (s : Share) (v : Values) (ss : List Slip) where
  -- the slips of pieces of the share that have only trials that it lacks, each once at most
  of_share : (ps : List Piece) → All (IsSharePiece s v) ps
      → ((t : ℕ) → times_in ps t ≤ one_if (is_lacking s v ss t)) → AreOfShare s v ss (slips_at v ps)
  of_share ps own once = search (arith, share_slips, pieces_back)

  -- a trial that is in none of the added slips, and in none of those before
  still_lacking : (ps : List Piece) (t : ℕ) → times_in ps t ≡ 0 → IsTrue (is_lacking s v ss t)
      → IsTrue (is_lacking s v (ss ++ slips_at v ps) t)
  still_lacking ps t none lacks =
      grind (arith, list_any-count_by, count_by-map, list_any-append)

  -- the batches end so over pieces that have what the slips lack
  ends_by : (all : List Piece) (old new : JournalValue D) → CanRun v ss old
      → ((t : ℕ) → own_times s v all t ≡ one_if (is_lacking s v ss t))
      → (result : Result Bool StoreFault) → EndsPieces log result s v all old new
      → EndsShare log (answer_of (length (trials_of_share s v)) result) s v ss old new
  ends_by all old new can lack (Ok true) upto =
      let lost = nil_from_length upto.lost (upto.sufficed.none refl) in
      let times : (t : ℕ) → times_in upto.done t ≡ one_if (is_lacking s v ss t) = λ t.
      omega (arith, upto.parted.times t, lack t, ap (λ l. times_in l t) lost) in
      let of = of_share upto.done upto.parted.done_own (λ t. omega (arith, times t)) in
      let whole : AreWhole s v ss (slips_at v upto.done) = λ t.
      ap (λ l. times_in l t) (pieces_back v upto.done) ∙ times t in
      (slips_at v upto.done, None, (upto.kept, (refl, can, of, whole, refl)))
  ends_by all old new can lack (Ok false) upto =
      let at = some_time s v all upto.lost upto.parted.lost_own (upto.sufficed.some refl) in
      let t : ℕ = at.0 in
      let low = at.1 in
      let sum = upto.parted.times t in
      let own = lack t in
      let of = of_share upto.done upto.parted.done_own (λ i. omega (arith, upto.parted.times i, lack i)) in
      let lacks = is_true (is_lacking s v ss t) (times_in upto.lost t) low (omega (arith, sum, own)) in
      let none : times_in upto.done t ≡ 0 = omega (arith, low, sum, own, one_if-le (is_lacking s v ss t)) in
      (slips_at v upto.done, None, (upto.kept, (can, of, (t, still_lacking upto.done t none lacks), refl)))
  ends_by all old new can lack (Err Broken) ends =
      let t : ℕ = ends.2.0 in
      let lacks = is_true (is_lacking s v ss t) (own_times s v all t) ends.2.1 (omega (arith, lack t)) in
      ([], None, (ends.0, (can, (t, lacks), ends.1, (refl, refl))))
  ends_by all old new can lack (Err Disk) (added, slip, ends) =
      let of : AreOfShare s v ss (added ++ slip ∷ []) = record {
        each = ends.1.each;
        once = λ t. omega (arith, ends.1.times t, lack t);
      } in
      (added, Some slip, (ends.0, (can, (slip, (of, refl)))))
  ends_by all old new can lack (Err fault) ends = absurd ends

  module _ (old : JournalValue D) (sound : Knows (log old.disk) (IsFileOf old.plan old.count old.doubtful)) where
    -- it does not begin
    pub ends_unbegun : (result : Result ℕ StoreFault) (e : StoreFault) → IsErrAnd result (λ y. y ≡ e)
        → IsFaultOfOpening v ss e → old.plan ≡ v → EndsShare log result s v ss old old
    ends_unbegun result e is fault plan = let p = err_from_is_err_and result is in rw (p.1, p.2) (by e fault)
      where
        by : (e : StoreFault) → IsFaultOfOpening v ss e → EndsShare log (Err e) s v ss old old
        by Memory is = ([], None, (none_added log old sound, (plan, (refl, refl))))
        by (BadSlip n) is = ([], None, (none_added log old sound, (plan, is, (refl, refl))))
        by fault is = absurd is

-- the batches of the gaps over good slips end so
pub ends_run : {D : Type 0} {s now : Share} {v w : Values} (log : D → DiskLog) (ss : List Slip) (all gaps : List Piece)
    (old new : JournalValue D) (result : Result Bool StoreFault) → GapsCover → AreGood v ss → old.plan ≡ v
    → gaps ≡ gaps_of (over_base v ss) → ((t : ℕ) → own_times s v all t ≡ own_times s v gaps t) → now ≡ s → w ≡ v
    → EndsPieces log result now w all old new
    → EndsShare log (answer_of (length (trials_of_share s v)) result) s v ss old new
ends_run {s = s} {v = v} log ss all gaps old new result cover good same are times share plan ends =
    ends_by log s v ss all old new (record { good = good; plan = same })
    (λ t. times t ∙ ap (λ (l : List Piece). own_times s v l t) are ∙ gap_times cover s v ss t) result
    (rw (share, plan) at ends)
