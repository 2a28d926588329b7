-- Files of the shares of one plan have no trial twice, and where all are there and complete they have each one.
use Rattle.std.proofs.Common.{◌≡◌, ◌∙◌, ◌+◌, ◌%◌, ◌<◌, ◌≤◌, ◌==◌, ℕ, List, []}
use Rattle.std.proofs.Common.{◌∷◌, All, refl, sym, ap, arith}
use Rattle.std.proofs.lemmas.Bool.Decides.{nat_tests}
use Rattle.std.proofs.lemmas.List.Elements.{All-head, All-tail, recursion_from_All}
use Rattle.cut_lists.proofs.FlatMaps.{All-flat_map}
use Rattle.cut_lists.proofs.Parts.{count_first}
use Rattle.cut_plan.specs.Cells.{trial_count}
use Rattle.cut_plan.specs.Plan.{IsPlan}
use Rattle.cut_plan.specs.Values.{Values}
use Rattle.cut_outcome.specs.Outcome.{one_if}
use Rattle.cut_ledger.specs.declared.slip.Slip.{Slip}
use Rattle.cut_ledger.specs.Laws.{TrueSlipsAreGood}
use Rattle.cut_ledger.specs.World.{AreTrue, IsTrueSlip, pieces_of_slips, times_in}
use Rattle.cut_ledger.proofs.Law.{times_once}
use Rattle.cut_shares.specs.share.Blocks.{block_of}
use Rattle.cut_shares.specs.share.Running.{AreWhole, is_lacking}
use Rattle.cut_shares.specs.share.Share.{has_block}
use Rattle.cut_shares.specs.join.Joined.{joined}
use Rattle.cut_shares.specs.join.Laws.{JoinedAreTrue, JoinedHaveTheTrials}
use Rattle.cut_machines.specs.Laws.{AreComplete, AreFilesOfShares, FileOfShare, IsFileOfShare, Sharing}
use Rattle.cut_machines.specs.Laws.{all_slips, files_of_share}
use Rattle.cut_machines.proofs.ResumedShares.{both_times}

-- the number of the share that has a trial's block
abbrev turn_of : Sharing → Values → ℕ → ℕ
turn_of sharing v t = block_of sharing.block_size v t % sharing.shares + 1

-- a file that has all trials of its share
abbrev IsWhole : Values → FileOfShare → Type 0
IsWhole v file = AreWhole file.share v [] file.slips

module _ (sharing : Sharing) (v : Values) where
  -- ---- one file

  -- a share has a block where the block's turn is the share's
  own_block : (file : FileOfShare) (t : ℕ) → IsFileOfShare sharing v file
      → has_block file.share (block_of file.share.block_size v t) ≡ (file.share.index == turn_of sharing v t)
  own_block file t is =
      let numbered = file.share.bounds.numbered in
      rw (sym is.block_size, sym is.shares) (grind (arith, nat_tests, numbered))

  -- where no slip is there, a share lacks no trials but those of the plan whose turn is the share's
  at_most_own : (file : FileOfShare) (t : ℕ) → IsFileOfShare sharing v file
      → one_if (is_lacking file.share v [] t) ≤ one_if (file.share.index == turn_of sharing v t)
  at_most_own file t is = let own = own_block file t is in grind (arith, nat_tests, own)

  -- and each of these
  own_turn : (file : FileOfShare) (t : ℕ) → IsFileOfShare sharing v file → t < trial_count v
      → one_if (is_lacking file.share v [] t) ≡ one_if (file.share.index == turn_of sharing v t)
  own_turn file t is low = let own = own_block file t is in grind (arith, nat_tests, own)

  -- ---- all files

  -- a trial is in these files at most as often as the share whose turn it is has one
  few_times : (files : List FileOfShare) (t : ℕ) → All (IsFileOfShare sharing v) files
      → times_in (pieces_of_slips (all_slips files)) t ≤ files_of_share (turn_of sharing v t) files
  few_times [] t each = omega arith
  few_times (file ∷ files) t each =
      let is = All-head (IsFileOfShare sharing v) file files each in
      let once = is.slips.once t in
      let own = at_most_own file t is in
      let sum = both_times file.slips (all_slips files) t in
      let count = count_first (λ (f : FileOfShare). f.share.index == turn_of sharing v t) file files in
      let rest = few_times files t (All-tail (IsFileOfShare sharing v) file files each) in
      omega (arith, once, own, sum, count, rest)

  -- and exactly as often where all are complete
  all_times : (files : List FileOfShare) (t : ℕ) → t < trial_count v → All (IsFileOfShare sharing v) files
      → All (IsWhole v) files
      → times_in (pieces_of_slips (all_slips files)) t ≡ files_of_share (turn_of sharing v t) files
  all_times [] t low each whole = refl
  all_times (file ∷ files) t low each whole =
      let is = All-head (IsFileOfShare sharing v) file files each in
      let once = All-head (IsWhole v) file files whole t in
      let own = own_turn file t is low in
      let sum = both_times file.slips (all_slips files) t in
      let count = count_first (λ (f : FileOfShare). f.share.index == turn_of sharing v t) file files in
      let rest = all_times files t low (All-tail (IsFileOfShare sharing v) file files each)
      (All-tail (IsWhole v) file files whole) in
      omega (arith, once, own, sum, count, rest)

  pub files_true : (files : List FileOfShare) → AreFilesOfShares sharing v files → AreTrue v (all_slips files)
  files_true files are = record {
    each = recursion_from_All (IsTrueSlip v) (all_slips files)
        (All-flat_map (IsTrueSlip v) (λ (file : FileOfShare). file.slips) files
        (λ i d low k e less. (let is = are.each i d low in (is.slips.each k e less).true)));
    apart = λ t. omega (arith, few_times files t are.each, are.once (turn_of sharing v t));
  }

  one_time : (files : List FileOfShare) (t : ℕ) → t < trial_count v
      → AreFilesOfShares sharing v files → AreComplete sharing v files
      → times_in (pieces_of_slips (all_slips files)) t ≡ 1
  one_time files t low are whole =
      let some = whole.some in
      all_times files t low are.each whole.each ∙ whole.all (turn_of sharing v t) (omega arith) (omega arith)

  pub whole_times : JoinedAreTrue → TrueSlipsAreGood → JoinedHaveTheTrials → (files : List FileOfShare) → IsPlan v
      → AreFilesOfShares sharing v files → AreComplete sharing v files → (t : ℕ)
      → t < trial_count v → times_in (pieces_of_slips (joined v (all_slips files))) t ≡ 1
  whole_times stay_true good trials files plan are whole t low =
      let ss : List Slip = all_slips files in
      let true_ones = files_true files are in
      let joined_ones = stay_true v ss plan true_ones in
      times_once (joined v ss) t (joined_ones.apart t)
      ∙ ap one_if (trials v ss (good v ss true_ones) t)
      ∙ sym (times_once ss t (true_ones.apart t))
      ∙ one_time files t low are whole
