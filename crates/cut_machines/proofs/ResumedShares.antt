-- The slips of a share that was stopped, and of one that was resumed, are slips of the share.
use Rattle.std.proofs.Common.{◌≡◌, ◌+◌, ◌≤◌, ℕ, List, [], ◌++◌, take, arith}
use Rattle.std.proofs.lemmas.List.{map-append, take-map}
use Rattle.std.proofs.lemmas.List.Elements.{All-append, All-take}
use Rattle.std.proofs.lemmas.List.Sums.{sum_by-take-le}
use Rattle.cut_plan.specs.Values.{Values}
use Rattle.cut_outcome.specs.Outcome.{one_if}
use Rattle.cut_ledger.specs.declared.slip.Slip.{Slip}
use Rattle.cut_ledger.specs.Contents.{is_in, is_in_base}
use Rattle.cut_ledger.specs.World.{pieces_of_slips, times_in}
use Rattle.cut_ledger.proofs.Law.{one_if-le, times-append, times_once}
use Rattle.cut_shares.specs.declared.share.share.Share.{Share}
use Rattle.cut_shares.specs.share.Running.{AreOfShare, AreWhole, is_lacking}

-- ---- first slips

first_times : (ss : List Slip) (n t : ℕ) → times_in (pieces_of_slips (take n ss)) t ≤ times_in (pieces_of_slips ss) t
first_times ss n t =
    let part = sum_by-take-le (λ p. one_if (is_in p t)) (pieces_of_slips ss) n in
    grind (arith, take-map)

pub first_slips : (s : Share) (v : Values) (ss added : List Slip) (n : ℕ) → AreOfShare s v ss added
    → AreOfShare s v ss (take n added)
first_slips s v ss added n are = search (arith, All-take, first_times)

-- ---- resumed slips

pub both_times : (ss added : List Slip) (t : ℕ) → times_in (pieces_of_slips (ss ++ added)) t
    ≡ times_in (pieces_of_slips ss) t + times_in (pieces_of_slips added) t
both_times ss added t = search (arith, map-append, times-append)

-- slips of a share have a trial once or not at all
own_times : (s : Share) (v : Values) (ss : List Slip) (t : ℕ) → AreOfShare s v [] ss
    → times_in (pieces_of_slips ss) t ≡ one_if (is_in_base ss t)
own_times s v ss t are =
    let once = are.once t in times_once ss t (omega (arith, once, one_if-le (is_lacking s v [] t)))

lacking_parts : (s : Share) (v : Values) (ss : List Slip) (t : ℕ) → AreOfShare s v [] ss
    → times_in (pieces_of_slips ss) t + one_if (is_lacking s v ss t) ≡ one_if (is_lacking s v [] t)
lacking_parts s v ss t are = grind (arith, own_times s v ss t are)

pub resumed_slips : (s : Share) (v : Values) (ss added : List Slip) → AreOfShare s v [] ss → AreOfShare s v ss added
    → AreOfShare s v [] (ss ++ added)
resumed_slips s v ss added are more = search (arith, All-append, both_times, lacking_parts)

pub resumed_whole : (s : Share) (v : Values) (ss added : List Slip) → AreOfShare s v [] ss → AreWhole s v ss added
    → AreWhole s v [] (ss ++ added)
resumed_whole s v ss added are whole t = search (arith, both_times, lacking_parts)
