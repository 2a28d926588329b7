-- There are no more pieces than trials, and their numbers have 32 bits.
use Rattle.std.proofs.Common.{◌+◌, ◌*◌, ◌<◌, ◌≤◌, ◌^◌, List, [], ◌∷◌, All, length, get_or, not, ap, arith}
use Rattle.std.proofs.Common.{length-append}
use Rattle.std.proofs.lemmas.List.Elements.{All-head, All-tail}
use Rattle.std.proofs.lemmas.List.FromFn.{length-range_with_len}
use Rattle.std.proofs.lemmas.List.Sums.{count_by-le-length, length-filter}
use Rattle.std.proofs.lemmas.Nat.{mul-le}
use Rattle.cut_sets.specs.ranges.Laws.{SpansCover, SpansWithin}
use Rattle.cut_ledger.proofs.Words.{Contents, IsPlan, Piece, Values, all_trials, cells_of, flat_map, gaps_of, has}
use Rattle.cut_ledger.proofs.Words.{pieces_of, trial_count, trials_in}
use Rattle.cut_ledger.proofs.CellLemmas.{piece_facts}
use Rattle.cut_ledger.proofs.CoverLemmas.{pieces_cover}
use Rattle.cut_ledger.proofs.GapPieces.{gaps_are_pieces, pieces_are_pieces}

no_more_than_trials : (ps : List Piece) → All (λ p. 0 < p.count) ps → length ps ≤ length (flat_map trials_in ps)
no_more_than_trials [] some = omega arith
no_more_than_trials (p ∷ ps) some =
    let here : 0 < p.count = All-head (λ (q : Piece). 0 < q.count) p ps some in
    let rest = no_more_than_trials ps (All-tail (λ (q : Piece). 0 < q.count) p ps some) in
    omega (
      arith,
      here,
      rest,
      length-append (trials_in p) (flat_map trials_in ps),
      length-range_with_len p.first
          p.count,
    )

pub few_trials : (v : Values) → IsPlan v → trial_count v ≤ 4096 * 1000000
few_trials v plan = mul-le (length (cells_of v)) v.repeats 4096 1000000 plan.few_cells plan.few_repeats

pub few_pieces : SpansCover → SpansWithin → (l : Contents) (size : _) → IsPlan l.plan → 1 ≤ size
    → length (pieces_of l size) < 2 ^ 32
few_pieces cover within l size plan some =
    let pieces : List Piece = pieces_of l size in
    let each : All (λ (p : Piece). 0 < p.count) pieces = λ k d low.
    (piece_facts l.plan (get_or pieces k d) plan (pieces_are_pieces within l size plan some k d low)).some in
    omega (
      arith,
      no_more_than_trials pieces each,
      ap length (pieces_cover cover l size some),
      length-filter (λ t. not (has l t)) (all_trials l.plan),
      count_by-le-length (λ t. not (has l t)) (all_trials l.plan),
      length-range_with_len 0 (trial_count l.plan),
      few_trials l.plan plan,
    )

pub gaps_within : SpansWithin → (l : Contents) → IsPlan l.plan
    → All (λ (p : Piece). p.first + p.count < 2 ^ 32) (gaps_of l)
gaps_within within l plan k d low =
    grind (arith, gaps_are_pieces within l k d low)
