-- What can be written of a table, and what has been: a prefix of it.
use Rattle.std.proofs.Common.{◌≡◌, ℕ, ◌+◌, ◌*◌, ◌<◌, ◌≤◌, true, List, ◌++◌, length, take, drop, sym, ap, ◌∙◌, arith}
use Rattle.std.proofs.Common.{append_assoc, length-drop, length-take, take-append-drop}
use Rattle.std.proofs.Math.Nat.{mul-le-mul_right, add-mul}
use Rattle.std.proofs.Math.Seq.{take-add}
use Rattle.std.proofs.lemmas.List.{take-append-le, take_min}
use Rattle.std.proofs.lemmas.List.Concat.{flat_map-append}
use Rattle.cut_lists.proofs.Prefixes.{flat_map_prefix, longer_prefix, whole_prefix}
use Rattle.cut_lists.proofs.Intervals.{list_all_passing, passes_at}
use Rattle.cut_ledger.specs.lines.Lines.{table}
use Rattle.cut_plan.specs.Failing.{version_of}
use Rattle.cut_ledger.proofs.Words.{Contents, IsFounded, Values, all_trials, available, cell_done}
use Rattle.cut_ledger.proofs.Words.{cells_of, flat_map, has, header, is_complete, line_of}
use Rattle.cut_ledger.proofs.Words.{list_all, prefix_len, range_with_len, take_while, trial_count}
use Rattle.cut_ledger.proofs.Words.{trials_of_cell}
use Rattle.cut_ledger.proofs.LawSums.{done_sums}

-- ---- what can be written

-- a trial of a cell of the plan is one of the plan
pub in_plan : (c n r t : ℕ) → c < n → t < c * r + r → t < n * r
in_plan c n r t low at =
    let le = mul-le-mul_right {m = c + 1} {n = n} r (omega (arith, low)) in omega (arith, le, add-mul c 1 r, at)

-- the lines of the first cells that are done, as the table has them
abbrev pub lines_done : Values → Contents → List ℕ
lines_done v l = flat_map (λ c. line_of v c) (take_while (cell_done l) (range_with_len 0 (length (cells_of v))))

pub available_is : (v : Values) (l : Contents) → IsFounded v l → available l ≡ header (version_of v.failing)
    ++ lines_done v l
available_is v l sound =
    grind (arith, flat_map_prefix, done_sums v l)

-- it is a prefix of the table
pub available_prefix : (v : Values) (l : Contents) → IsFounded v l → (rest : List ℕ) × (table v ≡ available l ++ rest)
unfolding table
available_prefix v l sound =
    let all : List ℕ = range_with_len 0 (length (cells_of v)) in
    let n : ℕ = prefix_len (cell_done l) all in
    let lines : List ℕ → List ℕ = λ cs. flat_map (λ c. line_of v c) cs in (
      lines (drop n all),
      ap (λ cs. header (version_of v.failing) ++ lines cs) (sym (take-append-drop n all))
          ∙ ap (λ ys. header (version_of v.failing) ++ ys)
          (flat_map-append (λ c. line_of v c) (take n all) (drop n all))
          ∙ sym (append_assoc (header (version_of v.failing)) (lines (take n all)) (lines (drop n all)))
          ∙ ap (λ ys. ys ++ lines (drop n all)) (sym (available_is v l sound)),
    )

-- and grows with what is held
pub available_grows : (v : Values) (k l : Contents) → IsFounded v k → IsFounded v l
    → ((c : ℕ) → cell_done k c ≡ true → cell_done l c ≡ true) → length (available k) ≤ length (available l)
available_grows v k l fewer more grows =
    grind (arith, longer_prefix, available_is v k fewer, available_is v l more)

-- where every trial is held it is the table
pub available_whole : (v : Values) (l : Contents) → IsFounded v l → is_complete l ≡ true → available l ≡ table v
unfolding table
available_whole v l sound complete =
    let every = ap (λ w. list_all (has l) (all_trials w)) (sym sound.plan) ∙ complete in
    let done : (c : ℕ) → 0 ≤ c → c < 0 + length (cells_of v) → cell_done l c ≡ true = λ c low high.
    ap (λ w. list_all (has l) (trials_of_cell w c)) sound.plan
    ∙ list_all_passing (has l) (c * v.repeats) v.repeats (λ t from to.
    (let within = in_plan c (length (cells_of v)) v.repeats t (omega (arith, high)) to in
    passes_at (has l) 0 (trial_count v) every t (omega arith) (omega (arith, within)))) in
    available_is v l sound
    ∙ ap (λ cs. header (version_of v.failing) ++ flat_map (λ c. line_of v c) cs)
    (whole_prefix (cell_done l) (range_with_len 0 (length (cells_of v)))
    (list_all_passing (cell_done l) 0 (length (cells_of v)) done))

-- ---- what has been written

-- the first bytes of a text have been written, no more than a prefix of it has
pub record Written (text : List ℕ) (sent : ℕ) (bytes : List ℕ) (prefix : List ℕ) : Type 0 where
  pub within : sent ≤ length prefix
  pub first : bytes ≡ take sent text

pub written_more : (text prefix rest bytes : List ℕ) (sent n : ℕ) → text ≡ prefix ++ rest
    → Written text sent bytes prefix
    → Written text (sent + length (take n (drop sent prefix))) (bytes ++ take n (drop sent prefix)) prefix
written_more text prefix rest bytes sent n whole before =
    grind (arith, length-take, length-drop, take-add, take-append-le, take_min)
