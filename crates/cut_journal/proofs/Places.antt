-- What is read from a slip's gate on, by the places of the gates.
use Rattle.std.proofs.Common.{◌≡◌, ◌∙◌, ◌≤◌, ◌<◌, ◌+◌, ℕ, zero, suc, true, false, List, [], ◌∷◌, Result, Ok, Err}
use Rattle.std.proofs.Common.{length, map, drop, refl, ap, arith}
use Rattle.std.specs.List.{range_with_len}
use Rattle.std.proofs.lemmas.List.{get_or-drop, drop-drop, length-drop}
use Rattle.cut_plan.specs.Failing.{version_of}
use Rattle.cut_plan.specs.Values.{Values}
use Rattle.cut_ledger.specs.declared.slip.Slip.{Slip}
use Rattle.cut_journal.specs.declared.fault.JournalFault.{JournalFault}
use Rattle.cut_journal.specs.declared.fault.JournalFault.TheVariants.{NoStudy, Damaged}
use Rattle.cut_journal.specs.File.{slip_length}
use Rattle.cut_journal.specs.Reading.{body_in, slip_in, then_slips, slips_in}
use Rattle.cut_journal.specs.inside.Places.{gate_place, is_open, body_at, has_slip, is_whole, opens}
use Rattle.cut_journal.proofs.Gates.{gate_next}

-- ---- what is left of a file from the gate of a slip on

abbrev rest_at : Values → List ℕ → ℕ → List ℕ
rest_at v bytes i = drop (gate_place v i) bytes

opens_is : (v : Values) (bytes : List ℕ) (i : ℕ) → opens (rest_at v bytes i) ≡ is_open v bytes i
opens_is v bytes i =
    grind (arith, get_or-drop)

body_is : (v : Values) (bytes : List ℕ) (i : ℕ) → body_in v (rest_at v bytes i) ≡ body_at v bytes i
body_is v bytes i =
    grind (arith, gate_next v i, drop-drop 1 (gate_place v i) bytes)

whole_is : (v : Values) (bytes : List ℕ) (i : ℕ) → has_slip v (rest_at v bytes i) ≡ is_whole v bytes i
whole_is v bytes i =
    grind (arith, gate_next, length-drop, body_is)

next_is : (v : Values) (bytes : List ℕ) (i : ℕ) → drop (slip_length (version_of v.failing)) (rest_at v bytes i)
    ≡ rest_at v bytes (i + 1)
next_is v bytes i =
    grind (arith, drop-drop, gate_next)

-- ---- one step of the reading

-- the slips from a gate on
abbrev pub slips_at : Values → List ℕ → ℕ → ℕ → Result (List Slip) JournalFault
slips_at v bytes more i = slips_in v more (i + 1) (rest_at v bytes i)

abbrev pub slip_at : Values → List ℕ → ℕ → Slip
slip_at v bytes i = slip_in (version_of v.failing) (body_at v bytes i)

pub closed_at : (v : Values) (bytes : List ℕ) (more i : ℕ) → is_open v bytes i ≡ false
    → slips_at v bytes (suc more) i ≡ Ok []
closed_at v bytes more i shut =
    grind (arith, opens_is v bytes i)

pub damaged_at : (v : Values) (bytes : List ℕ) (more i : ℕ) → is_open v bytes i ≡ true → is_whole v bytes i ≡ false
    → slips_at v bytes (suc more) i ≡ Err (Damaged (i + 1))
damaged_at v bytes more i shown broken =
    grind (arith, opens_is v bytes i, whole_is v bytes i)

whole_at : (v : Values) (bytes : List ℕ) (more i : ℕ) → is_open v bytes i ≡ true → is_whole v bytes i ≡ true
    → slips_at v bytes (suc more) i ≡ then_slips (slip_at v bytes i) (slips_at v bytes more (i + 1))
whole_at v bytes more i shown whole =
    grind (arith, opens_is v bytes i, whole_is v bytes i, body_is v bytes i, next_is v bytes i)

-- ---- whole slips, and what stands after them

-- the slips from one number up to another have open gates and are whole
abbrev AreWholeFrom : Values → List ℕ → ℕ → ℕ → Type 0
AreWholeFrom v bytes i n = (j : ℕ) → i ≤ j → j < n → (is_open v bytes j ≡ true) × (is_whole v bytes j ≡ true)

-- they are read before what is read from the gate after them, be that an end or a fault
pub read_on : (v : Values) (bytes : List ℕ) (E : List Slip → Result (List Slip) JournalFault)
    → ((s : Slip) (ss : List Slip) → then_slips s (E ss) ≡ E (s ∷ ss)) → (k more left i n : ℕ) → more ≡ k + left
    → i + k ≡ n → AreWholeFrom v bytes i n → slips_at v bytes left n ≡ E []
    → slips_at v bytes more i ≡ E (map (slip_at v bytes) (range_with_len i k))
read_on v bytes E goes zero more left i n many at whole ends =
    let same : more ≡ left = omega arith in
    let here : i ≡ n = omega arith in
    rw (same, here) ends
read_on v bytes E goes (suc k) zero left i n many at whole ends = absurd (omega arith)
read_on v bytes E goes (suc k) (suc more) left i n many at whole ends =
    let here = whole i (omega arith) (omega arith) in
    whole_at v bytes more i here.0 here.1
    ∙ ap (then_slips (slip_at v bytes i)) (read_on v bytes E goes k more left (i + 1) n (omega arith) (omega arith)
    (λ j low high. whole j (omega arith) high) ends)
    ∙ goes (slip_at v bytes i) (map (slip_at v bytes) (range_with_len (i + 1) k))

-- ---- what was read stands there

pub record ArePlaced (v : Values) (bytes : List ℕ) (i : ℕ) (slips : List Slip) : Type 0 where
  pub whole : AreWholeFrom v bytes i (i + length slips)
  pub closed : is_open v bytes (i + length slips) ≡ false
  pub are : slips ≡ map (slip_at v bytes) (range_with_len i (length slips))

one_placed : (v : Values) (bytes : List ℕ) (i : ℕ) (rest : List Slip) → is_open v bytes i ≡ true → is_whole v bytes i
    ≡ true → ArePlaced v bytes (i + 1) rest → ArePlaced v bytes i (slip_at v bytes i ∷ rest)
one_placed v bytes i rest opens whole after = grind arith

then_is : (s : Slip) (r : Result (List Slip) JournalFault) (slips : List Slip) → then_slips s r ≡ Ok slips
    → (rest : List Slip) × ((r ≡ Ok rest) × (slips ≡ s ∷ rest))
then_is s (Ok rest) slips is = (rest, (refl, cc))
then_is s (Err fault) slips is = absurd (cc)

pub are_placed : (v : Values) (bytes : List ℕ) (more i : ℕ) (slips : List Slip) → slips_at v bytes more i ≡ Ok slips
    → ArePlaced v bytes i slips
are_placed v bytes zero i slips is = absurd (cc)
are_placed v bytes (suc more) i slips is =
    grind (arith, closed_at, damaged_at, whole_at, then_is, one_placed, are_placed v bytes more (i + 1))

-- the slips are never read as no study
pub never_none : (v : Values) (more number : ℕ) (rest : List ℕ) → slips_in v more number rest ≡ Err NoStudy → ⊥
never_none v zero number rest is = cc
never_none v (suc more) number rest is =
    grind (arith, never_none v more (number + 1) (drop (slip_length (version_of v.failing)) rest))
