-- What every event leaves true of a run.
use Rattle.std.proofs.Common.{◌≡◌, ℕ, ◌+◌, ◌<◌, ◌≤◌, Bool, true, false, cond, List, [], ◌∷◌, ◌++◌, take, refl, sym}
use Rattle.std.proofs.Common.{◌∙◌, arith, append-nil, IsTrue}
use Rattle.std.proofs.lemmas.Bool.Decides.{nat_tests}
use Rattle.std.proofs.lemmas.List.{map-append}
use Rattle.std.proofs.lemmas.List.Sums.{sum_by-append, sum_by_push}
use Rattle.cut_lists.proofs.Parts.{count_first}
use Rattle.cut_ledger.specs.lines.Lines.{table}
use Rattle.cut_ledger.proofs.Words.{AllByRecursion, AreTrue, IsReached, IsTrueSlip, Piece, Slip, Values, World, begun}
use Rattle.cut_ledger.proofs.Words.{has, held_where, is_in, is_in_base, is_piece, one_if, opened, over_base}
use Rattle.cut_ledger.proofs.Words.{pieces_of_slips, slice_index_or, start, times_in, trial_count}
use Rattle.cut_ledger.proofs.CellLemmas.{held_at}

-- ---- what is held

-- where only trials of the plan pass, a trial is held exactly where it passes
pub held_within : (v : Values) (test : ℕ → Bool) (t : ℕ) → (test t ≡ true → t < trial_count v)
    → slice_index_or (held_where v test) t false ≡ test t
held_within v test t within = grind (arith, nat_tests, within, held_at v test t)

-- a piece of a plan has only trials of it
pub piece_within : (v : Values) (p : Piece) (t : ℕ) → IsTrue (is_piece v p) → is_in p t ≡ true → t < trial_count v
piece_within v p t piece here = grind (arith, nat_tests)

-- ---- how often a trial is in pieces

pub times-append : (ps qs : List Piece) (t : ℕ) → times_in (ps ++ qs) t ≡ times_in ps t + times_in qs t
times-append ps qs t = sum_by-append (λ p. cond (is_in p t) 1 0) ps qs

pub times_push : (ps : List Piece) (p : Piece) (t : ℕ) → times_in (ps ++ p ∷ []) t ≡ times_in ps t + one_if (is_in p t)
times_push ps p t = sum_by_push (λ p. cond (is_in p t) 1 0) ps p

-- of slips, with one more
pub times_more : (ss : List Slip) (s : Slip) (t : ℕ) → times_in (pieces_of_slips (ss ++ s ∷ [])) t
    ≡ times_in (pieces_of_slips ss) t + one_if (is_in s.piece t)
times_more ss s t = rw (map-append (λ (q : Slip). q.piece) ss (s ∷ [])) (times_push (pieces_of_slips ss) s.piece t)

-- pieces that are apart have a trial once or not at all
pub times_once : (ss : List Slip) (t : ℕ) → times_in (pieces_of_slips ss) t ≤ 1 → times_in (pieces_of_slips ss) t
    ≡ one_if (is_in_base ss t)
times_once [] t few = refl
times_once (s ∷ ss) t few =
    let sum = count_first (λ p. is_in p t) s.piece (pieces_of_slips ss) in grind (arith, times_once ss t)

-- true slips have only trials of the plan
pub base_within : (v : Values) (ss : List Slip) (t : ℕ) → AllByRecursion (IsTrueSlip v) ss → is_in_base ss t ≡ true → t
    < trial_count v
base_within v [] t each here = absurd (let no : ⊥ = cc in no)
base_within v (s ∷ ss) t each here =
    let first = piece_within v s.piece t each.0.piece in grind (arith, base_within v ss t each.1)

pub one_if-le : (b : Bool) → one_if b ≤ 1
one_if-le b = grind arith

-- ---- what holds after every event

-- what holds of a run: its state is reached, each held trial is in one piece, and what was written is the
-- prefix of the table
pub record Holds (v : Values) (w : World) : Type 0 where
  pub reached : IsReached v w.state
  pub once : (t : ℕ) → times_in (pieces_of_slips w.state.ledger.base ++ w.accepted) t ≡ one_if (has w.state.ledger t)
  pub first : w.bytes ≡ take w.state.sent (table v)

-- a study that is opened over true slips that are apart
pub opened_holds : (v : Values) → 0 < v.repeats → (journal : Bool) (ss : List Slip) (size : ℕ) → AreTrue v ss
    → Holds v (begun (opened v journal ss size))
opened_holds v some journal ss size are =
    let held : (t : ℕ) → has (over_base v ss) t ≡ is_in_base ss t = λ t. held_within v (is_in_base ss) t
    (base_within v ss t are.each) in
    let once : (t : ℕ) → times_in (pieces_of_slips ss) t ≡ one_if (has (over_base v ss) t) = λ t.
    rw (held t) (times_once ss t (are.apart t)) in
    record {
      reached = record {
        ledger = record {
          plan = refl;
          some = some;
          within = λ t is. base_within v ss t are.each (sym (held t) ∙ is);
          base = are;
        };
        kept = are.each;
        apart = λ t. omega (arith, once t);
        doubtful = tt;
        frozen = λ _. refl;
        sent = omega arith;
      };
      once = λ t. rw (append-nil (pieces_of_slips ss)) (once t);
      first = refl;
    }

pub start_holds : (v : Values) → 0 < v.repeats → (size : ℕ) (journal : Bool) → Holds v (begun (start v size journal))
start_holds v some size journal = opened_holds v some journal [] size
    (record { each = tt; apart = λ t. omega arith })
