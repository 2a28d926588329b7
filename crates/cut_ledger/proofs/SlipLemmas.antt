-- Good slips, and what is held where slips are.
use Rattle.std.proofs.Common.{◌≡◌, ℕ, ◌+◌, ◌-◌, ◌*◌, ◌/◌, ◌<◌, Bool, true, false, ◌||◌, List, [], ◌∷◌, ◌++◌}
use Rattle.std.proofs.Common.{length, take, get_or, sym, ap, ◌∙◌, arith}
use Rattle.std.proofs.lemmas.List.{ext_get_or, get_or_default}
use Rattle.std.proofs.lemmas.List.FromFn.{length-map-range_with_len}
use Rattle.cut_lists.proofs.Intervals.{within_is}
use Rattle.cut_lists.proofs.Ranges.{list_any_agree}
use Rattle.cut_outcome.specs.Outcome.{cell_at}
use Rattle.cut_sets.specs.ranges.Held as held
use Rattle.cut_ledger.specs.inside.HeldTrials.{HoldsExactly}
use Rattle.cut_ledger.proofs.Words.{AreGood, AreGoodUpTo, AreOver, ArePossible, IsAdded, IsAtMost, IsFirstBad}
use Rattle.cut_ledger.proofs.Words.{IsGood, IsTrue, Piece, Slip, Totals, Values, contents_in, is_in, is_in_base}
use Rattle.cut_ledger.proofs.Words.{is_piece}
use Rattle.cut_ledger.proofs.Words.{list_any, over_base, overlaps, trial_count, trials_in, ◌↔◌}
use Rattle.cut_ledger.proofs.CellLemmas.{has_where}
use Rattle.cut_ledger.proofs.Law.{piece_within}
use Rattle.cut_ledger.proofs.AddLemmas.{Adding, added_is, slip_kept, in_base_more}

-- ---- one slip

pub apart_is : (v : Values) (earlier : List Slip) (trials : held.Held) (p : Piece) → HoldsExactly trials earlier
    → list_any (is_in_base earlier) (trials_in p) ≡ list_any (held.has trials) (trials_in p)
apart_is v earlier trials p exactly =
    grind arith

pub good_is : (v : Values) (earlier : List Slip) (trials : held.Held) (s : Slip) (possible : Bool)
    → HoldsExactly trials earlier → IsTrue (is_piece v s.piece) → list_any (held.has trials) (trials_in s.piece)
    ≡ false → (IsTrue possible ↔ ArePossible v (cell_at v s.piece.first) s.piece.count s.totals) → IsTrue possible
    ↔ IsGood v earlier s
good_is v earlier trials s possible exactly piece apart reported = grind arith

pub not_good : (v : Values) (earlier : List Slip) (trials : held.Held) (s : Slip) → HoldsExactly trials earlier
    → list_any (held.has trials) (trials_in s.piece) ≡ true → IsGood v earlier s → ⊥
not_good v earlier trials s exactly meets good =
    grind arith

-- of good slips none is the first that is not
pub none_bad : (v : Values) (ss : List Slip) (n : ℕ) → AreGood v ss → IsFirstBad v ss n → ⊥
none_bad v [] n good first = omega (arith, first.numbered, first.within)
none_bad v (s ∷ ss) n good first =
    let within : n - 1 < length (s ∷ ss) = omega (arith, first.numbered, first.within) in
    first.bad s (good (n - 1) s within within)

-- ---- one slip more

pub over_more : (v : Values) (slips : List Slip) (old new : held.Held) (olds news : List Totals) (s : Slip)
    → AreOver v slips old olds → IsGood v slips s → IsAtMost (2048 * s.piece.count) s.totals
    → IsAdded old new olds news (s.piece.first / v.repeats) s.piece s.totals → AreOver v (slips ++ s ∷ []) new news
over_more v slips old new olds news s over good few to =
    let adding : Adding v slips old new olds news s.piece s.totals = record {
      kept = over.kept;
      piece = good.piece;
      apart = sym (apart_is v slips old s.piece over.exactly) ∙ good.apart;
      few = few;
      added = to;
    } in
    let known = added_is v slips old new olds news s.piece s.totals adding in
    record {
      kept = slip_kept v slips old new olds news s adding;
      exactly = λ t. known.more.same t ∙ ap (λ b. b || is_in s.piece t) (over.exactly t) ∙ sym (in_base_more slips s t);
    }

pub good_more : (v : Values) (slips : List Slip) (i : ℕ) (d : Slip) → i < length slips → AreGoodUpTo v slips i
    → IsGood v (take i slips) (get_or slips i d) → AreGoodUpTo v slips (i + 1)
good_more v slips i d in' earlier good j e low within = grind (arith, get_or_default)

-- ---- the contents of what holds exactly slips

pub over_contents : (v : Values) (slips : List Slip) (trials : held.Held) (sums : List Totals)
    → AreOver v slips trials sums → contents_in v slips trials ≡ over_base v slips
over_contents v slips trials sums over =
    let long : length trials.held ≡ length (over_base v slips).held = over.kept.all
    ∙ sym (length-map-range_with_len (is_in_base slips) 0 (trial_count v)) in
    ap (λ (held : List Bool). record { plan = v; base = slips; held = held })
    (ext_get_or false trials.held (over_base v slips).held long
    (λ t low. over.exactly t ∙ sym (has_where v slips (is_in_base slips) t (omega (arith, over.kept.all)))))

-- what it holds of a piece of the plan is what the slips have of it
pub meet_in_ledger : (v : Values) (ss : List Slip) (p : Piece) → IsTrue (is_piece v p)
    → list_any (is_in_base ss) (trials_in p) ≡ overlaps (over_base v ss) p
meet_in_ledger v ss p piece = search (arith, list_any_agree, has_where, piece_within, within_is)
