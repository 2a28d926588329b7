-- What one seat knows that took in all others, and what the words of a board then say.
use Rattle.std.proofs.Common.{◌≡◌, ℕ, zero, suc, ◌<◌, ◌≤◌, List, [], ◌∷◌, length, map, get_or}
use Rattle.std.proofs.Common.{flat_map, sym, ap, ◌∙◌, subst, arith}
use Rattle.std.specs.List.{range_with_len}
use mathlib.Core.Option.{some}
use lib.ListN.{get_elem?}
use Rattle.std.proofs.lemmas.List.FromFn.{length-range_with_len}
use Rattle.std.proofs.lemmas.List.Sorted.{length_permutation}
use Rattle.std.proofs.lemmas.List.Sums.{get_or-le-sum_by}
use Rattle.atomic_table.specs.Table.{Final, Seen}
use Rattle.cut_board.specs.declared.view.Entry.{Entry}
use Rattle.cut_board.specs.declared.view.View.{View}
use Rattle.cut_board.specs.inside.Closed.{words_of_study}
use Rattle.cut_board.specs.Rule.{IsEachBelow}
use Rattle.cut_board.specs.inside.Rule.{AreWordsOf, Kept}
use Rattle.cut_board.specs.Totals.{totals_of, IsDrawnOnce, HasSeenNoMore}
use Rattle.cut_board.specs.Views.{counted_of, draws_of, amount_of, greatest, drawn_by}
use Rattle.cut_board.specs.Views.{seen_in}
use Rattle.cut_board.specs.inside.Views.{gathered}
use Rattle.cut_board.specs.inside.Words.{draws_at}
use Rattle.cut_board.proofs.Lists.{at_place, sum_by_flat_map}
use Rattle.cut_board.proofs.Logs.{greatest-append, total, times_of, times_are_part, count_is_part, AreWithin}
use Rattle.cut_board.proofs.Logs.{total_is_its_own}
use Rattle.cut_board.proofs.Keeps.{words_of_more}
use Rattle.cut_board.proofs.Allowed.{Holds}

-- ---- seats taken in, one after another

-- one has read no more than all
read_among : (f : Entry → ℕ) (views : List View) (i : ℕ) (d : View) → i < length views
    → greatest f (get_or views i d).log ≤ greatest f (flat_map (λ v. v.log) views)
read_among f [] i d within = absurd (omega arith)
read_among f (v ∷ views) zero d within = omega (arith, greatest-append f v.log (flat_map (λ v. v.log) views))
read_among f (v ∷ views) (suc i) d within =
    omega (arith, greatest-append f v.log (flat_map (λ v. v.log) views), read_among f views i d (omega arith))

-- ---- a seat with all parts has done all that was done

-- the end of a board whose seats had done this
pub record IsEnd (seats : ℕ) (given : List View) (words : List ℕ) : Type 0 where
  pub many : length given ≡ seats
  pub done : AreWordsOf words given
  pub seen : (study : ℕ) → HasSeenNoMore given study

pub ends : (studies seats : ℕ) (words : List ℕ) (views : List View) (id : ℕ) (given : List View)
    → Kept studies seats words views → get_elem? views id ≡ some (gathered given) → seats ≤ length given
    → IsEnd seats given words
unfolding seen_in
ends studies seats words views id given kept at whole =
    let place = at_place views id (gathered given) (gathered given) at in
    let own : (g f : Entry → ℕ) → ((e : Entry) → g e ≤ f e) → AreWithin f views → total g given ≡ total g views =
    λ g f part all.
    sym (total_is_its_own g f views id (gathered given) at part all (omega (arith, kept.parts))
    ∙ sum_by_flat_map g (λ (v : View). v.log) given) in
    let draws : AreWithin draws_of views = λ i d within. (kept.sound i d within).draws in
    let counts : AreWithin amount_of views = λ i d within. (kept.sound i d within).counts in
    let done : AreWordsOf words given =
    words_of_more words words views given kept.done
    (λ k x. omega (arith, own (times_of k x) draws_of (times_are_part k x) draws))
    (λ k. omega (arith, own (counted_of k) amount_of (count_is_part k) counts)) in
    grind (arith, get_or-le-sum_by, read_among)

-- the end, from what closing a table shows
pub ends_closed : {S : Type 0} (studies seats : ℕ) (words : List ℕ) (slots : List S) (id : ℕ) (v : View)
    (given : List View) → Final (Seen (Holds studies seats) id v) words slots → v ≡ gathered given
    → seats ≤ length given → IsEnd seats given words
ends_closed studies seats words slots id v given (s, seen, same, rest, homes) is whole =
    subst (IsEnd seats given) same (ends studies seats s.words s.views id given seen.0 (seen.1 ∙ ap some is) whole)

-- ---- what is reported

draws_shown : (given : List View) (words : List ℕ) → AreWordsOf words given → (study : ℕ)
    → length (drawn_by study given) ≡ draws_at words study
draws_shown given words done study =
    length_permutation _ _ (done.drawn study) ∙ length-range_with_len 0 (draws_at words study)

pub drawn_once : (given : List View) (words : List ℕ) → AreWordsOf words given → (study : ℕ) → IsDrawnOnce given study
drawn_once given words done study =
    subst (λ n. IsEachBelow n (drawn_by study given)) (sym (draws_shown given words done study)) (done.drawn study)

pub reported : (studies : ℕ) (given : List View) (words : List ℕ) → AreWordsOf words given
    → map (words_of_study words) (range_with_len 0 studies) ≡ totals_of studies given
reported studies given words done =
    grind (arith, draws_shown)
