-- What the table asks of each step: whatever it is when the step is made, the rule is kept.
use Rattle.std.proofs.Common.{◌≡◌, ℕ, ◌+◌, ◌%◌, ◌^◌, ◌<◌, ◌≤◌, [], All, set, slice_index, refl, sym, ap, ◌∙◌, subst}
use Rattle.std.proofs.Common.{arith, mod-eq_of_lt}
use mathlib.Core.Option.{none}
use Rattle.std.proofs.lemmas.List.{set-get_or}
use Rattle.std.proofs.lemmas.List.Sorted.{All-permutation}
use Rattle.std.proofs.lemmas.List.Sums.{get_or-le-sum_by, sum_by_push}
use Rattle.atomic_table.specs.Table.{State, Me, keeps, step, Allows, Splits, Joins}
use Rattle.cut_lists.proofs.Orders.{range_is_below}
use Rattle.cut_board.specs.declared.view.Entry.{Entry}
use Rattle.cut_board.specs.declared.view.Entry.TheVariants as entry
use Rattle.cut_board.specs.declared.view.View.{View}
use Rattle.cut_board.specs.Rule.{seat_limit}
use Rattle.cut_board.specs.inside.Rule.{IsPossibleView, Kept}
use Rattle.cut_board.specs.inside.Steps.{HasDoneMore, Drawing, Counting, Reading}
use Rattle.cut_board.specs.Views.{draws_of, amount_of, drawn_in, draws_in, amount_in, counted_in, seen_in, idle}
use Rattle.cut_board.specs.Views.{entered, drew, counted, read}
use Rattle.cut_board.specs.inside.Views.{part_given, joined}
use Rattle.cut_board.specs.inside.Words.{draw_word, count_word, draws_at, count_at}
use Rattle.cut_board.proofs.Additions.{reads_new}
use Rattle.cut_board.proofs.Lists.{at_place, All-at, All-piece}
use Rattle.cut_board.proofs.Keeps.{entered_keeps, split_keeps, join_keeps, few_drawn, few_counted, draw_adds}
use Rattle.cut_board.proofs.Keeps.{count_adds, read_adds}

module _ {S : Type 0} where
  -- the rule, of a table
  abbrev pub Holds : ℕ → ℕ → State S View → Type 0
  Holds studies seats s = Kept studies seats s.words s.views

  more_done : (me : Me S View) (e : Entry) → HasDoneMore (draws_of e) (amount_of e) me (entered me.0 e, me.1)
  more_done me e = record {
    slots = refl;
    parts = refl;
    draws_are = sum_by_push draws_of me.0.log e;
    amount_is = sum_by_push amount_of me.0.log e;
  }

  pub draw_allowed : (studies seats slots id place study : ℕ) (me : Me S View) → place ≡ draw_word study
      → study < studies → me.0.parts ≡ 1 → draws_in me.0 < seat_limit → amount_in me.0 ≤ seat_limit
      → Allows (Holds studies seats) slots id me place (λ n. (n + 1) % 2 ^ 64) (Drawing (step slots place 1 0 none) me)
  draw_allowed studies seats slots id place study me is within one draws counts s kept _ at _ =
      let n : ℕ = slice_index s.words place in
      let here : n ≡ draws_at s.words study = ap (slice_index s.words) is in
      let few = few_drawn studies seats s.words s.views kept study in
      let most = kept.few in
      let w : View = drew me.0 study n in (
        w,
        keeps,
        tt,
        entered_keeps studies seats s.words _ s.views id me.0 (entry.Drew study n) kept at
            (draw_adds s.words place study n _ is (omega (arith, kept.wide)) refl (mod-eq_of_lt (omega arith)))
            record { one = one; draws = omega arith; counts = omega arith },
        (
          more_done me (entry.Drew study n),
          λ k e.
              let j : study ≡ k = omega arith in (
                ap (λ j. drew me.0 j n) j,
                subst (λ m. All (λ d. d < m) (drawn_in k me.0)) (sym (ap (slice_index s.words) e))
                    (All-piece (λ d. d < draws_at s.words k) (drawn_in k) s.views id me.0 at
                    (All-permutation (λ d. d < draws_at s.words k) _ _ (kept.done.drawn k)
                    (range_is_below (draws_at s.words k)))),
              ),
        ),
      )

  pub count_allowed : (studies seats slots id place study n : ℕ) (me : Me S View) → place ≡ count_word study
      → study < studies → me.0.parts ≡ 1 → draws_in me.0 ≤ seat_limit → amount_in me.0 + n ≤ seat_limit
      → Allows (Holds studies seats) slots id me place (λ m. (m + n) % 2 ^ 64) (Counting (step slots place n 0 none) me)
  count_allowed studies seats slots id place study n me is within one draws counts s kept _ at _ =
      let m : ℕ = slice_index s.words place in
      let here : m ≡ count_at s.words study = ap (slice_index s.words) is in
      let few = few_counted studies seats s.words s.views kept study in
      let most = kept.few in
      let w : View = counted me.0 study n in (
        w,
        keeps,
        tt,
        entered_keeps studies seats s.words _ s.views id me.0 (entry.Counted study n) kept at
            (count_adds s.words place study n _ is (omega (arith, kept.wide)) (mod-eq_of_lt (omega arith)))
            record { one = one; draws = omega arith; counts = omega arith },
        (more_done me (entry.Counted study n), λ k e. ap (λ j. counted me.0 j n) (omega arith)),
      )

  pub read_allowed : (studies seats slots id place study : ℕ) (me : Me S View) → place ≡ count_word study
      → study < studies → me.0.parts ≡ 1 → draws_in me.0 ≤ seat_limit → amount_in me.0 ≤ seat_limit
      → Allows (Holds studies seats) slots id me place (λ n. n) (Reading (step slots place 0 0 none) me)
  unfolding seen_in
  read_allowed studies seats slots id place study me is within one draws counts s kept _ at _ =
      let n : ℕ = slice_index s.words place in
      let w : View = read me.0 study n in (
        w,
        keeps,
        tt,
        subst (λ words. Kept studies seats words (set s.views id w)) (sym (set-get_or s.words place 0))
            (entered_keeps studies seats s.words s.words s.views id me.0 (entry.Read study n) kept at
            (read_adds s.words place study is)
            record { one = one; draws = omega arith; counts = omega arith }),
        (
          more_done me (entry.Read study n),
          λ k e.
              let j : study ≡ k = omega arith in
              let here : n ≡ count_at s.words k = ap (slice_index s.words) e in
              let was = All-at (IsPossibleView s.words) s.views id me.0 at kept.sound in
              let place = at_place s.views id me.0 me.0 at in
              let rises : seen_in k me.0 ≤ n =
              omega (
                arith,
                was.read k,
                kept.done.counted k,
                ap (counted_in k) place.1,
                get_or-le-sum_by (counted_in k) s.views id me.0 place.0,
              ) in
              let same : read me.0 study n ≡ read me.0 k n = ap (λ j. read me.0 j n) j in
              (same, rises, reads_new me.0 k n rises ∙ ap (seen_in k) (sym same)),
        ),
      )

  pub split_allowed : (studies seats id : ℕ) (v : View) → v.log ≡ [] → 0 < v.parts
      → Splits (Holds studies seats) id v (part_given v) (idle 1)
  split_allowed studies seats id v undone some_parts s kept at =
      split_keeps studies seats s.words s.views id v kept at undone some_parts

  pub join_allowed : (studies seats id other : ℕ) (v w : View) → Joins (Holds studies seats) id v other w
      (joined v w) (idle 0)
  join_allowed studies seats id other v w s kept at apart there =
      join_keeps studies seats s.words s.views id other v w kept at apart there
