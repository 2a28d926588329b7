-- Passes that are taken apart.
use Rattle.std.proofs.Common.{◌≡◌, ℕ, ◌+◌, ◌∙◌, List, [], ◌∷◌, ◌++◌, map, refl, ap, arith, length-append}
use Rattle.std.proofs.lemmas.List.Sums.{sum_by-cons, sum_by_push}
use Rattle.cut_board.specs.declared.seat.Seat.{Seat}
use Rattle.cut_board.specs.Names.{view_of, views_of}
use Rattle.cut_board.specs.Views.{counted_in, counted_by}
use Rattle.cut_slots.specs.Closing.{IsTakenApart}
use Rattle.cut_slots.specs.Pass.{Holding}

map_push : (seats : List Seat) (s : Seat) → views_of (seats ++ s ∷ []) ≡ views_of seats ++ view_of s ∷ []
map_push [] s = refl
map_push (x ∷ seats) s = ap (λ vs. view_of x ∷ vs) (map_push seats s)

pub one_apart : (p : Holding) (s : Seat) (parts amount : ℕ) → view_of s ≡ p.view → parts ≡ 1 → amount ≡ p.made
    → IsTakenApart (p ∷ []) (s ∷ []) parts amount
one_apart p s parts amount view one made = grind arith

pub one_more_apart : (ps : List Holding) (seats : List Seat) (p : Holding) (s : Seat) (parts amount now more : ℕ)
    → view_of s ≡ p.view → now ≡ parts + 1 → more ≡ amount + p.made → IsTakenApart ps seats parts amount
    → IsTakenApart (p ∷ ps) (seats ++ s ∷ []) now more
one_more_apart ps seats p s parts amount now more view one made apart = record {
  many = omega (arith, length-append seats (s ∷ []), apart.many);
  counted = λ study. ap (counted_by study) (map_push seats s)
      ∙ sum_by_push (counted_in study) (views_of seats) (view_of s)
      ∙ (let first = sum_by-cons (counted_in study) p.view (map (λ (q : Holding). q.view) ps) in
      let same = ap (λ v. counted_in study v) view in
      let rest = apart.counted study in omega (arith, first, same, rest));
  parts_are = omega (arith, one, apart.parts_are);
  amount_is = omega (arith, made, apart.amount_is, sum_by-cons (λ (q : Holding). q.made) p ps);
}
