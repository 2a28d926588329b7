-- When lists give each process one role, and the test for it.
use Rattle.std.proofs.Common.{◌≡◌, ◌≢◌, ℕ, ◌+◌, ◌<◌, ◌==◌, ◌&&◌, Bool, true, not, List, ◌++◌, map, length, nat_lt}
use Rattle.std.proofs.Common.{nat_le, ap, sym, ◌∙◌, zero-add, arith}
use Rattle.std.specs.Prelude.{◌↔◌}
use Rattle.std.specs.List.{count_by, range_with_len}
use Rattle.std.proofs.lemmas.Bool.{ltb-true, leb-true, lt-ltb, le-leb, ne_eqb, not_from_false}
use Rattle.std.proofs.lemmas.Bool.{and_parts, and_from}
use Rattle.std.proofs.lemmas.List.Elements.{All-weaker}
use Rattle.std.proofs.lemmas.List.Sums.{sum_by-append, AllPass-from_list_all, list_all-from_AllPass}
use Rattle.std.proofs.lemmas.List.Folds.{list_all-append, list_all-map}
use Rattle.std.proofs.lemmas.List.FromFn.{length-range_with_len, get_or-range_with_len}
use Rattle.cut_lists.proofs.Maps.{count_by-map}
use Rattle.cut_alerts.specs.Given.{all_named, times_named}
use Rattle.cut_alerts.specs.inside.Given.{are_below, are_sources, are_named_once, are_links, is_legal}
use Rattle.cut_alerts.specs.Given.{AreLegalLists}

-- how often a process is named: how often in each list
pub times_named-lists : (crashed deaf liars : List ℕ) (links : List (ℕ × ℕ)) (p : ℕ)
    → times_named (crashed ++ deaf) liars links p
    ≡ count_by (λ q. q == p) crashed + count_by (λ q. q == p) deaf + count_by (λ q. q == p) liars
    + count_by (λ l. l.0 == p) links
times_named-lists crashed deaf liars links p =
    grind (arith, sum_by-append, count_by-map)

pub legal : (n : ℕ) (targets liars : List ℕ) (links : List (ℕ × ℕ)) → (is_legal n targets liars links ≡ true)
    ↔ AreLegalLists n targets liars links
legal n targets liars links = (to, from)
  where
    once : ℕ → Bool
    once p = nat_le (times_named targets liars links p) 1

    link : ℕ × ℕ → Bool
    link l = nat_lt l.1 n && not (l.0 == l.1)

    sources : List ℕ
    sources = map (λ l. l.0) links

    all_below : are_below n (all_named targets liars links)
        ≡ (are_below n targets && are_below n liars && are_sources n links)
    all_below =
        grind (arith, list_all-append, list_all-map)

    to : is_legal n targets liars links ≡ true → AreLegalLists n targets liars links
    to passes =
        let ends = and_parts (are_below n targets && are_below n liars && are_sources n links
        && are_named_once n targets liars links) (are_links n links) passes in
        let named = and_parts (are_below n targets && are_below n liars && are_sources n links)
        (are_named_once n targets liars links) ends.0 in
        let long : length (range_with_len 0 n) ≡ n = length-range_with_len 0 n in
        record {
          in_range = All-weaker (λ p. nat_lt p n ≡ true) (λ p. p < n) (λ p below. ltb-true p n below)
              (all_named targets liars links) (AllPass-from_list_all (λ p. nat_lt p n) (all_named targets liars links)
              (all_below ∙ named.0));
          once = λ p below.
              leb-true (times_named targets liars links p) 1
              (ap once (sym (get_or-range_with_len 0 n p 0 below ∙ zero-add p))
              ∙ AllPass-from_list_all once (range_with_len 0 n) named.1 p 0 (omega arith));
          linked = grind (arith, AllPass-from_list_all);
        }

    from : AreLegalLists n targets liars links → is_legal n targets liars links ≡ true
    from is =
        let long : length (range_with_len 0 n) ≡ n = length-range_with_len 0 n in
        let below = list_all-from_AllPass (λ p. nat_lt p n) (all_named targets liars links)
        (All-weaker (λ p. p < n) (λ p. nat_lt p n ≡ true) (λ p below. lt-ltb p n below)
        (all_named targets liars links) is.in_range) in
        let named = list_all-from_AllPass once (range_with_len 0 n) (λ p d within.
        ap once (get_or-range_with_len 0 n p d (omega arith) ∙ zero-add p)
        ∙ le-leb (times_named targets liars links p) 1 (is.once p (omega arith))) in
        let linked = list_all-from_AllPass link links
        (All-weaker (λ l. (l.1 < n) × (l.0 ≢ l.1)) (λ l. link l ≡ true) (λ l ends.
        and_from (nat_lt l.1 n) (not (l.0 == l.1)) (lt-ltb l.1 n ends.0)
        (not_from_false (l.0 == l.1) (ne_eqb l.0 l.1 ends.1))) links is.linked) in
        and_from (are_below n targets && are_below n liars && are_sources n links
        && are_named_once n targets liars links) (are_links n links)
        (and_from (are_below n targets && are_below n liars && are_sources n links)
        (are_named_once n targets liars links) (sym all_below ∙ below) named) linked
