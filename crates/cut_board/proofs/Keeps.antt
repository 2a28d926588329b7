-- A board begins by its rule, and each step keeps it.
use Rattle.std.proofs.Common.{◌≡◌, ℕ, ◌+◌, ◌*◌, ◌<◌, ◌≤◌, List, [], ◌∷◌, ◌++◌, All, length, get_or, set}
use Rattle.std.proofs.Common.{replicate, slice_index, sum_by, sym, ap, ◌∙◌, arith}
use Rattle.std.proofs.Common.{length-set, append-nil}
use Rattle.std.specs.List.{range_with_len}
use mathlib.Core.Option.{some}
use lib.ListN.{get_elem?}
use Rattle.std.proofs.lemmas.List.{get_or-set_other, length-replicate}
use Rattle.std.proofs.lemmas.Grind.{get_or-set_at}
use Rattle.std.proofs.lemmas.List.Concat.{length-flat_map}
use Rattle.std.proofs.lemmas.List.Elements.{All-nil, All-cons, All-append, All-set}
use Rattle.std.proofs.lemmas.List.FromFn.{length-range_with_len}
use Rattle.std.proofs.lemmas.List.Sorted.{sum_by-IsPermutation, length_permutation}
use Rattle.std.proofs.lemmas.List.Sums.{sum_by-append, sum_by_push}
use Rattle.atomic_table.proofs.Lists.{set_else}
use Rattle.cut_lists.proofs.BitSets.{get_or-zeros}
use Rattle.cut_lists.proofs.Ranges.{range_with_len_more}
use Rattle.cut_board.specs.declared.view.Entry.{Entry}
use Rattle.cut_board.specs.declared.view.Entry.TheVariants as entry
use Rattle.cut_board.specs.declared.view.View.{View}
use Rattle.cut_board.specs.Rule.{seat_limit}
use Rattle.cut_board.specs.inside.Rule.{IsPossibleView, AreWordsOf, Kept}
use Rattle.cut_board.specs.Views.{drawn_of, counted_of, read_of, draws_of, amount_of, drawn_in}
use Rattle.cut_board.specs.Views.{draws_in, amount_in, drawn_by, counted_by, idle, entered}
use Rattle.cut_board.specs.inside.Views.{part_given, joined}
use Rattle.cut_board.specs.Words.{word_count}
use Rattle.cut_board.specs.inside.Words.{draw_word, count_word, draws_at, count_at}
use Rattle.cut_board.proofs.Lists.{sum_by_put, All-at, is_one, times, permutation_from_times}
use Rattle.cut_board.proofs.Logs.{greatest-append, total, times_of, times_drawn, length_is_part, count_is_part}
use Rattle.cut_board.proofs.Logs.{total_is_bounded}

-- ---- the words and the views

-- the numbers below a draw word
abbrev pub numbers_below : List ℕ → ℕ → List ℕ
numbers_below words k = range_with_len 0 (draws_at words k)

-- words and views to which the same is added
pub words_of_more : (words after : List ℕ) (views later : List View) → AreWordsOf words views
    → ((k x : ℕ) → total (times_of k x) later + times x (numbers_below words k)
    ≡ total (times_of k x) views + times x (numbers_below after k))
    → ((k : ℕ) → counted_by k later + count_at words k ≡ counted_by k views + count_at after k)
    → AreWordsOf after later
words_of_more words after views later are draws counts = record {
  drawn = λ k. permutation_from_times _ _ (λ x. omega (
    arith,
    times_drawn k x later,
    times_drawn k x views,
    draws k x,
    sum_by-IsPermutation (is_one x) _ _ (are.drawn k),
  ));
  counted = λ k. omega (arith, counts k, are.counted k);
}

-- ---- the first seat

pub idle_is_possible : (words : List ℕ) (parts : ℕ) → IsPossibleView words (idle parts)
idle_is_possible words parts = grind arith

pub begins : (studies seats : ℕ) → seats ≤ 129 → Kept studies seats (replicate (word_count studies) 0) (idle seats ∷ [])
begins studies seats few =
    grind (arith, length-replicate, get_or-zeros)

-- ---- one thing more is done

-- what is done to the words where an entry is added to a log
pub record Adds (words after : List ℕ) (e : Entry) : Type 0 where
  pub wide : length after ≡ length words
  pub drawn : (k : ℕ) → numbers_below after k ≡ numbers_below words k ++ drawn_of k e
  pub counted : (k : ℕ) → count_at after k ≡ count_at words k + counted_of k e
  pub read : (k : ℕ) → read_of k e ≤ count_at after k

-- a seat may do it
pub record HasRoom (v : View) (e : Entry) : Type 0 where
  pub one : v.parts ≡ 1
  pub draws : draws_in v + draws_of e ≤ seat_limit
  pub counts : amount_in v + amount_of e ≤ seat_limit

pub entered_keeps : (studies seats : ℕ) (words after : List ℕ) (views : List View) (id : ℕ) (v : View) (e : Entry)
    → Kept studies seats words views → get_elem? views id ≡ some v → Adds words after e → HasRoom v e
    → Kept studies seats after (set views id (entered v e))
entered_keeps studies seats words after views id v e kept at adds room =
    let was = All-at (IsPossibleView words) views id v at kept.sound in
    let more : (g : Entry → ℕ) → total g (set views id (entered v e)) ≡ total g views + g e =
    grind (arith, sum_by_put, sum_by_push) in
    record {
      few = kept.few;
      wide = adds.wide ∙ kept.wide;
      parts = omega (arith, kept.parts, sum_by_put (λ (u : View). u.parts) views id v (entered v e) at);
      done = words_of_more words after views (set views id (entered v e)) kept.done
          (λ k x. omega (
            arith,
            more (times_of k x),
            ap (times x) (adds.drawn k),
            sum_by-append (is_one x) (numbers_below words k) (drawn_of k e),
          ))
          (λ k. omega (arith, more (counted_of k), adds.counted k));
      sound = All-set (IsPossibleView after) views id (entered v e)
          record {
            read = λ k. omega (
              arith,
              greatest-append (read_of k) v.log (e ∷ []),
              was.read k,
              adds.counted k,
              adds.read k,
            );
            draws = omega (arith, sum_by_push draws_of v.log e, room.one, room.draws);
            counts = omega (arith, sum_by_push amount_of v.log e, room.one, room.counts);
          }
          (λ i d within.
          let old : IsPossibleView words (get_or views i d) = kept.sound i d within in
          record {
            read = λ k. omega (arith, old.read k, adds.counted k);
            draws = old.draws;
            counts = old.counts;
          });
    }

-- ---- a seat is split, and two are joined

moved_keeps : (studies seats : ℕ) (words : List ℕ) (views later : List View) → Kept studies seats words views
    → sum_by (λ v. v.parts) later ≡ sum_by (λ v. v.parts) views
    → ((g : Entry → ℕ) → total g later ≡ total g views) → All (IsPossibleView words) later
    → Kept studies seats words later
moved_keeps studies seats words views later kept parts same sound = record {
  few = kept.few;
  wide = kept.wide;
  parts = parts ∙ kept.parts;
  done = words_of_more words words views later kept.done (λ k x. omega (arith, same (times_of k x)))
      (λ k. omega (arith, same (counted_of k)));
  sound = sound;
}

pub split_keeps : (studies seats : ℕ) (words : List ℕ) (views : List View) (id : ℕ) (v : View)
    → Kept studies seats words views → get_elem? views id ≡ some v → v.log ≡ [] → 0 < v.parts
    → Kept studies seats words (set views id (part_given v) ++ idle 1 ∷ [])
split_keeps studies seats words views id v kept at none some_parts =
    let left : View = part_given v in
    let put : (f : View → ℕ) → sum_by f (set views id left ++ idle 1 ∷ []) + f v ≡ sum_by f views + f left + f (idle 1)
    = λ f. omega (arith, sum_by_put f views id v left at, sum_by_push f (set views id left) (idle 1)) in
    let was = All-at (IsPossibleView words) views id v at kept.sound in
    moved_keeps studies seats words views (set views id left ++ idle 1 ∷ []) kept
    (omega (arith, put (λ (u : View). u.parts)))
    (λ g. omega (arith, put (λ (u : View). sum_by g u.log)))
    (All-append (IsPossibleView words) (set views id left) (idle 1 ∷ [])
    (All-set (IsPossibleView words) views id left record {
      read = was.read;
      draws = omega (arith, ap (sum_by draws_of) none);
      counts = omega (arith, ap (sum_by amount_of) none);
    } kept.sound)
    (All-cons (IsPossibleView words) (idle 1) [] (idle_is_possible words 1) (All-nil (IsPossibleView words))))

pub join_keeps : (studies seats : ℕ) (words : List ℕ) (views : List View) (id other : ℕ) (v w : View)
    → Kept studies seats words views → get_elem? views id ≡ some v → ¬ (other ≡ id)
    → get_elem? (set views id (joined v w)) other ≡ some w
    → Kept studies seats words (set (set views id (joined v w)) other (idle 0))
join_keeps studies seats words views id other v w kept at apart there =
    let both : View = joined v w in
    let last : List View = set (set views id both) other (idle 0) in
    let put : (f : View → ℕ) → sum_by f last + f v + f w ≡ sum_by f views + f both + f (idle 0) =
    λ f. omega (arith, sum_by_put f views id v both at, sum_by_put f (set views id both) other w (idle 0) there) in
    let mine = All-at (IsPossibleView words) views id v at kept.sound in
    let there_before = sym (set_else views id other both apart) ∙ there in
    let theirs = All-at (IsPossibleView words) views other w there_before kept.sound in
    moved_keeps studies seats words views last kept
    (omega (arith, put (λ (u : View). u.parts)))
    (λ g. omega (arith, put (λ (u : View). sum_by g u.log), sum_by-append g w.log v.log))
    (All-set (IsPossibleView words) (set views id both) other (idle 0) (idle_is_possible words 0)
    (All-set (IsPossibleView words) views id both record {
      read = λ k. omega (arith, greatest-append (read_of k) w.log v.log, mine.read k, theirs.read k);
      draws = omega (arith, sum_by-append draws_of w.log v.log, mine.draws, theirs.draws);
      counts = omega (arith, sum_by-append amount_of w.log v.log, mine.counts, theirs.counts);
    } kept.sound))

-- ---- no word wraps

pub few_drawn : (studies seats : ℕ) (words : List ℕ) (views : List View) → Kept studies seats words views → (k : ℕ)
    → draws_at words k ≤ seats * seat_limit
few_drawn studies seats words views kept k =
    let long : length (drawn_by k views) ≡ total (λ e. length (drawn_of k e)) views =
    length-flat_map (drawn_in k) views ∙ (λ i. sum_by (λ (v : View). length-flat_map (drawn_of k) v.log i) views) in
    omega (
      arith,
      length_permutation _ _ (kept.done.drawn k),
      length-range_with_len 0 (draws_at words k),
      total_is_bounded (λ e. length (drawn_of k e)) draws_of views (length_is_part k)
          (λ i d within. (kept.sound i d within).draws),
      kept.parts,
    )

pub few_counted : (studies seats : ℕ) (words : List ℕ) (views : List View) → Kept studies seats words views → (k : ℕ)
    → count_at words k ≤ seats * seat_limit
few_counted studies seats words views kept k =
    grind (arith, total_is_bounded (counted_of k) amount_of views (count_is_part k))

-- ---- what each kind of step does to the words

-- one is added to a draw word
pub draw_adds : (words : List ℕ) (place study n m : ℕ) → place ≡ draw_word study → place < length words
    → n ≡ slice_index words place → m ≡ n + 1 → Adds words (set words place m) (entry.Drew study n)
draw_adds words place study n m is room here more =
    grind (arith, length-set, get_or-set_at, get_or-set_other, range_with_len_more, append-nil)

-- n is added to a count word
pub count_adds : (words : List ℕ) (place study n m : ℕ) → place ≡ count_word study → place < length words
    → m ≡ slice_index words place + n → Adds words (set words place m) (entry.Counted study n)
count_adds words place study n m is room more = grind (arith, length-set, get_or-set_other, append-nil, get_or-set_at)

-- a count word is read
pub read_adds : (words : List ℕ) (place study : ℕ) → place ≡ count_word study
    → Adds words words (entry.Read study (slice_index words place))
read_adds words place study is = grind (arith, append-nil)
