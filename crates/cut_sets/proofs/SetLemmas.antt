-- Numbers and their sections: what is held, and a span that is put into one.
use Rattle.std.proofs.Common.{◌≡◌, ◌∙◌, ℕ, ◌+◌, ◌*◌, ◌-◌, ◌/◌, ◌%◌, ◌<◌, ◌≤◌, inl, inr, Bool, true, false, ◌||◌, List}
use Rattle.std.proofs.Common.{[], All, map, length, get_or, set, replicate, min, refl, ap, sym, subst, arith}
use Rattle.std.specs.Int.{div_ceil}
use Rattle.std.specs.List.{range_with_len}
use Rattle.std.proofs.Math.Bool.{or-false}
use Rattle.std.proofs.lemmas.Bool.{cases_eq, cases_lt}
use Rattle.std.proofs.lemmas.List.{ext_get_or, get_or-replicate, get_or_past, get_or-set_same, get_or-set_other}
use Rattle.std.proofs.lemmas.List.{length-replicate, length-set, length-map, map-set}
use Rattle.std.proofs.lemmas.List.FromFn.{get_or-map-range_with_len, length-map-range_with_len}
use Rattle.cut_lists.proofs.Intervals.{map_agree}
use Rattle.cut_lists.proofs.Ranges.{none_passing}
use Rattle.cut_sets.specs.declared.ranges.run.Run.{Run}
use Rattle.cut_sets.specs.declared.ranges.span.Span.{Span}
use Rattle.cut_sets.specs.ranges.inside.Blocks.{Blocks, is_at}
use Rattle.cut_sets.specs.ranges.inside.Edges.{IsRun, is_within, is_between, flipped}
use Rattle.cut_sets.specs.ranges.Held.{IsOfSection, has, overlaps, with_span}
use Rattle.cut_sets.specs.ranges.inside.SetInside.{no_blocks, section_at, is_held, held_in}
use Rattle.cut_sets.specs.ranges.Spans.{is_in}

-- ---- numbers of a section

-- the number of a place in a section
pub record IsPlace (l c p t : ℕ) : Type 0 where
  pub section : t / l ≡ c
  pub place : t % l ≡ p

pub at_place : (l c p t : ℕ) → p < l → t ≡ c * l + p → IsPlace l c p t
at_place l c p t low is = grind arith

pub record IsNumber (l n t : ℕ) : Type 0 where
  pub is : t ≡ t / l * l + t % l
  pub place : t % l < l
  pub section : t / l < n
  pub end : t / l * l + l ≤ n * l

pub number : (l n t : ℕ) → 0 < l → t < n * l → IsNumber l n t
number l n t some low =
    grind arith

-- ---- what is held

pub has_is : (l : ℕ) (ss : List Blocks) (t : ℕ) → t < length ss * l → has (held_in l ss) t ≡ is_held l ss t
has_is l ss t low = get_or-map-range_with_len (is_held l ss) 0 (length ss * l) t t false low (omega arith)

pub length_is : (l : ℕ) (ss : List Blocks) → length (held_in l ss).held ≡ length ss * l
length_is l ss = length-map-range_with_len (is_held l ss) 0 (length ss * l)

-- the blocks of a section that there is
pub block_of : (l : ℕ) (ss : List Blocks) (c p : ℕ) → All (λ s. length s.blocks ≡ div_ceil l 65536) ss → c < length ss
    → p < l → p / 65536 < length (section_at ss c).blocks
block_of l ss c p long in' low =
    grind arith

-- up to the end of a run of its section, or of the section
pub run_in : (l : ℕ) (ss : List Blocks) (t : ℕ) (r : Run) (s : Blocks) → 0 < l → t < length ss * l → s
    ≡ section_at ss (t / l) → IsRun (is_at s.blocks) (t % l) r
    → IsRun (has (held_in l ss)) t (record { held = r.held; end = t - t % l + min r.end l })
run_in l ss t r s some low same its =
    let run : IsRun (is_at (section_at ss (t / l)).blocks) (t % l) r = subst (λ x. IsRun (is_at x.blocks) (t % l) r)
    same its in
    let at = number l (length ss) t some low in
    let is = at.is in
    let below = at.place in
    let ends = at.end in
    let longer = run.longer in
    record {
      longer = omega arith;
      lasts = λ u from to.
          (let p : ℕ = t % l + (u - t) in
          let there = at_place l (t / l) p u (omega arith) (omega arith) in
          has_is l ss u (omega arith)
          ∙ ap (λ c. is_at (section_at ss c).blocks (u % l)) there.section
          ∙ ap (is_at (section_at ss (t / l)).blocks) there.place
          ∙ run.lasts p (omega arith) (omega arith));
    }

-- ---- a set without numbers

pub none_held : (l n : ℕ) (ss : List Blocks) → length ss ≡ n
    → ((c : ℕ) → c < n → (section_at ss c).blocks ≡ replicate (div_ceil l 65536) []) → (held_in l ss).held
    ≡ replicate (n * l) false
none_held l n ss long none =
    let size : length (held_in l ss).held ≡ n * l = length_is l ss ∙ ap (λ k. k * l) long in
    ext_get_or false (held_in l ss).held (replicate (n * l) false)
    (size ∙ sym (length-replicate {A = Bool} (n * l) false)) (λ t low.
    has_is l ss t (omega (arith, low, length_is l ss))
    ∙ nothing (t / l) (t % l)
    ∙ sym (get_or-replicate {A = Bool} (n * l) t false false (omega (arith, low, size))))
  where
    empty : (m k : ℕ) → get_or (replicate {A = List ℕ} m []) k [] ≡ []
    empty m k = grind (arith, get_or-replicate, get_or_past, length-replicate)

    nothing : (c p : ℕ) → is_at (section_at ss c).blocks p ≡ false
    nothing c p = elim (cases_lt c n) [
      | inl low ↦ ap (λ bs. is_at bs p) (none c low) ∙ ap (λ xs. is_within xs p) (empty (div_ceil l 65536) (p / 65536))
      | inr high ↦ ap (λ (s : Blocks). is_at s.blocks p) (get_or_past ss c no_blocks (omega (arith, long)))
    ]

-- ---- one section that is changed

-- in which sections there is room
abbrev pub rooms : List Blocks → List Bool
rooms ss = map (λ s. s.room) ss

pub others_stay : (ss : List Blocks) (c : ℕ) (s : Blocks) → c < length ss → rooms (set ss c s)
    ≡ set (rooms ss) c (get_or (rooms (set ss c s)) c false)
others_stay ss c s within =
    grind (arith, map-set, length-map, get_or-set_same)

-- where its numbers stay
pub held_stays : (l : ℕ) (ss : List Blocks) (c : ℕ) (s : Blocks) → c < length ss → s.blocks ≡ (section_at ss c).blocks
    → (held_in l (set ss c s)).held ≡ (held_in l ss).held
held_stays l ss c s in' same =
    grind (arith, length-set, get_or-set_same, get_or-set_other)

-- a span of a section, by places
pub record AreIn (l : ℕ) (ss : List Blocks) (p : Span) : Type 0 where
  pub some : 0 < p.count
  pub within : p.first / l < length ss
  pub is : p.first ≡ p.first / l * l + p.first % l
  pub end : p.first % l + p.count ≤ l
  pub last : p.first / l * l + l ≤ length ss * l

pub are_in : (l : ℕ) (ss : List Blocks) (p : Span) → 0 < l → IsOfSection (held_in l ss) p → AreIn l ss p
are_in l ss p some of =
    grind (arith, length_is)

-- what a number is in, and the place of that number
in_place : (l c t : ℕ) (p : Span) → p.first ≡ c * l + p.first % l → t / l ≡ c → t ≡ t / l * l + t % l
    → is_between (p.first % l) (p.first % l + p.count) (t % l) ≡ is_in p t
in_place l c t p first own is =
    grind arith

-- where none of its numbers was there, they are now, and all others are as before
pub span_put : (l : ℕ) (ss : List Blocks) (s : Blocks) (p : Span) → 0 < l → IsOfSection (held_in l ss) p
    → overlaps (held_in l ss) p ≡ false → ((t : ℕ) → is_at s.blocks t
    ≡ flipped (is_between (p.first % l) (p.first % l + p.count) t) (is_at (section_at ss (p.first / l)).blocks t))
    → (held_in l (set ss (p.first / l) s)).held ≡ with_span (held_in l ss) p
span_put l ss s p some of apart turned =
    ap (λ n. map (is_held l (set ss (p.first / l) s)) (range_with_len 0 (n * l))) (length-set ss (p.first / l) s)
    ∙ map_agree (is_held l (set ss (p.first / l) s)) (λ t. has (held_in l ss) t || is_in p t) 0 (length ss * l)
    (λ t _ low. by t (omega arith))
    ∙ ap (λ n. map (λ t. has (held_in l ss) t || is_in p t) (range_with_len 0 n)) (sym (length_is l ss))
  where
    facts : AreIn l ss p
    facts = are_in l ss p some of

    free : (b old : Bool) → (b ≡ true → old ≡ false) → flipped b old ≡ (old || b)
    free true old e = ap (flipped true) (e refl) ∙ sym (ap (λ x. x || true) (e refl))
    free false old e = sym (or-false old)

    clear : (t : ℕ) → is_in p t ≡ true → has (held_in l ss) t ≡ false
    clear t e = grind (arith, none_passing (has (held_in l ss)) p.first p.count t apart)

    out : (t : ℕ) → (t / l ≡ p.first / l → ⊥) → is_in p t ≡ false
    out t other = grind (arith, at_place l (p.first / l) (p.first % l + (t - p.first)) t)

    by : (t : ℕ) → t < length ss * l → is_held l (set ss (p.first / l) s) t ≡ (has (held_in l ss) t || is_in p t)
    by t low = elim (cases_eq (t / l) (p.first / l)) [
      | inl own ↦
          ap (λ c. is_at (section_at (set ss (p.first / l) s) c).blocks (t % l)) own
          ∙ ap (λ (x : Blocks). is_at x.blocks (t % l)) (get_or-set_same ss (p.first / l) s no_blocks facts.within)
          ∙ turned (t % l)
          ∙ ap (λ b. flipped b (is_at (section_at ss (p.first / l)).blocks (t % l)))
          (in_place l (p.first / l) t p facts.is own (number l (length ss) t some low).is)
          ∙ ap (flipped (is_in p t)) (ap (λ c. is_at (section_at ss c).blocks (t % l)) (sym own)
          ∙ sym (has_is l ss t low))
          ∙ free (is_in p t) (has (held_in l ss) t) (clear t)
      | inr other ↦
          ap (λ (x : Blocks). is_at x.blocks (t % l)) (get_or-set_other ss (p.first / l) (t / l) s no_blocks other)
          ∙ sym (has_is l ss t low)
          ∙ sym (ap (λ b. has (held_in l ss) t || b) (out t other) ∙ or-false (has (held_in l ss) t))
    ]

-- room made in a section
pub reserved_is : (l : ℕ) (ss : List Blocks) (c : ℕ) (s : Blocks) → c < length ss → s
    ≡ record { blocks = (section_at ss c).blocks; room = true } → held_in l (set ss c s)
    ≡ record { section_len = l; held = (held_in l ss).held; room = set (rooms ss) c true }
reserved_is l ss c s in' made =
    grind (arith, held_stays, map-set)
