-- Which rings count once one edge more is reported.
use Rattle.std.proofs.Common.{◌≡◌, ℕ, ◌<◌, Bool, true, false, not, inl, inr, ◌==◌, ◌&&◌, ◌||◌, nat_le, ap, sym, ◌∙◌}
use Rattle.std.proofs.Common.{arith}
use Rattle.cut_detector.proofs.Words.{Edge, EdgeSet, HoldsFull, Layout, Masks, Reports, Rule, Tally, and_right}
use Rattle.cut_detector.proofs.Words.{cases_eq, count_by_agree, edges_in, eqb-true, is_edge, is_full, is_gained}
use Rattle.cut_detector.proofs.Words.{is_near, is_reported, marked_in, ne_eqb, observer_of, or-false, ring_count}
use Rattle.cut_detector.proofs.Words.{rule_in, with_edge}
use Rattle.std.proofs.lemmas.Bool.{eqb-false, or_left}
use Rattle.cut_detector.proofs.Bits.{edges_in-with_edge}
use Rattle.cut_detector.proofs.Modes.{is_full-unreported, is_reported-more, marked-is}
use Rattle.cut_detector.proofs.Settling.{rings_full-is}

waiting : (e f added i xp xo yp yo : Bool) → f ≡ (e || added) → yp ≡ xp → yo ≡ xo
    → (e || (i && xp && xo)) || added ≡ f || (i && yp && yo)
waiting e f added i xp xo yp yo all own its = grind arith

entering : (e f added i xp xo yp yo own its : Bool) → f ≡ (e || added)
    → (own ≡ true → xp ≡ false) → (its ≡ true → xo ≡ false) → (own ≡ false → yp ≡ xp) → (its ≡ false → yo ≡ xo)
    → ((e || (i && xp && xo)) || added) || ((own || its) && (i && yp && yo)) ≡ f || (i && yp && yo)
entering e f added i xp xo yp yo own its all a b c d = grind arith

-- ---- sets of which the second has one edge more

module _ (r : Layout) (rule : Rule) (E F : EdgeSet) (edge : Edge)
    (more : (ring s : ℕ) → F ring s ≡ (E ring s || is_edge ring s edge)) where
  -- the reports of other processes stay as they were
  is_reported-other : (p : ℕ) → (p ≡ edge.subject → ⊥) → is_reported rule F p ≡ is_reported rule E p
  unfolding is_reported
  is_reported-other p other = ap (nat_le rule.l) (count_by_agree _ _ 0 rule.k (record {
    same = λ ring _ _. more ring p
        ∙ ap (λ b. E ring p || b) (and_right _ _ (ne_eqb edge.subject p (λ e. other (sym e)))) ∙ or-false _;
  }))

  -- a reported process stays reported
  is_reported-stays : (p : ℕ) → is_reported rule E p ≡ true → is_reported rule F p ≡ true
  is_reported-stays p is =
      is_reported-more rule E F p (record { all = λ ring s e. more ring s ∙ or_left (E ring s) _ e }) is

  -- where the reported processes are the same, the rings that count are those and the edge's
  is_full-waiting : is_reported rule F edge.subject ≡ is_reported rule E edge.subject
      → (ring p : ℕ) → is_full r rule E ring p || is_edge ring p edge ≡ is_full r rule F ring p
  unfolding is_full
  is_full-waiting same ring p =
      waiting _ _ _ rule.implicit _ _ _ _ (more ring p) (all p) (all (observer_of r ring p))
    where
      all : (q : ℕ) → is_reported rule F q ≡ is_reported rule E q
      all q = elim (cases_eq q edge.subject) [
        | inl at ↦ ap (is_reported rule F) at ∙ same ∙ sym (ap (is_reported rule E) at)
        | inr other ↦ is_reported-other q other
      ]

  -- where the subject enters the reported processes, those that it and its subjects gain are added
  is_full-entered : is_reported rule E edge.subject ≡ false → (ring p : ℕ)
      → (is_full r rule E ring p || is_edge ring p edge) || (is_near r edge.subject ring p && is_gained r rule F ring p)
      ≡ is_full r rule F ring p
  unfolding is_full
  is_full-entered unreported ring p =
      entering _ _ _ rule.implicit _ _ _ _ (p == edge.subject) (observer_of r ring p == edge.subject) (more ring p)
      (before p) (before (observer_of r ring p)) (still p) (still (observer_of r ring p))
    where
      before : (q : ℕ) → (q == edge.subject) ≡ true → is_reported rule E q ≡ false
      before q at = ap (is_reported rule E) (eqb-true _ _ at) ∙ unreported

      still : (q : ℕ) → (q == edge.subject) ≡ false → is_reported rule F q ≡ is_reported rule E q
      still q other = is_reported-other q (eqb-false _ _ other)

-- ---- one edge more in the masks of reports and in their tally

-- the tally says whether L rings count only now
pub record Adds (old : Reports) (reported : Masks) (tally : Tally) (edge : Edge) (marks : Bool) : Type 0 where
  pub reports : reported.masks.items ≡ with_edge old.reported.masks.items edge
  pub rule : tally.rule ≡ old.tally.rule
  pub counts : tally.full.masks.items ≡ with_edge old.tally.full.masks.items edge
  pub says : marks ≡ (marked_in old.tally.rule tally.full edge.subject
      && not (marked_in old.tally.rule old.tally.full edge.subject))
  pub process : edge.subject < old.rings.now.nodes

same_marks : (now was reported before : Bool) → was ≡ before → (before ≡ false → now ≡ reported) → now && not was
    ≡ reported && not before
same_marks now was reported before e f = grind arith

entered : (x y marks : Bool) → marks ≡ x && not y → marks ≡ true → (x ≡ true) × (y ≡ false)
entered x y marks e is = grind arith

stayed : (x y marks : Bool) → marks ≡ x && not y → marks ≡ false → (y ≡ true → x ≡ true) → x ≡ y
stayed x y marks e is stays = grind arith

module _ (old : Reports) (reported : Masks) (tally : Tally) (edge : Edge) (marks : Bool)
    (adds : Adds old reported tally edge marks) where
  abbrev r : Layout
  r = old.rings.now

  abbrev R : Rule
  R = rule_in old.tally.rule

  abbrev E : EdgeSet
  E = edges_in old.reported.masks.items

  abbrev F : EdgeSet
  F = edges_in reported.masks.items

  more : (ring p : ℕ) → F ring p ≡ (E ring p || is_edge ring p edge)
  more ring p = ap (λ xs. edges_in xs ring p) adds.reports
      ∙ edges_in-with_edge old.reported.masks.items edge
      (omega (arith, adds.process, old.reported.masks.ok.0, old.reported_long)) ring p

  counted : (ring p : ℕ) → ring < R.k → p < r.nodes → edges_in tally.full.masks.items ring p
      ≡ (is_full r R E ring p || is_edge ring p edge)
  counted ring p below process =
      ap (λ xs. edges_in xs ring p) adds.counts
      ∙ edges_in-with_edge old.tally.full.masks.items edge
      (omega (arith, adds.process, old.tally.full.masks.ok.0, old.full_long)) ring p
      ∙ ap (λ b. b || is_edge ring p edge) (old.full ring p below process)

  -- L rings come to count for the subject exactly where it enters the reported processes
  marks-is : marks ≡ is_reported R F edge.subject && not (is_reported R E edge.subject)
  unfolding is_reported
  marks-is = adds.says ∙ same_marks _ _ _ _ (ap (nat_le R.l) (rings_full-is old edge.subject adds.process)
      ∙ marked-is r R E edge.subject) (λ is.
      ap (λ n. nat_le R.l (ring_count n (edges_in tally.full.masks.items) edge.subject))
      (tally.rings ∙ ap (λ x. x.k) adds.rule)
      ∙ ap (nat_le R.l) (count_by_agree _ _ 0 R.k (record {
        same = λ ring _ below. counted ring edge.subject (omega arith) adds.process
            ∙ ap (λ b. b || is_edge ring edge.subject edge) (is_full-unreported r R E ring edge.subject is)
            ∙ sym (more ring edge.subject);
      })))

  pub enters : marks ≡ true → (is_reported R F edge.subject ≡ true) × (is_reported R E edge.subject ≡ false)
  enters is = entered _ _ marks marks-is is

  -- its subject is reported before and after, or neither
  pub HoldsFull-waiting : marks ≡ false → HoldsFull r (rule_in tally.rule) reported.masks.items tally.full.masks.items
  HoldsFull-waiting is = rw adds.rule (λ ring p below process.
      counted ring p below process
      ∙ is_full-waiting r R E F edge more (stayed _ _ marks marks-is is
      (is_reported-stays r R E F edge more edge.subject)) ring p)

  -- its subject enters the reported processes
  pub HoldsFull-entered : (news : Tally) → marks ≡ true → news.rule ≡ tally.rule
      → ((ring p : ℕ) → ring < R.k → p < r.nodes → edges_in news.full.masks.items ring p
      ≡ (edges_in tally.full.masks.items ring p || (is_near r edge.subject ring p && is_gained r R F ring p)))
      → HoldsFull r (rule_in news.rule) reported.masks.items news.full.masks.items
  HoldsFull-entered news is rule gains = rw (rule, adds.rule) (λ ring p below process.
      gains ring p below process
      ∙ ap (λ b. b || (is_near r edge.subject ring p && is_gained r R F ring p)) (counted ring p below process)
      ∙ is_full-entered r R E F edge more (enters is).1 ring p)
