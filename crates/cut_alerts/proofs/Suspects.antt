-- Alerts are only about processes that are not healthy, and about those that such a process observes.
use Rattle.std.proofs.Common.{◌≡◌, ◌∙◌, ℕ, ◌+◌, ◌<◌, ◌≤◌, ◌⊎◌, inl, inr, Bool, true, false, List, length, set, sym}
use Rattle.std.proofs.Common.{subst, arith}
use Rattle.std.proofs.lemmas.Bool.{cases_eq, cases_lt}
use Rattle.std.proofs.lemmas.List.{get_or-set_same, get_or-set_other}
use Rattle.cut_rings.specs.Layout.{Layout, IsLayout, Observes, observer_of}
use Rattle.cut_rings.proofs.Observers.{observer_is_process}
use Rattle.cut_alerts.specs.declared.role.Role.TheVariants.{Healthy}
use Rattle.cut_alerts.specs.Assignment.{Assignment, role_at}
use Rattle.cut_alerts.specs.Alerted.{alerts_about}
use Rattle.cut_alerts.specs.inside.Suspects.{is_marked, AreSuspects, HasNoAlert}

-- a further mark takes none away
pub marked_more : (marks : List Bool) (i : ℕ) → i < length marks
    → (is_marked (set marks i true) i ≡ true)
    × ((s : ℕ) → is_marked marks s ≡ true → is_marked (set marks i true) s ≡ true)
marked_more marks i within = (
  get_or-set_same marks i true false within,
  λ s before. elim (cases_eq s i) [
    | inl same ↦ subst (λ t. is_marked (set marks i true) t ≡ true) (sym same)
        (get_or-set_same marks i true false within)
    | inr other ↦ get_or-set_other marks i s true false (λ e. other e) ∙ before
  ],
)

-- one more ring of a process, whose subject there is marked
pub ring_more : (r : Layout) → IsLayout r → (p ring subject : ℕ) (before after : List Bool) → ring < length r.positions
    → subject < r.nodes → Observes r ring p subject → is_marked after subject ≡ true
    → ((s : ℕ) → is_marked before s ≡ true → is_marked after s ≡ true)
    → ((x s : ℕ) → x < ring → s < r.nodes → Observes r x p s → is_marked before s ≡ true)
    → (x s : ℕ) → x < ring + 1 → s < r.nodes → Observes r x p s → is_marked after s ≡ true
ring_more r layout p ring subject before after on_ring process observes marked kept all x s below low found =
    elim (cases_lt x ring) [
      | inl lower ↦ kept s (all x s lower low found)
      | inr same ↦ (
          let at : x ≡ ring = omega arith in
          let here : Observes r ring p s = subst (λ y. Observes r y p s) at found in
          subst (λ t. is_marked after t ≡ true)
          (layout.distinct ring subject s on_ring process low (sym observes ∙ here)) marked)
    ]

-- a process is healthy, or it and its subjects are marked
abbrev pub IsSeen : Layout → Assignment → ℕ → List Bool → ℕ → Type 0
IsSeen r a k marks p = (role_at a p ≡ Healthy) ⊎ AreSuspects r k p marks

-- further marks keep that
pub seen_more : (r : Layout) (a : Assignment) (k p : ℕ) (before after : List Bool)
    → ((s : ℕ) → is_marked before s ≡ true → is_marked after s ≡ true) → IsSeen r a k before p → IsSeen r a k after p
seen_more r a k p before after kept (inl healthy) = inl healthy
seen_more r a k p before after kept (inr are) = inr record {
  own = kept p are.own;
  subjects = λ ring s on_ring process observes. kept s (are.subjects ring s on_ring process observes);
}

none_between : (a : Assignment) (o s : ℕ) → role_at a o ≡ Healthy → role_at a s ≡ Healthy → alerts_about a o s ≡ false
none_between a o s observer subject = grind arith

-- where all are seen, no alert is about a process without a mark
pub no_alert : (r : Layout) → IsLayout r → (a : Assignment) (k : ℕ) (marks : List Bool) → k ≤ length r.positions
    → ((p : ℕ) → p < r.nodes → IsSeen r a k marks p) → (s : ℕ) → s < r.nodes → is_marked marks s ≡ false
    → HasNoAlert r a k s
no_alert r layout a k marks rings seen s process unmarked = λ ring on_ring.
    let o : ℕ = observer_of r ring s in
    let is = observer_is_process r layout ring s (omega (arith, on_ring, rings)) process in
    let subject : role_at a s ≡ Healthy = elim (seen s process) [
      | inl healthy ↦ healthy
      | inr are ↦ (let own = are.own in cc)
    ] in
    let observer : role_at a o ≡ Healthy = elim (seen o is.0) [
      | inl healthy ↦ healthy
      | inr are ↦ (let at = are.subjects ring s on_ring process is.1 in cc)
    ] in
    none_between a o s observer subject
