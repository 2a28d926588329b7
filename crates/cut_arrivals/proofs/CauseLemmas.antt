-- The causes of a process, ring by ring.
use Rattle.std.proofs.Common.{◌≡◌, ℕ, ◌+◌, ◌||◌, Bool, true, false, cond, List, [], ◌∷◌, ◌++◌, Option, Some}
use Rattle.std.proofs.Common.{None, map, option_map, refl, ap, sym, subst, ◌∙◌, arith}
use Rattle.std.proofs.lemmas.List.{map-append}
use Rattle.std.specs.Prelude.{is_some, slice_index}
use Rattle.std.proofs.lemmas.Bool.{or_right}
use Rattle.std.specs.List.{All, list_any, range_with_len}
use Rattle.std.proofs.lemmas.List.Elements.{All-push}
use Rattle.cut_lists.proofs.Maps.{list_any-map, maps_agree}
use Rattle.cut_lists.proofs.Ranges.{map_filter_kept, filter_more_skipped}
use Rattle.cut_rings.specs.Edges.{EdgeSet, edge_to, rings_to}
use Rattle.cut_rings.specs.Layout.{Layout, observer_of}
use Rattle.cut_detector.specs.Rule.{Rule}
use Rattle.cut_detector.specs.Counts.{is_gained}
unfoldable use Rattle.cut_detector.specs.Counts.{is_full}
use Rattle.cut_arrivals.specs.declared.candidates.key_places.KeyPlace.{KeyPlace}
use Rattle.cut_arrivals.specs.declared.candidates.candidate.Cause.{Cause}
use Rattle.cut_arrivals.specs.declared.candidates.reported.Reported.{Reported}
use Rattle.cut_arrivals.specs.candidates.inside.KeyPlaces.{Extends}
use Rattle.cut_arrivals.specs.candidates.Candidates.{cause_of, cause_in, AreCandidatesWithin}
use Rattle.cut_arrivals.specs.candidates.inside.Reported.{alerts_of, rule_of_reported, IsGain, AreCauses}
use Rattle.cut_arrivals.proofs.ListLemmas.{list_any-filter}
use Rattle.cut_arrivals.proofs.HeardLemmas.{IsHeard}

is_some-map : {X Y : Type 0} (f : X → Y) (o : Option X) → is_some (option_map f o) ≡ is_some o
is_some-map f None = refl
is_some-map f (Some x) = refl

is_some-cond : {X : Type 0} (b : Bool) (x : X) → is_some (cond b (Some x) None) ≡ b
is_some-cond true x = refl
is_some-cond false x = refl

-- a gain is there where the ring is gained
pub gain_is : (r : Layout) (rule : Rule) (E : EdgeSet) (subjects : List ℕ) (ring s : ℕ) (gained : Option ℕ)
    → IsGain r rule E subjects ring s gained → is_some gained ≡ is_gained r rule E ring s
gain_is r rule E subjects ring s gained gain =
    grind arith

-- a ring is full where it has a key place or a gain
pub full_is : (r : Layout) (rule : Rule) (E : EdgeSet) (s ring : ℕ) (heard : Option KeyPlace) (gained : Option ℕ)
    → is_some heard ≡ E ring s → is_some gained ≡ is_gained r rule E ring s
    → is_full r rule E ring s ≡ is_some heard || is_some gained
unfolding is_full
full_is r rule E s ring heard gained h g = sym (ap (λ b. b || is_some gained) h ∙ ap (λ b. E ring s || b) g)

-- one ring more
pub causes_push : (t : Reported) (blocks : List ℕ) (s ring : ℕ) (olds news : List Cause) (heard : Option KeyPlace)
    (gained : Option ℕ)
    → is_full t.rings.now (rule_of_reported t) (alerts_of t) ring s ≡ true
    → IsHeard t.rule.k blocks (alerts_of t ring s) (edge_to s ring) heard
    → IsGain t.rings.now (rule_of_reported t) (alerts_of t) t.subjects.now ring s gained
    → news ≡ olds ++ record { heard = heard; gained = gained } ∷ []
    → AreCauses t blocks (rings_to ring (is_full t.rings.now (rule_of_reported t) (alerts_of t)) s) s olds
    → AreCauses t blocks (rings_to (ring + 1) (is_full t.rings.now (rule_of_reported t) (alerts_of t)) s) s news
causes_push t blocks s ring olds news heard gained full hear gain pushed are =
    let E : EdgeSet = alerts_of t in
    let c : Cause = record { heard = heard; gained = gained } in
    let of_ring : ℕ → Option (ℕ × ℕ) × Option ℕ = λ ring. cause_of t.rings.now (rule_of_reported t) E s ring in
    let kept : Cause → Option (ℕ × ℕ) × Option ℕ = λ c. cause_in blocks t.subjects.now c in
    let is : cause_in blocks t.subjects.now c ≡ cause_of t.rings.now (rule_of_reported t) E s ring =
    grind arith in
    subst (λ cs. AreCauses t blocks (rings_to (ring + 1) (is_full t.rings.now (rule_of_reported t) E) s) s cs)
    (sym pushed) (record {
      each = grind (arith, map-append, map_filter_kept);
      within = All-push (λ c. AreCandidatesWithin blocks t.subjects.now c) olds c are.within
          (record { heard = hear.within; gained = gain.within });
    })

pub causes_skip : (t : Reported) (blocks : List ℕ) (s ring : ℕ) (causes : List Cause)
    → is_full t.rings.now (rule_of_reported t) (alerts_of t) ring s ≡ false
    → AreCauses t blocks (rings_to ring (is_full t.rings.now (rule_of_reported t) (alerts_of t)) s) s causes
    → AreCauses t blocks (rings_to (ring + 1) (is_full t.rings.now (rule_of_reported t) (alerts_of t)) s) s causes
causes_skip t blocks s ring causes none are =
    grind (arith, filter_more_skipped)

-- ---- whether some ring is gained

gained_full : (r : Layout) (rule : Rule) (E : EdgeSet) (s ring : ℕ) → is_gained r rule E ring s ≡ true
    → is_full r rule E ring s ≡ true
unfolding is_full
gained_full r rule E s ring is = or_right (E ring s) (is_gained r rule E ring s) is

pub some_gain : (t : Reported) (blocks : List ℕ) (s : ℕ) (causes : List Cause)
    → AreCauses t blocks (rings_to t.rule.k (is_full t.rings.now (rule_of_reported t) (alerts_of t)) s) s causes
    → list_any (λ c. is_some c.gained) causes ≡ list_any
    (λ ring. is_gained t.rings.now (rule_of_reported t) (alerts_of t) ring s) (range_with_len 0 t.rule.k)
some_gain t blocks s causes are =
    let gained : ℕ → Bool = λ ring. is_gained t.rings.now (rule_of_reported t) (alerts_of t) ring s in
    let rings : List ℕ = rings_to t.rule.k (is_full t.rings.now (rule_of_reported t) (alerts_of t)) s in
    let second : Option (ℕ × ℕ) × Option ℕ → Bool = λ p. is_some p.1 in
    ap (λ (f : Cause → Bool). list_any f causes)
    (λ i c. sym (is_some-map (λ place. slice_index t.subjects.now place) c.gained) i)
    ∙ sym (list_any-map second (λ c. cause_in blocks t.subjects.now c) causes)
    ∙ ap (λ xs. list_any second xs) are.each
    ∙ list_any-map second (λ ring. cause_of t.rings.now (rule_of_reported t) (alerts_of t) s ring) rings
    ∙ ap (λ (f : ℕ → Bool). list_any f rings)
    (λ i ring. is_some-cond (gained ring) (observer_of t.rings.now ring s) i)
    ∙ list_any-filter gained (λ ring. is_full t.rings.now (rule_of_reported t) (alerts_of t) ring s)
    (range_with_len 0 t.rule.k)
    (λ ring is. gained_full t.rings.now (rule_of_reported t) (alerts_of t) s ring is)

-- ---- once blocks are added

pub causes_in_kept : (old new subjects : List ℕ) (m : ℕ) (causes : List Cause) → Extends old m new
    → All (λ c. AreCandidatesWithin old subjects c) causes
    → map (λ c. cause_in new subjects c) causes ≡ map (λ c. cause_in old subjects c) causes
causes_in_kept old new subjects m causes extends within =
    grind (arith, maps_agree)
