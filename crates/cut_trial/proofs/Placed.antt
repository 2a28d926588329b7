-- At which place a receiver proposes, by what was counted in its lane.
use Rattle.std.proofs.Common.{◌≡◌, ℕ, ◌<◌, Bool, false, List, Option, Some, None, refl, sym, subst}
use Rattle.std.specs.Prelude.{IfSome, IfNone, IsTrue, slice_index}
use Rattle.cut_fields.specs.declared.version.Version.{Version}
use Rattle.cut_fields.specs.declared.version.Version.TheVariants.{One, Two}
use Rattle.cut_arrivals.specs.proposals.Reception.{Reception, proposal_at}
use Rattle.cut_arrivals.specs.declared.receivers.lane_verdict.LaneVerdict.{LaneVerdict}
use Rattle.cut_arrivals.specs.declared.receivers.lane_verdict.LaneVerdict.TheVariants.{Doubtful, Other, Silent, Wanted}
use Rattle.cut_arrivals.specs.declared.receivers.lane_verdict.LaneVerdicts.{LaneVerdicts}
use Rattle.cut_arrivals.specs.declared.receivers.places.Places.{Places}
use Rattle.std.proofs.lemmas.Bool.{both_ways}
use Rattle.cut_arrivals.specs.receivers.LaneVerdicts.{lane_verdict_in, has_bit, is_proposal, members_at, IsVerdictOn}
use Rattle.cut_outcome.proofs.Words.{Proposal, IsPlaced}
use Rattle.cut_outcome.proofs.Outcomes.{none_proposed, placed_at}

-- a receiver that doesn't propose where places are asked for has none
silent_placed : (version : Version) (p : Option Proposal) → (version ≡ Two → p ≡ None)
    → IfSome p (λ x. IsPlaced version 0 (Some x))
silent_placed One None silent = tt
silent_placed One (Some p) silent = tt
silent_placed Two p silent = subst (λ o. IfSome o (λ x. IsPlaced Two 0 (Some x))) (sym (silent refl)) tt

-- what is found to be no proposal, and isn't in doubt, is none
unproposed : (wanted : List ℕ) (proposed : Option (List ℕ)) (f : LaneVerdict) (doubt : Bool) → is_proposal f ≡ false
    → (f ≡ Doubtful → IsTrue doubt) → doubt ≡ false → IsVerdictOn wanted proposed f → proposed ≡ None
unproposed wanted p Doubtful doubt none doubtful certain finds = absurd (both_ways doubt certain (doubtful refl))
unproposed wanted p Silent doubt none doubtful certain finds = finds
unproposed wanted p Wanted doubt none doubtful certain finds = absurd (let never : ⊥ = cc in never)
unproposed wanted p Other doubt none doubtful certain finds = absurd (let never : ⊥ = cc in never)

-- the place in a lane is its receiver's: 0 where none is asked for or none of the four proposes, else what was counted
pub found_placed : (x : Reception) (version : Version) (wanted : List ℕ) (i : ℕ) (doubt : Bool) (f : LaneVerdicts)
    (places : Option Places) (place : Option ℕ) → i < 4 → IfNone places (place ≡ Some 0)
    → IfSome places (λ p. IfSome place (λ n. (has_bit p.doubt i ≡ false) × (n ≡ slice_index p.until i)))
    → IfNone places (version ≡ Two → (lane : ℕ) → lane < 4 → is_proposal (lane_verdict_in f lane) ≡ false)
    → IfSome places (λ p. doubt ≡ false → has_bit p.doubt i ≡ false
    → IfSome (proposal_at x) (λ q. q.at ≡ slice_index p.until i))
    → IsVerdictOn wanted (members_at x) (lane_verdict_in f i) → (lane_verdict_in f i ≡ Doubtful → IsTrue doubt)
    → IfSome place (λ n. doubt ≡ false → IfSome (proposal_at x) (λ p. IsPlaced version n (Some p)))
found_placed x version wanted i doubt f None place low unasked known silent counted finds doubtful =
    subst (λ o. IfSome o (λ n. doubt ≡ false → IfSome (proposal_at x) (λ p. IsPlaced version n (Some p)))) (sym unasked)
    (λ certain. silent_placed version (proposal_at x) (λ two.
    (none_proposed (proposal_at x) (sym (unproposed wanted (members_at x) (lane_verdict_in f i) doubt (silent two i low)
    doubtful
    certain finds)))))
found_placed x version wanted i doubt f (Some p) None low unasked known silent counted finds doubtful = tt
found_placed x version wanted i doubt f (Some p) (Some n) low unasked known silent counted finds doubtful =
    λ certain. subst (λ m. IfSome (proposal_at x) (λ q. IsPlaced version m (Some q))) (sym known.1)
    (placed_at version (slice_index p.until i) (proposal_at x) (counted certain known.0))

-- and the proposal of a receiver is at the place that was found, where nothing is in doubt
pub placed_for : (x : Reception) (version v : Version) (place : Option ℕ) (n : ℕ) (doubt : Bool) (p : Option Proposal)
    → place ≡ Some n → doubt ≡ false → proposal_at x ≡ p → v ≡ version
    → IfSome place (λ m. doubt ≡ false → IfSome (proposal_at x) (λ q. IsPlaced version m (Some q)))
    → IfSome p (λ q. IsPlaced v n (Some q))
placed_for x version v place n doubt p is certain same version_is found =
    let known = subst (λ o. IfSome o (λ m. doubt ≡ false
    → IfSome (proposal_at x) (λ q. IsPlaced version m (Some q)))) is found in
    subst (λ o. IfSome o (λ q. IsPlaced v n (Some q))) same
    (subst (λ w. IfSome (proposal_at x) (λ q. IsPlaced w n (Some q))) (sym version_is) (known certain))
