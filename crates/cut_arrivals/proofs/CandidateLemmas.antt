-- Candidates stay right where blocks are added, and which of them end stable.
use Rattle.std.proofs.Common.{◌≡◌, ℕ, ◌+◌, ◌≤◌, Bool, true, false, List, [], ◌∷◌, ◌++◌}
use Rattle.std.proofs.Common.{filter, length, nat_le, ap, sym, subst, ◌∙◌, arith}
use Rattle.std.proofs.lemmas.List.{map-append, length-map}
use Rattle.std.specs.List.{All, list_any, range_with_len}
use Rattle.std.proofs.lemmas.List.Elements.{All-push, All-weaker}
use Rattle.std.proofs.lemmas.List.Sums.{length-filter}
use Rattle.cut_lists.proofs.Maps.{list_any-map}
use Rattle.cut_lists.proofs.Ranges.{filter_more_kept, filter_more_skipped}
use Rattle.cut_rings.specs.Edges.{EdgeSet}
use Rattle.cut_rings.specs.Layout.{Layout}
use Rattle.cut_detector.specs.Rule.{Rule}
unfoldable use Rattle.cut_detector.specs.Counts.{is_full, is_reported, is_stable, is_some_stable}
use Rattle.cut_arrivals.specs.declared.candidates.candidate.Candidate.{Candidate}
use Rattle.cut_arrivals.specs.declared.candidates.candidates.Candidates.{Candidates}
use Rattle.cut_arrivals.specs.declared.candidates.reported.Reported.{Reported}
use Rattle.cut_arrivals.specs.candidates.inside.KeyPlaces.{Extends}
use Rattle.cut_arrivals.specs.candidates.Candidates.{AreCandidatesOf, IsCandidate, subjects_of}
use Rattle.cut_arrivals.specs.candidates.inside.Reported.{alerts_of, rule_of_reported, HasListed}
use Rattle.cut_arrivals.proofs.ListLemmas.{tests_agree, list_any-filter}
use Rattle.cut_arrivals.proofs.KeyPlaceLemmas.{key_places_kept}
use Rattle.cut_arrivals.proofs.CauseLemmas.{causes_in_kept}
use Rattle.cut_detector.proofs.Modes.{is_full-unreported}

candidate_kept : (r : Layout) (rule : Rule) (E : EdgeSet) (old new subjects : List ℕ) (m : ℕ) (d : Candidate)
    → Extends old m new → IsCandidate r rule E old subjects d → IsCandidate r rule E new subjects d
candidate_kept r rule E old new subjects m d extends is =
    grind (arith, key_places_kept rule.k old new m, causes_in_kept old new subjects m d.causes.items extends is.within)

-- the next process is a candidate, or is not
pub listed_push : (t : Reported) (s : ℕ) (old new : List ℕ) (m : ℕ) (olds news : List Candidate) (d : Candidate)
    → is_reported (rule_of_reported t) (alerts_of t) s ≡ true → Extends old m new → d.subject ≡ s
    → IsCandidate t.rings.now (rule_of_reported t) (alerts_of t) new t.subjects.now d
    → news ≡ olds ++ d ∷ [] → HasListed t s old olds → HasListed t (s + 1) new news
listed_push t s old new m olds news d reported extends at is pushed listed =
    let P : Candidate → Type 0 = λ d. IsCandidate t.rings.now (rule_of_reported t) (alerts_of t) new t.subjects.now d in
    subst (λ candidates. HasListed t (s + 1) new candidates) (sym pushed) (record {
      subjects = map-append (λ d. d.subject) olds (d ∷ [])
          ∙ ap (λ xs. xs ++ d.subject ∷ []) listed.subjects
          ∙ ap (λ u. filter (λ s. is_reported (rule_of_reported t) (alerts_of t) s) (range_with_len 0 s) ++ u ∷ []) at
          ∙ sym (filter_more_kept (λ s. is_reported (rule_of_reported t) (alerts_of t) s) s reported);
      each = All-push P olds d
          (All-weaker (λ d. IsCandidate t.rings.now (rule_of_reported t) (alerts_of t) old t.subjects.now d) P
          (λ d is. candidate_kept t.rings.now (rule_of_reported t)
          (alerts_of t) old new t.subjects.now m d extends is) olds listed.each) is;
      small = extends.small listed.small;
    })

pub listed_skip : (t : Reported) (s : ℕ) (blocks : List ℕ) (candidates : List Candidate)
    → is_reported (rule_of_reported t) (alerts_of t) s ≡ false → HasListed t s blocks candidates
    → HasListed t (s + 1) blocks candidates
listed_skip t s blocks candidates none listed = grind (arith, filter_more_skipped)

-- ---- which end stable

-- a process is stable only where it is reported
pub stable_reported : (r : Layout) (rule : Rule) (E : EdgeSet) (s : ℕ) → rule.l ≤ rule.h → is_stable r rule E s ≡ true
    → is_reported rule E s ≡ true
unfolding is_stable is_reported
stable_reported r rule E s order is = grind (arith, is_full-unreported)

candidate_stable : (r : Layout) (rule : Rule) (E : EdgeSet) (blocks subjects : List ℕ) (d : Candidate)
    → IsCandidate r rule E blocks subjects d
    → nat_le rule.h (length d.causes.items) ≡ is_stable r rule E d.subject
unfolding is_stable
candidate_stable r rule E blocks subjects d is =
    grind (arith, length-map, length-filter)

some_stable : (r : Layout) (rule : Rule) (E : EdgeSet) (blocks subjects : List ℕ) (candidates : List Candidate)
    → rule.l ≤ rule.h
    → All (λ d. IsCandidate r rule E blocks subjects d) candidates
    → subjects_of candidates ≡ filter (λ s. is_reported rule E s) (range_with_len 0 r.nodes)
    → list_any (λ d. nat_le rule.h (length d.causes.items)) candidates ≡ is_some_stable r rule E
unfolding is_some_stable
some_stable r rule E blocks subjects candidates order each all =
    grind (arith, tests_agree, candidate_stable, list_any-map, list_any-filter, stable_reported)

-- once all processes are listed
pub are_all : (t : Reported) (x : Candidates) (s : ℕ) (ends : Bool) → s ≡ t.rings.now.nodes
    → HasListed t s x.blocks.items x.candidates.items
    → ends ≡ list_any (λ d. nat_le t.rule.h (length d.causes.items)) x.candidates.items
    → AreCandidatesOf t.rings.now (rule_of_reported t) t.edges.now
    (record { candidates = x.candidates; blocks = x.blocks; ends_stable = ends })
are_all t x s ends all known is =
    let candidates : List Candidate = x.candidates.items in
    let listed : HasListed t t.rings.now.nodes x.blocks.items candidates =
    subst (λ s. HasListed t s x.blocks.items candidates) all known in
    let same : subjects_of candidates ≡ t.subjects.now = listed.subjects ∙ sym t.all in
    let each : All (λ d. IsCandidate t.rings.now (rule_of_reported t) (alerts_of t) x.blocks.items
    (subjects_of candidates) d) candidates =
    subst (λ subjects. All (λ d. IsCandidate t.rings.now (rule_of_reported t)
    (alerts_of t) x.blocks.items subjects d) candidates) (sym same) listed.each in
    record {
      subjects = listed.subjects;
      each = each;
      blocks = listed.small;
      ends = is ∙ some_stable t.rings.now (rule_of_reported t) (alerts_of t) x.blocks.items
          (subjects_of candidates) candidates t.rule.thresholds each listed.subjects;
    }
