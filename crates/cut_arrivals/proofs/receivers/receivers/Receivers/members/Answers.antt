use Rattle.std.proofs.Common.{Vec, Global, ◌≡◌, ◌∙◌, ℕ, ◌<◌, ◌≤◌, nat_le, nat_lt, List, [], ◌∷◌, ◌++◌, length, filter}
use Rattle.std.proofs.Common.{slice_index, slice_index_or, vec_len, vec_capacity, ap, sym, subst, refl, arith}
use Rattle.std.proofs.lemmas.List.{get_or_read_under, take_all}
use Rattle.cut_arrivals.specs.blocks.Images.{never}
use Rattle.cut_arrivals.specs.proposals.Reception.{Reception, highs_at}
use Rattle.cut_arrivals.specs.declared.candidates.candidate.Candidate.{Candidate}
use Rattle.cut_arrivals.specs.candidates.Candidates.{subjects_of}
use Rattle.cut_arrivals.specs.receivers.Received.{HasReceived}
use Rattle.cut_arrivals.specs.receivers.LaneVerdicts.{members_at}
use Rattle.cut_arrivals.proofs.ReceiversPlaced.{subject_at, count_subjects}
use Rattle.cut_arrivals.proofs.ReceiversJudged.{high_at, members_are, if_some, certain_of}
use Rattle.cut_arrivals.proofs.ReceiversKept.{filter_kept_next, filter_left_next}
use Rattle.cut_arrivals.proofs.receivers.receivers.Receivers.members.Goals.{then-has_ended, else-has_ended}
use Rattle.cut_arrivals.proofs.receivers.receivers.Receivers.members.Goals as goal
use Rattle.cut_arrivals.proofs.Insertions.{value_lane}

pub loop-place-preserved : goal.loop-place-preserved
loop-place-preserved c =
    let f = c.args.self.now in
    let i : ℕ = c.args.lane in
    let place : ℕ = c.loop-place.place in
    let candidates : List Candidate = c.args.candidates.now.candidates.items in
    let subjects : List ℕ = subjects_of candidates in
    let time : ℕ = slice_index f.proposal_time.time i in
    let candidate : Candidate = c.candidate-item.result in
    let inside : place < length candidates =
    subst (λ (ns : List Candidate). place < length ns) c.deref-candidate-items.ensures.value c.loop-place-test.true in
    let is : candidate ≡ slice_index_or candidates place candidate =
    c.candidate-item.is ∙ ap (λ (ns : List Candidate). slice_index_or ns place candidate)
    c.deref-candidate-items.ensures.value in
    let below : place < length subjects = omega (arith, inside, count_subjects candidates) in
    let subject : candidate.subject ≡ slice_index subjects place = ap (λ (d : Candidate). d.subject) is
    ∙ sym (subject_at candidates place candidate inside) in
    let known : place < length f.stable_at.items = omega (arith, inside, c.requires.candidates) in
    let read : c.index.result.now ≡ slice_index_or f.stable_at.items place [] =
    get_or_read_under f.stable_at.items place (length f.stable_at.items) c.index.result.now [] c.index.ensures known
    refl in
    let ended : (x : Reception) → HasReceived x subjects i f
    → nat_le (highs_at x never (slice_index subjects place)) time ≡ c.has_ended.result =
    λ x h. ap (λ (m : ℕ). nat_le m time) (sym (high_at x subjects i f h place below)
    ∙ sym (value_lane i place f.stable_at.items known)
    ∙ ap (λ (v : List ℕ). slice_index v i) (sym read)) ∙ sym c.has_ended.ensures in
    record {
      members = λ x h.
          elim c.if-has_ended.branch [
            | then-has_ended w ↦ ap (λ (m : Vec ℕ Global). m.items) w.members-is ∙ w.push_reserved.ensures.items
                ∙ ap (λ (ms : List ℕ). ms ++ candidate.subject ∷ []) (c.loop-place.invariant.members x h)
                ∙ filter_kept_next (λ s. nat_le (highs_at x never s) time) subjects place candidate.subject below
                subject
                (ended x h ∙ w.if-has_ended.true)
            | else-has_ended w ↦ ap (λ (m : Vec ℕ Global). m.items) w.members-is ∙ c.loop-place.invariant.members x h
                ∙ filter_left_next (λ s. nat_le (highs_at x never s) time) subjects place below (ended x h
                ∙ w.if-has_ended.false)
          ];
      many = elim c.if-has_ended.branch [
        | then-has_ended w ↦ omega (
          arith,
          ap (λ
              (m : Vec ℕ Global). vec_len m) w.members-is,
          w.push_reserved.ensures.len,
          c.loop-place.invariant.many,
        )
        | else-has_ended w ↦ omega (
          arith,
          ap (λ
              (m : Vec ℕ Global). vec_len m) w.members-is,
          c.loop-place.invariant.many,
        )
      ];
      room = elim c.if-has_ended.branch [
        | then-has_ended w ↦ omega (
          arith,
          ap (λ
              (m : Vec ℕ Global). vec_capacity m) w.members-is,
          w.push_reserved.ensures.capacity,
          c.loop-place.invariant.room,
        )
        | else-has_ended w ↦ omega (
          arith,
          ap (λ
              (m : Vec ℕ Global). vec_capacity m) w.members-is,
          c.loop-place.invariant.room,
        )
      ];
    }

pub returns-clause-members : goal.returns-clause-members
returns-clause-members c x h clear =
    let candidates : List Candidate = c.args.candidates.now.candidates.items in
    let subjects : List ℕ = subjects_of candidates in
    let time : ℕ = slice_index c.args.self.now.proposal_time.time c.args.lane in
    let known = members_are x subjects c.args.lane c.args.self.now h c.images_give_the_members.ensures
    c.candidates_show_the_verdict.ensures.other
    (certain_of x subjects c.args.lane c.args.self.now h clear) in
    let all : length subjects ≤ c.loop-place.place =
    omega (
      arith,
      count_subjects candidates,
      c.loop-place-test.false,
      ap (λ
          (ns : List Candidate). length ns) c.deref-candidate-items.ensures.value,
    ) in
    if_some (nat_lt time never) (members_at x) _ c.loop-place.members.items known
    (c.loop-place.invariant.members x h
    ∙ ap (λ (ss : List ℕ). filter (λ s. nat_le (highs_at x never s) time) ss)
    (take_all c.loop-place.place subjects all))
