-- The two files of a migration, which may be one.
use Rattle.std.proofs.Common.{◌≡◌, ◌≢◌, ◌⊎◌, ◌∙◌, inl, inr, ℕ, List, cond, refl, sym, ap, ap₂, subst}
use Rattle.std.specs.Str.{bytes_eq}
use Rattle.cut_disks.specs.Log.{DiskLog}
use Rattle.cut_files.specs.Place.{Place, MayNotOpen, OpensAs, StaysElsewhere, Unknown, Absent, Refused, Open, Holds}
use Rattle.cut_files.specs.Place.{closed, opened, while_open}
use Rattle.cut_files.specs.declared.files.Mode.{Mode}
use Rattle.cut_files.specs.declared.files.Mode.TheVariants.{Existing, Create}
use Rattle.cut_files.specs.declared.files.OpenFault.{OpenFault}
use Rattle.cut_files.proofs.Everywhere.{stays_everywhere}
use Rattle.cut_files.proofs.Places.{same_path, stands_while_open}

-- a second file that does not open did not open before the first was opened, or is the first
pub second_refused : (from to : List ℕ) (fault : OpenFault) (first old : List ℕ → Place) → StaysElsewhere from first old
    → MayNotOpen Create fault (old to)
    → MayNotOpen Existing fault (first from) ⊎ ((from ≡ to) ⊎ MayNotOpen Create fault (first to))
second_refused from to fault first old elsewhere refused = elim (same_path to from) [
  | inl same ↦ inr (inl (sym same))
  | inr other ↦ inr (inr (subst (MayNotOpen Create fault) (elsewhere to other) refused))
]

-- what stands at each path while both are open
pub both_open : (from to : List ℕ) (first old new : List ℕ → Place) → old from ≡ opened (first from)
    → StaysElsewhere from first old → new to ≡ opened (old to) → StaysElsewhere to old new → (path : List ℕ)
    → new path ≡ while_open to (while_open from first) path
both_open from to first old new is elsewhere next beside path =
    let before = stands_while_open from first old is elsewhere in
    stands_while_open to old new next beside path
    ∙ ap₂ (λ (there here : Place). cond (bytes_eq path to) (opened there) here) (before path) (before path)

-- ---- a file that is given back

-- as it was opened
shut_same : (disk : DiskLog) (place : Place) → OpensAs Existing disk place → closed disk (opened place) ≡ place
shut_same disk Unknown opens = refl
shut_same disk Absent opens = absurd opens
shut_same disk Refused opens = absurd opens
shut_same disk Open opens = absurd opens
shut_same disk (Holds log) opens = ap Holds opens

-- and with another log
shut_again : (back : DiskLog) (place : Place) → closed back (opened place) ≡ closed back place
shut_again back Unknown = refl
shut_again back Absent = refl
shut_again back Refused = refl
shut_again back Open = refl
shut_again back (Holds log) = refl

-- where only the first was opened, and given back as it was, all stays
pub all_stays : (from to : List ℕ) (disk : DiskLog) (first old mid new : List ℕ → Place) → OpensAs Existing disk (first from)
    → old from ≡ opened (first from) → StaysElsewhere from first old → mid to ≡ old to → StaysElsewhere to old mid
    → new from ≡ closed disk (mid from) → StaysElsewhere from mid new → (path : List ℕ) → new path ≡ first path
all_stays from to disk first old mid new opens is elsewhere same beside shut after path =
    let stays = stays_everywhere to old mid beside same in
    elim (same_path path from) [
      | inl here ↦ ap new here ∙ shut ∙ ap (closed disk) (stays from ∙ is) ∙ shut_same disk (first from) opens
          ∙ sym (ap first here)
      | inr other ↦ after path other ∙ stays path ∙ elsewhere path other
    ]

-- what is open does not open, so it is not known
unknown_before : (mode : Mode) (disk : DiskLog) (place : Place) → OpensAs mode disk (opened place) → place ≡ Unknown
unknown_before mode disk Unknown opens = refl
unknown_before mode disk Absent opens = absurd opens
unknown_before mode disk Refused opens = absurd opens
unknown_before mode disk Open opens = absurd opens
unknown_before mode disk (Holds log) opens = absurd opens

-- both were opened, the first one and then the second, and given back in that order
module _ (from to : List ℕ) (f0 f1 f2 f3 f4 : List ℕ → Place) (target source_back target_back : DiskLog)
    (one : f1 from ≡ opened (f0 from)) (beside_one : StaysElsewhere from f0 f1) (opens : OpensAs Create target (f1 to))
    (two : f2 to ≡ opened (f1 to)) (beside_two : StaysElsewhere to f1 f2)
    (three : f3 from ≡ closed source_back (f2 from)) (beside_three : StaysElsewhere from f2 f3)
    (four : f4 to ≡ closed target_back (f3 to)) (beside_four : StaysElsewhere to f3 f4) where
  -- where they are one, nothing is known of it
  unknown : from ≡ to → f0 from ≡ Unknown
  unknown same =
      unknown_before Create target (f0 from) (subst (OpensAs Create target) (ap f1 (sym same) ∙ one) opens)

  one_shut : (same : from ≡ to) → f3 to ≡ Unknown
  one_shut same =
      ap f3 (sym same) ∙ three
      ∙ ap (closed source_back) (ap f2 same ∙ two ∙ ap opened (ap f1 (sym same) ∙ one)
      ∙ ap (λ (place : Place). opened (opened place)) (unknown same))

  pub source_shut : f4 from ≡ closed source_back (f0 from)
  source_shut = elim (same_path from to) [
    | inl same ↦ ap f4 same ∙ four ∙ ap (closed target_back) (one_shut same)
        ∙ sym (ap (closed source_back) (unknown same))
    | inr other ↦ beside_four from other ∙ three ∙ ap (closed source_back) (beside_two from other ∙ one)
        ∙ shut_again source_back (f0 from)
  ]

  pub target_shut : f4 to ≡ closed target_back (f0 to)
  target_shut = elim (same_path to from) [
    | inl same ↦ four ∙ ap (closed target_back) (one_shut (sym same))
        ∙ sym (ap (closed target_back) (ap f0 same ∙ unknown (sym same)))
    | inr other ↦ four ∙ ap (closed target_back) (beside_three to other ∙ two ∙ ap opened (beside_one to other))
        ∙ shut_again target_back (f0 to)
  ]
