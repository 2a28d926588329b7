-- Two files that are opened one after another, at paths that may be the same.
use Rattle.std.proofs.Common.{◌≡◌, ◌≢◌, ◌⊎◌, ◌∙◌, inl, inr, ℕ, List, true, false, cond, refl, sym, ap, subst, arith}
use Rattle.std.specs.Str.{bytes_eq}
use Rattle.std.proofs.lemmas.Bool.Decides.{nat_tests}
use Rattle.std.proofs.lemmas.Slice.Eq.{bytes_eq-Decides}
use Rattle.cut_disks.specs.Log.{DiskLog}
use Rattle.cut_files.specs.declared.files.Mode.{Mode}
use Rattle.cut_files.specs.Place.{Place, IsOpen, IsOpened, OpensAs, StaysElsewhere, Unknown, Absent, Refused, Open, Holds}
use Rattle.cut_files.specs.Place.{closed, opened, while_open}

-- a path is another one or not
pub same_path : (one other : List ℕ) → (one ≡ other) ⊎ (one ≢ other)
same_path one other = grind (arith, bytes_eq-Decides one other)

-- what was opened is open
pub opened_open : (place : Place) → IsOpen (opened place)
opened_open Unknown = tt
opened_open Absent = tt
opened_open Refused = tt
opened_open Open = tt
opened_open (Holds log) = tt

-- where a file was opened, each path has what it has while that is open
pub stands_while_open : (path : List ℕ) (old new : List ℕ → Place) → new path ≡ opened (old path)
    → StaysElsewhere path old new → (other : List ℕ) → new other ≡ while_open path old other
stands_while_open path old new is elsewhere other =
    let same = bytes_eq-Decides other path in
    elim (bytes_eq other path) as (λ b. bytes_eq other path ≡ b → new other ≡ cond b (opened (old other)) (old other)) [
      | true ↦ λ yes. ap new (same.0 yes) ∙ is ∙ sym (ap (λ (p : List ℕ). opened (old p)) (same.0 yes))
      | false ↦ λ no. elsewhere other (λ equal. let both : true ≡ false = sym (same.1 equal) ∙ no in cc)
    ] refl

-- it stays open where another file is not opened
pub open_still : (from to : List ℕ) (place : Place) (old new : List ℕ → Place) → old from ≡ opened place
    → new to ≡ old to → StaysElsewhere to old new → IsOpen (new from)
open_still from to place old new is stays elsewhere = elim (same_path from to) [
  | inl same ↦ subst IsOpen (sym (ap new same ∙ stays ∙ sym (ap old same) ∙ is)) (opened_open place)
  | inr other ↦ subst IsOpen (sym (elsewhere from other ∙ is)) (opened_open place)
]

-- and where another is
pub open_beside : (from to : List ℕ) (place : Place) (old new : List ℕ → Place) → old from ≡ opened place
    → new to ≡ opened (old to) → StaysElsewhere to old new → IsOpen (new from)
open_beside from to place old new is next elsewhere = elim (same_path from to) [
  | inl same ↦ subst IsOpen (sym (ap new same ∙ next)) (opened_open (old to))
  | inr other ↦ subst IsOpen (sym (elsewhere from other ∙ is)) (opened_open place)
]

-- what is open does not open, unless nothing is known of it
never_twice : (mode : Mode) (disk : DiskLog) (place : Place) → OpensAs mode disk (opened place) → opened place ≡ Unknown
never_twice mode disk Unknown opens = refl
never_twice mode disk Absent opens = absurd opens
never_twice mode disk Refused opens = absurd opens
never_twice mode disk Open opens = absurd opens
never_twice mode disk (Holds log) opens = absurd opens

-- the second one is still open where the first was shut
pub second_open : (from to : List ℕ) (place : Place) (mode : Mode) (disk back : DiskLog) (old mid new : List ℕ → Place)
    → old from ≡ opened place → IsOpened mode disk (old to) (mid to) → new from ≡ closed back (mid from)
    → StaysElsewhere from mid new → IsOpen (new to)
second_open from to place mode disk back old mid new is next shut elsewhere = elim (same_path to from) [
  | inl same ↦
      (let was : old to ≡ opened place = ap old same ∙ is in
      let none : opened place ≡ Unknown = never_twice mode disk place (subst (OpensAs mode disk) was next.0) in
      let unknown : mid from ≡ Unknown = sym (ap mid same) ∙ next.1 ∙ ap opened (was ∙ none) in
      subst IsOpen (sym (ap new same ∙ shut ∙ ap (closed back) unknown)) tt)
  | inr other ↦ subst IsOpen (sym (elsewhere to other ∙ next.1)) (opened_open (old to))
]

-- a second one that opens has the log of what stood at its path before the first was opened
pub second_log : (from to : List ℕ) (mode : Mode) (disk : DiskLog) (first old : List ℕ → Place)
    → old from ≡ opened (first from) → StaysElsewhere from first old → OpensAs mode disk (old to)
    → OpensAs mode disk (first to)
second_log from to mode disk first old is elsewhere opens = elim (same_path to from) [
  | inl same ↦
      (let was : old to ≡ opened (first to) = ap old same ∙ is ∙ ap (λ (p : List ℕ). opened (first p)) (sym same) in
      unknown_opens mode disk (first to) (subst (OpensAs mode disk) was opens))
  | inr other ↦ subst (OpensAs mode disk) (elsewhere to other) opens
]
  where
    unknown_opens : (mode : Mode) (disk : DiskLog) (place : Place) → OpensAs mode disk (opened place)
        → OpensAs mode disk place
    unknown_opens mode disk Unknown opens = tt
    unknown_opens mode disk Absent opens = absurd opens
    unknown_opens mode disk Refused opens = absurd opens
    unknown_opens mode disk Open opens = absurd opens
    unknown_opens mode disk (Holds log) opens = absurd opens
