-- With what the studies of a hall's slots were opened.
use Rattle.std.proofs.Common.{◌≡◌, List, [], ◌∷◌, ◌++◌, All, Option, Some, None, sym, subst}
use Rattle.std.specs.Prelude.{IfSome}
use Rattle.std.proofs.lemmas.List.Elements.{All-nil, All-push}
use Rattle.cut_slots.specs.Report.{SlotEnd, opening_recorded}
use Rattle.cut_slots.specs.Start.{StudyStart, AreOpenedWith}

pub none_opened : (opening : Option StudyStart) (slots : List SlotEnd) → slots ≡ [] → AreOpenedWith opening slots
none_opened None slots none = tt
none_opened (Some o) slots none =
    let P : SlotEnd → Type 0 = λ s. opening_recorded s.history ≡ Some o.opening in subst (All P) (sym none) (All-nil P)

pub one_more_opened : (opening : Option StudyStart) (slots now : List SlotEnd) (slot : SlotEnd)
    → now ≡ slots ++ slot ∷ [] → AreOpenedWith opening slots
    → IfSome opening (λ o. opening_recorded slot.history ≡ Some o.opening) → AreOpenedWith opening now
one_more_opened None slots now slot is all here = tt
one_more_opened (Some o) slots now slot is all here =
    let P : SlotEnd → Type 0 = λ s. opening_recorded s.history ≡ Some o.opening in
    subst (All P) (sym is) (All-push P slots slot all here)
