-- What a study begins with.
use Rattle.std.proofs.Common.{◌≡◌, ℕ, Bool, true, List, [], Option, Some, None, refl, sym, ap, subst, take, length}
use Rattle.std.proofs.Common.{arith}
use Rattle.std.specs.Prelude.{IfSome}
use Rattle.std.proofs.lemmas.List.{take_all}
use Rattle.cut_plan.specs.Values.{Values}
use Rattle.cut_ledger.specs.declared.slip.Slip.{Slip}
use Rattle.cut_ledger.specs.Slips.{AreGood}
use Rattle.cut_ledger.specs.World.{AreTrue}
use Rattle.cut_book.specs.Book.{BookValue, IsFresh}
use Rattle.cut_slots.specs.Slot.{calls_in, base_of, kept_of, unkept_of}
use Rattle.cut_slots.specs.Trust.{MayBegin}

pub may_begin : (trusts : Bool) (v u : Values) (base : List Slip) → u ≡ v → AreGood v base
    → (trusts ≡ true → AreTrue v base) → MayBegin trusts u base
may_begin trusts v u base same good so = subst (λ (w : Values). MayBegin trusts w base) (sym same)
    (record { good = good; true_if = so })

-- ---- a slot in which nothing was asked yet

-- of a fresh study the slips that it began with are kept, where any are
pub fresh_unkept : {D : Type 0} (v : Values) (size : ℕ) (b : BookValue D) → IsFresh v size b → unkept_of (Some b) ≡ []
fresh_unkept v size b fresh =
    grind arith

pub fresh_first : {D : Type 0} (v : Values) (size : ℕ) (b : BookValue D) → IsFresh v size b
    → take (length (base_of (Some b))) (kept_of (Some b)) ≡ base_of (Some b)
fresh_first v size b fresh =
    grind (arith, take_all)

module _ {D : Type 0} where
  pub slot_unkept : (book : Option (BookValue D)) → IfSome book (λ b. IsFresh b.state.ledger.plan b.size b)
      → unkept_of book ≡ []
  slot_unkept None fresh = refl
  slot_unkept (Some b) fresh = fresh_unkept b.state.ledger.plan b.size b fresh

  pub slot_first : (book : Option (BookValue D)) → IfSome book (λ b. IsFresh b.state.ledger.plan b.size b)
      → take (length (base_of book)) (kept_of book) ≡ base_of book
  slot_first None fresh = refl
  slot_first (Some b) fresh = fresh_first b.state.ledger.plan b.size b fresh

  pub slot_calls : (book : Option (BookValue D)) → IfSome book (λ b. IsFresh b.state.ledger.plan b.size b)
      → calls_in book ≡ 0
  slot_calls None fresh = refl
  slot_calls (Some b) fresh = ap length fresh.calls
