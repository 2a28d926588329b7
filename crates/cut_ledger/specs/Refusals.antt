-- Which results a ledger refuses.
use Rattle.std.specs.Prelude.{◌≡◌, ◌==◌, Bool, false, if◌then◌else◌, Option, Some, None}
use Rattle.std.specs.Cmp.Lexicographic.{pointwise}
use Rattle.cut_plan.specs.Values.{Values}
use Rattle.cut_plan.specs.Canonical.{canonical_text}
use Rattle.cut_outcome.specs.Computed.{Computed}
use Rattle.cut_ledger.specs.declared.offer_fault.OfferFault.{OfferFault}
use Rattle.cut_ledger.specs.declared.offer_fault.OfferFault.TheVariants.{Memory, Stranger, Overlap}
use Rattle.cut_ledger.specs.Contents.{Contents, overlaps}

-- whether two plans are the same: their canonical texts are equal
unfoldable pub is_same_plan : Values → Values → Bool
is_same_plan a b = pointwise ◌==◌ (canonical_text a) (canonical_text b)

-- the first refusal of a result: it is of another plan, or one of its trials is held
abbrev pub refusal_of : Contents → Computed → Option OfferFault
refusal_of l r =
    if is_same_plan l.plan r.plan then (if overlaps l r.piece then Some Overlap else None) else Some Stranger

-- a result that is not refused: it is of the ledger's plan, and none of its trials is held
pub record CanTake (l : Contents) (r : Computed) : Type 0 where
  pub plan : r.plan ≡ l.plan
  pub apart : overlaps l r.piece ≡ false

-- the fault of an offer: its refusal, or if there is none, that memory ran out
abbrev pub fault_of_offer : Option OfferFault → OfferFault
fault_of_offer None = Memory
fault_of_offer (Some refusal) = refusal
