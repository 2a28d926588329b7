-- The faults of ledgers in the program's list of faults, and as they are printed.
use Rattle.std.specs.Prelude.{ℕ, List}
use Rattle.std.specs.Fmt.{decimal}
use Rattle.cut_faults.specs.declared.code.FaultCode.{FaultCode}
use Rattle.cut_faults.specs.declared.code.FaultCode.TheVariants as code
use Rattle.cut_faults.specs.Codes.{code_text, text_carrying}
use Rattle.cut_ledger.specs.declared.offer_fault.OfferFault.{OfferFault}
use Rattle.cut_ledger.specs.declared.offer_fault.OfferFault.TheVariants as offer
use Rattle.cut_ledger.specs.declared.slips_fault.SlipsFault.{SlipsFault}
use Rattle.cut_ledger.specs.declared.slips_fault.SlipsFault.TheVariants as slips

-- the code of a fault of an offer
abbrev pub code_of : OfferFault → FaultCode
code_of offer.Memory = code.Memory
code_of offer.Stranger = code.Stranger
code_of offer.Overlap = code.Overlap

-- and of one of slips
abbrev pub code_of_slips : SlipsFault → FaultCode
code_of_slips slips.Memory = code.Memory
code_of_slips (slips.BadSlip number) = code.BadSlip

-- which is printed with its number, its name and the slip's number
abbrev pub slips_fault_text : SlipsFault → List ℕ
slips_fault_text (slips.BadSlip number) = text_carrying code.BadSlip (decimal number)
slips_fault_text slips.Memory = code_text code.Memory
