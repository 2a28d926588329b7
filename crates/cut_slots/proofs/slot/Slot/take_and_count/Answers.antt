use Rattle.std.proofs.Common.{◌≡◌, ℕ, Option, Some, Err, inl, length, take, refl, arith, rules}
use Rattle.std.proofs.lemmas.Grind.{common_steps}
use Rattle.std.specs.Prelude.{⊤}
use Rattle.cut_outcome.specs.Computed.{Computed}
use Rattle.cut_disks.specs.Log.{DiskLog}
use Rattle.cut_book.specs.declared.call.Answer.{Answer}
use Rattle.cut_book.specs.declared.fault.BookFault.{BookFault}
use Rattle.cut_book.specs.declared.fault.BookFault.TheVariants as book
use Rattle.cut_book.specs.Book.{BookValue, HandsIn, IsHandInFault, answer_of}
use Rattle.cut_book.specs.Kept.{disk_start_of}
use Rattle.cut_slots.specs.declared.slot.CallFault.TheVariants.{Refused}
use Rattle.cut_slots.specs.Slot.{base_of, kept_of}
use Rattle.cut_slots.specs.Start.{start_in}
use Rattle.cut_slots.specs.Turn.{TakesDrawn, next_after}
use Rattle.cut_slots.proofs.slot.Slot.take_and_count.Goals as goal

-- once a result was handed in to a book, the slips that its study began with are still the first of the kept ones, and
-- with what it began stays, where that of the disk does
handed : {D : Type 0} (log_of : D → DiskLog) (answer : Option Answer) (r : Computed) (book : Option (BookValue D))
    (old new : BookValue D) → book ≡ Some old → HandsIn answer r old new
    → disk_start_of log_of new ≡ disk_start_of log_of old
    → take (length (base_of book)) (kept_of book) ≡ base_of book
    → (take (length (base_of (Some new))) (kept_of (Some new)) ≡ base_of (Some new))
    × (start_in log_of (Some new) ≡ start_in log_of book)
handed log_of answer r book old new is hands start first = grind (arith, common_steps)

-- how a worker goes on after a fault of the book says what became of the result, unless memory ran out
refused : {D : Type 0} (number : ℕ) (r : Computed) (old new : BookValue D) (fault : BookFault) → IsHandInFault fault
    → (fault ≡ book.Memory → ⊥) → HandsIn (answer_of {T = ⊤} (Err fault) old.state) r old new
    → TakesDrawn (Err (next_after (Err (Refused fault)))) number r (Some old) (Some new)
refused number r old new book.Memory is other hands = absurd (other refl)
refused number r old new book.Stranger is other hands = inl (Refused book.Stranger, (tt, hands))
refused number r old new book.Overlap is other hands = inl (Refused book.Overlap, (tt, hands))
refused number r old new book.Checkpoint is other hands = hands
refused number r old new fault is other hands = absurd is

pub invariant_of-self-in-Ok : goal.invariant_of-self-in-Ok
invariant_of-self-in-Ok g c = grind (
  arith,
  common_steps,
  handed g.D.Disk.log _ _ _ _ _ c.in-Some.is c.hand_in.ensures.answer c.hand_in.ensures.start c.args.self.now.first,
)

pub invariant_of-self-in-BadPiece-1 : goal.invariant_of-self-in-BadPiece-1
invariant_of-self-in-BadPiece-1 g c = grind (
  arith,
  common_steps,
  handed g.D.Disk.log _ _ _ _ _ c.in-Some.is c.hand_in.ensures.answer c.hand_in.ensures.start c.args.self.now.first,
)

pub returns-clause-taken : goal.returns-clause-taken
returns-clause-taken g c = search (rules, refused)
