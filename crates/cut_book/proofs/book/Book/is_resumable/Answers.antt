use Rattle.cut_book.proofs.Resumed.{resumable}
use Rattle.cut_book.proofs.book.Book.is_resumable.Goals as goal

pub returns-in-Some : goal.returns-in-Some
returns-in-Some g c =
    rw (← c.self.view_is)
    (resumable g.D.Disk.log c.self.inside.journal c.in-Some.journal _ c.args.offered.now
    c.crashes_are_resumptions.ensures.between c.crashes_are_resumptions.ensures.within c.in-Some.is
    c.journals_stay_readable.ensures.sound c.self.invariant.followed)
