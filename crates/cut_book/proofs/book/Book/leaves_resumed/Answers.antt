use Rattle.cut_book.proofs.Resumed.{resumed_now}
use Rattle.cut_book.proofs.book.Book.leaves_resumed.Goals as goal

pub returns-in-Some : goal.returns-in-Some
returns-in-Some g c =
    rw (← c.self.view_is)
    (resumed_now g.D.Disk.log c.self.inside.journal c.in-Some.journal _ c.crashes_are_resumptions.ensures.between
    c.in-Some.is c.journals_stay_readable.ensures.sound c.self.invariant.followed)
