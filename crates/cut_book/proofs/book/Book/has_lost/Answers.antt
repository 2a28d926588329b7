use Rattle.cut_book.proofs.Losses.{some_lost}
use Rattle.cut_book.proofs.book.Book.has_lost.Goals as goal

pub returns : goal.returns
returns g c = rw (← c.self.view_is, c.self.invariant.losable, c.len.ensures) (some_lost c.self.inside.lost)
