use Rattle.cut_book.proofs.book_opening.kept_book.Goals as goal

pub returns-in_ok-new-in-Ok-clause-good : goal.returns-in_ok-new-in-Ok-clause-good
returns-in_ok-new-in-Ok-clause-good g c = rw c.in_ok-new-in-Ok.ensures.state c.in_ok-new-in-Ok.ensures.good
