use Rattle.std.proofs.Common.{◌≡◌, ◌∙◌, true, false, sym}
use Rattle.cut_hall.proofs.hall.Hall.of_book.Goals as goal

pub keep-requires-clause-begun : goal.keep-requires-clause-begun
keep-requires-clause-begun g c = record {
  good = c.requires.good;
  true_if = λ t. absurd (let no : false ≡ true = sym c.requires.untrusted ∙ t in let none : ⊥ = cc in none);
}
