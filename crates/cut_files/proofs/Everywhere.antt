-- Where what stands elsewhere stays, and what stands at the path itself, all stays.
use Rattle.std.proofs.Common.{◌≡◌, true, false, refl, sym, ◌∙◌, ap}
use Rattle.std.proofs.lemmas.Slice.Eq.{bytes_eq-Decides}
use Rattle.std.specs.Str.{bytes_eq}
use Rattle.cut_files.specs.Laws.{StaysEverywhere}

pub stays_everywhere : StaysEverywhere
stays_everywhere path old new elsewhere same other =
    let same_path = bytes_eq-Decides other path in
    elim (bytes_eq other path) as (λ b. bytes_eq other path ≡ b → new other ≡ old other) [
      | true ↦ λ is. ap new (same_path.0 is) ∙ same ∙ sym (ap old (same_path.0 is))
      | false ↦ λ is. elsewhere other (λ equal. let both : true ≡ false = sym (same_path.1 equal) ∙ is in cc)
    ] refl
