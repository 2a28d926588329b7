-- The bytes of a slip say the slip.
use Rattle.std.proofs.Common.{◌≡◌, ◌∙◌, ◌<◌, ◌+◌, ◌*◌, ◌^◌, ◌++◌, ℕ, zero, suc, true, List, [], ◌∷◌}
use Rattle.std.proofs.Common.{length, take, drop, get_or, refl, sym, ap, arith, length-append}
use Rattle.std.specs.List.{flat_map}
use Rattle.std.specs.Int.{w64, to_be_bytes}
use Rattle.std.proofs.lemmas.Slice.Eq.{bytes_eq-Decides}
use Rattle.std.proofs.lemmas.List.{take_at, drop_at}
use Rattle.std.proofs.Math.Seq.{take-append-add}
use Rattle.sha2.proofs.Facts256.{length-sha256}
use Rattle.sha2.specs.Sha256.{sha256}
use Rattle.cut_fields.specs.declared.version.Version.{Version}
use Rattle.cut_fields.specs.declared.version.Version.TheVariants.{One, Two}
use Rattle.cut_plan.specs.Failing.{version_of}
use Rattle.cut_plan.specs.Values.{Values}
use Rattle.cut_ledger.specs.declared.slip.Slip.{Slip}
use Rattle.cut_journal.specs.File.{HoldsAllTotals, closed_gate, numbers_length, slip_length, numbers_of, number_bytes}
use Rattle.cut_journal.specs.File.{body_of, header_digest}
use Rattle.cut_journal.specs.Reading.{number_at, slip_in, is_slip}
use Rattle.cut_journal.specs.inside.Steps.{HasNumbers}
use borrow.Rule.Slice.PartMut.{put_mid}
use Rattle.cut_journal.proofs.Prefixes.{layered}

at_number : (xs tail : List ℕ) (i : ℕ) → i < length xs → take 8 (drop (8 * i) (flat_map (to_be_bytes w64) xs ++ tail))
    ≡ to_be_bytes w64 (get_or xs i 0)
at_number [] tail i low = absurd (omega arith)
at_number (x ∷ xs) tail zero low =
    grind arith
at_number (x ∷ xs) tail (suc i) low =
    let more : 8 * suc i ≡ suc (suc (suc (suc (suc (suc (suc (suc (8 * i)))))))) = omega arith in
    ap (λ (n : ℕ). take 8 (drop n (flat_map (to_be_bytes w64) (x ∷ xs) ++ tail))) more
    ∙ at_number xs tail i (omega arith)

long_numbers : (xs : List ℕ) → length (flat_map (to_be_bytes w64) xs) ≡ 8 * length xs
long_numbers [] = refl
long_numbers (x ∷ xs) =
    grind (arith, length-append, long_numbers xs)

pub long_bytes : (version : Version) (s : Slip) → length (number_bytes version s) ≡ numbers_length version
unfolding number_bytes
long_bytes One s = long_numbers (numbers_of One s)
long_bytes Two s = long_numbers (numbers_of Two s)

number_is : (version : Version) (s : Slip) (tail : List ℕ) (i n : ℕ) → i < length (numbers_of version s)
    → get_or (numbers_of version s) i 0 ≡ n → n < 2 ^ 64 → number_at (number_bytes version s ++ tail) i ≡ n
unfolding number_at number_bytes
number_is version s tail i n low is fits =
    grind (arith, at_number (numbers_of version s) tail i low)

back : (version : Version) (s : Slip) (tail : List ℕ) → HasNumbers s → HoldsAllTotals version s.totals
    → slip_in version (number_bytes version s ++ tail) ≡ s
back version s tail fits reports =
    grind (arith, number_is)

pub slip_back : (v : Values) (s : Slip) → HasNumbers s → HoldsAllTotals (version_of v.failing) s.totals
    → slip_in (version_of v.failing) (body_of v s) ≡ s
unfolding body_of
slip_back v s fits reports = back (version_of v.failing) s
    (sha256 (header_digest v ++ number_bytes (version_of v.failing) s)) fits reports

pub slip_whole : (v : Values) (s : Slip) → HasNumbers s → is_slip v (body_of v s) ≡ true
unfolding is_slip body_of
slip_whole v s fits =
    grind (arith, take_at, long_bytes, drop_at, number_is, bytes_eq-Decides)

-- ---- as they are put together

-- of ten numbers, a version writes as many as it has
pub numbers_shown : (version : Version) (s : Slip) → take (numbers_length version) (number_bytes Two s)
    ≡ number_bytes version s
unfolding number_bytes
numbers_shown One s = refl
numbers_shown Two s = refl

pub slip_made : (v : Values) (s : Slip) (n sum_length : ℕ) (numbers digest zeros : List ℕ) → n
    ≡ numbers_length (version_of v.failing) → sum_length ≡ 32 → numbers ≡ number_bytes (version_of v.failing) s
    → digest ≡ sha256 (header_digest v ++ number_bytes (version_of v.failing) s) → take 1 (drop 32 zeros) ≡ closed_gate
    ∷ []
    → take (slip_length (version_of v.failing)) (put_mid n sum_length (numbers ++ zeros) digest) ≡ body_of v s
    ++ closed_gate ∷ []
unfolding body_of
slip_made v s n sum_length numbers digest zeros size short is right rest =
    let long : length numbers ≡ n = ap (λ (l : List ℕ). length l) is ∙ long_bytes (version_of v.failing) s ∙ sym size in
    let sum : length digest ≡ 32 = ap (λ (l : List ℕ). length l) right
    ∙ length-sha256 (header_digest v ++ number_bytes (version_of v.failing) s) in
    let both : length (numbers ++ digest) ≡ n + 32 = length-append numbers digest ∙ omega (arith, long, sum) in
    grind (arith, layered n numbers zeros digest long, take-append-add (numbers ++ digest) (drop 32 zeros) 1)
