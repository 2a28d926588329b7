-- The text of a record of numbers has no quotes.
use Rattle.std.proofs.Common.{◌≡◌, ℕ, suc, get_or, append-nil, ◌+◌, ◌*◌, ◌%◌, length-append, ◌<◌, ◌≤◌}
use Rattle.std.proofs.Common.{false, List, [], ◌∷◌, ◌++◌, length, map, ◌^◌, refl, ap, ◌∙◌, arith}
use Rattle.std.specs.Fmt.{decimal}
use Rattle.std.specs.List.{list_any, join_with_byte}
use Rattle.csv.specs.Writing.{default_writer, needs_byte, field_text, fields_text, is_blank, row_body, row_text}
use Rattle.std.proofs.lemmas.Bool.{or_from}
use Rattle.std.proofs.lemmas.Fmt.{decimal_by_steps, length-decimal-le}
use Rattle.std.proofs.lemmas.List.Folds.{list_any-append}
use Rattle.cut_ledger.specs.lines.Lines.{comma_line}

digit_needs_none : (b : ℕ) → 48 ≤ b → b ≤ 57 → needs_byte default_writer b ≡ false
digit_needs_none b low high =
    grind arith

-- no byte of a decimal calls for quotes, and there is one
record IsPlain (bs : List ℕ) : Type 0 where
  none : list_any (needs_byte default_writer) bs ≡ false
  some : 0 < length bs

one_digit : (d : ℕ) → d < 10 → list_any (needs_byte default_writer) ((48 + d) ∷ []) ≡ false
one_digit d low = or_from (needs_byte default_writer (48 + d)) false
    (digit_needs_none (48 + d) (omega arith) (omega arith)) refl

decimal_is_plain : (n : ℕ) → n < 2 ^ 64 → IsPlain (decimal n)
decimal_is_plain n fits =
    decimal_by_steps (λ m ds. IsPlain ds)
    (λ m low. record { none = one_digit m low; some = omega arith })
    (λ m ds high plain. record {
      none = grind (arith, list_any-append);
      some = omega (arith, length-append ds ((48 + m % 10) ∷ []), plain.some);
    })
    n fits

-- the text of a number is itself
pub plain_field : (n : ℕ) → n < 2 ^ 64 → field_text default_writer (decimal n) ≡ decimal n
plain_field n fits =
    grind (arith, decimal_is_plain)

plain_fields : (ns : List ℕ) (n : ℕ) → ((k : ℕ) → k < length (n ∷ ns) → get_or (n ∷ ns) k 0 < 2 ^ 64)
    → row_body default_writer (map decimal (n ∷ ns)) ≡ join_with_byte 44 (map decimal (n ∷ ns))
unfolding fields_text
plain_fields [] n fit = append-nil (field_text default_writer (decimal n)) ∙ plain_field n (fit 0 (omega arith))
plain_fields (m ∷ ns) n fit =
    ap (λ x. x ++ fields_text default_writer (map decimal (m ∷ ns))) (plain_field n (fit 0 (omega arith)))
    ∙ ap (λ x. decimal n ++ (44 ∷ x)) (plain_fields ns m (λ k lt. fit (suc k) (omega arith)))

not_blank : (n : ℕ) (ns : List ℕ) → n < 2 ^ 64 → is_blank default_writer (map decimal (n ∷ ns)) ≡ false
unfolding is_blank
not_blank n [] fits =
    grind (arith, decimal_is_plain)
not_blank n (m ∷ ns) fits = refl

-- a record of numbers is written as a line with commas
pub row_text-numbers : (n : ℕ) (ns : List ℕ) → ((k : ℕ) → k < length (n ∷ ns) → get_or (n ∷ ns) k 0 < 2 ^ 64)
    → row_text default_writer (map decimal (n ∷ ns)) ≡ comma_line (n ∷ ns)
row_text-numbers n ns fit =
    grind (arith, plain_fields, not_blank)

-- the same, of any numbers that are not none
pub numbers_line : (ns : List ℕ) → 0 < length ns → ((k : ℕ) → k < length ns → get_or ns k 0 < 2 ^ 64)
    → row_text default_writer (map decimal ns) ≡ comma_line ns
numbers_line [] some fit = absurd (omega arith)
numbers_line (n ∷ ns) some fit = row_text-numbers n ns fit

short_decimal : (n : ℕ) → n < 2 ^ 64 → length (decimal n) ≤ 20
short_decimal n fits = length-decimal-le 20 n (omega arith) (omega (arith, fits)) fits

-- a line has at most 20 digits and one other byte for each number
pub short_line : (ns : List ℕ) → 0 < length ns → ((k : ℕ) → k < length ns → get_or ns k 0 < 2 ^ 64)
    → length (comma_line ns) ≤ 21 * length ns
short_line [] some fit = absurd (omega arith)
short_line (n ∷ []) some fit = omega (arith, short_decimal n (fit 0 (omega arith)), length-append (decimal n) (10 ∷ []))
short_line (n ∷ m ∷ ns) some fit =
    let rest : List ℕ = join_with_byte 44 (map decimal (m ∷ ns)) in
    let whole : length (comma_line (n ∷ m ∷ ns)) ≡ length (decimal n) + (length rest + 1 + 1) =
    length-append (decimal n ++ 44 ∷ rest) (10 ∷ [])
    ∙ (let w = length-append (decimal n) (44 ∷ rest) in omega (arith, w)) in
    omega (
      arith,
      whole,
      length-append rest (10 ∷ []),
      short_decimal n (fit 0 (omega arith)),
      short_line (m ∷ ns)
          (omega arith) (λ k low. fit (suc k) (omega arith)),
    )
