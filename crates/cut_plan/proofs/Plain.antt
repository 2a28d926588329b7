-- Short texts in UTF-8: of a number, of a list of numbers, and in quotes.
use Rattle.std.proofs.Common.{◌≡◌, ℕ, ◌^◌, ◌+◌, ◌*◌, ◌≤◌, ◌<◌, List, [], ◌∷◌, ◌++◌, map, length, length-append, Bool}
use Rattle.std.proofs.Common.{true, false, ◌&&◌, nat_lt, nat_le, decimal, refl, arith}
use Rattle.std.proofs.lemmas.Fmt.{IsAscii-decimal, length-decimal-le}
use Rattle.std.proofs.lemmas.Str.{IsUtf8-append, IsUtf8-from_ascii}
use Rattle.std.proofs.lemmas.Str.Ascii.{IsAscii-nil}
use Rattle.std.specs.List.{AllByRecursion, list_all}
use Rattle.std.specs.Str.{IsUtf8, IsAscii}
use Rattle.hex.specs.Hex.{encode_lower}
use Rattle.hex.proofs.HexLemmas.{length-encode_with, IsAscii-encode_with}
use Rattle.json.specs.Print.{escape_byte, escape, quoted}
use Rattle.json.proofs.Printed.Utf8.{IsUtf8-quoted}
use Rattle.serde_json.specs.Data.{Items, number, unsigned}
use Rattle.serde_json.specs.View.{items_of}
use Rattle.serde_json.specs.Written.{items_text, comma_if}

-- a text in UTF-8 of at most this many bytes
pub record IsPlain (most : ℕ) (text : List ℕ) : Type 0 where
  pub utf8 : IsUtf8 text
  pub short : length text ≤ most

pub plain_more : (m n : ℕ) (text : List ℕ) → m ≤ n → IsPlain m text → IsPlain n text
plain_more m n text below plain = let short = plain.short in record { utf8 = plain.utf8; short = omega arith }

pub plain_both : (m n : ℕ) (xs ys : List ℕ) → IsPlain m xs → IsPlain n ys → IsPlain (m + n) (xs ++ ys)
plain_both m n xs ys first second =
    grind (arith, IsUtf8-append, length-append)

-- ---- texts that are tested byte by byte

are_ascii : (xs : List ℕ) → list_all (λ x. nat_lt x 128) xs ≡ true → IsAscii xs
are_ascii [] h = IsAscii-nil
are_ascii (x ∷ xs) h =
    grind (arith, are_ascii xs)

-- whether a text is of ASCII, and has at most this many bytes
abbrev pub is_plain : ℕ → List ℕ → Bool
is_plain most xs = list_all (λ x. nat_lt x 128) xs && nat_le (length xs) most

pub plain_tested : (most : ℕ) (xs : List ℕ) → is_plain most xs ≡ true → IsPlain most xs
plain_tested most xs h =
    grind (arith, IsUtf8-from_ascii, are_ascii)

pub plain_comma : (later : Bool) → IsPlain 1 (comma_if later)
plain_comma true = plain_tested 1 (comma_if true) refl
plain_comma false = plain_tested 1 [] refl

-- ---- hexadecimal digits, and numbers

pub plain_digits : (bytes : List ℕ) → length bytes ≡ 32 → IsPlain 64 (encode_lower bytes)
plain_digits bytes len =
    search (arith, length-encode_with, IsUtf8-from_ascii, IsAscii-encode_with, are_ascii)

pub plain_decimal : (k n : ℕ) → 0 < k → n < 10 ^ k → n < 2 ^ 64 → IsPlain k (decimal n)
plain_decimal k n some small fits = grind (arith, IsUtf8-from_ascii, IsAscii-decimal, length-decimal-le)

-- ---- texts in quotes

length_escape_byte : (x : ℕ) → length (escape_byte x) ≤ 6
unfolding escape_byte
length_escape_byte x =
    grind arith

length_escape : (xs : List ℕ) → length (escape xs) ≤ 6 * length xs
length_escape [] = omega arith
length_escape (x ∷ xs) =
    grind (arith, length_escape_byte, length-append, length_escape xs)

pub plain_quoted : (n : ℕ) (xs : List ℕ) → IsPlain n xs → IsPlain (6 * n + 2) (quoted xs)
plain_quoted n xs plain =
    grind (arith, length_escape, IsUtf8-quoted, length-append)

-- ---- lists of numbers

abbrev pub AreSmall : List ℕ → Type 0
AreSmall xs = AllByRecursion (λ x. x < 10000) xs

-- the items of numbers as JSON
abbrev pub items_data : List ℕ → Items
items_data xs = items_of (map (λ x. number (unsigned x)) xs)

plain_items : (later : Bool) (xs : List ℕ) → AreSmall xs
    → IsPlain (5 * length xs + 1) (items_text later (items_data xs))
plain_items later [] small = plain_tested 1 (93 ∷ []) refl
plain_items later (x ∷ xs) small =
    let first : x < 10000 = small.0 in
    let rest = plain_items true xs small.1 in
    let digits = plain_decimal 4 x (omega arith) first (omega arith) in
    let whole = plain_both 1 (4 + (5 * length xs + 1)) (comma_if later) _ (plain_comma later)
    (plain_both 4 (5 * length xs + 1) (decimal x) _ digits rest) in
    plain_more _ _ _ (omega arith) whole

pub plain_list : (n : ℕ) (xs : List ℕ) → AreSmall xs → length xs ≤ n
    → IsPlain (5 * n + 2) (91 ∷ items_text false (items_data xs))
plain_list n xs small few =
    plain_more _ _ _ (omega arith) (plain_both 1 (5 * length xs + 1) (91 ∷ [])
    (items_text false (items_data xs)) (plain_tested 1 (91 ∷ []) refl) (plain_items false xs small))
