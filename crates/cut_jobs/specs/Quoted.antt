-- A text in double quotes, with nothing in it that ends a line or hides what is around it.
use Rattle.std.specs.Prelude.{◌+◌, ◌++◌, ◌∷◌, ◌==◌, ◌&&◌, ◌||◌, ℕ, Bool, List, [], cond, not, nat_lt, codes}
use Rattle.std.specs.Char.{encode_utf8}
use Rattle.std.specs.Char.Escape.{backslash, escape_unicode}
use Rattle.std.specs.List.{flat_map}
use Rattle.std.specs.Str.{chars}

-- whether a character is one of those from the first to the last
abbrev pub is_from_to : ℕ → ℕ → ℕ → Bool
is_from_to first last c = not (nat_lt c first) && nat_lt c (last + 1)

-- whether a character shows nothing of itself, or changes how the text around it is shown: the control characters, the
-- spaces without width, the marks and embeddings of a direction, the ends of a line and of a paragraph, and the mark of
-- an order of bytes
abbrev pub is_hidden : ℕ → Bool
is_hidden c =
    is_from_to 0 0x1F c || is_from_to 0x7F 0x9F c || is_from_to 0x200B 0x200F c || is_from_to 0x2028 0x202E c
    || is_from_to 0x2066 0x2069 c || c == 0xFEFF

-- the letter after the backslash of a character that has one, else 0
abbrev pub letter_of : ℕ → ℕ
letter_of c =
    cond (c == 34) 34 (cond (c == 92) 92 (cond (c == 0) 48 (cond (c == 9) 116 (cond (c == 10) 110
    (cond (c == 13) 114 0)))))

-- the bytes of a character between the quotes: a backslash and its letter, its code in hex as `\u{1b}` if it is hidden,
-- or the character as it is
abbrev pub quoted_char : ℕ → List ℕ
quoted_char c =
    cond (nat_lt 0 (letter_of c)) (backslash ∷ letter_of c ∷ [])
    (cond (is_hidden c) (escape_unicode c) (encode_utf8 c))

-- the bytes of a text in double quotes
abbrev pub quoted : List ℕ → List ℕ
quoted text = codes "\"" ++ flat_map quoted_char (chars text) ++ codes "\""
