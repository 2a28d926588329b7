-- The numbers that a command line gives.
use Rattle.std.proofs.Common.{◌≡◌, ◌≤◌, ◌<◌, ◌^◌, ℕ, List, Some, None, Result, sym, ◌∙◌}
use Rattle.std.proofs.Common.{arith}
use Rattle.std.specs.Str.Parse.{ParsesUnsigned, ExplainsUnsignedError, HasUnsignedDigitsIfOk}
use Rattle.std.specs.declared.num.ParseIntError.{ParseIntError}
use Rattle.clap.specs.Words.{Row, Text, one_of}
use Rattle.clap.specs.Matches.{ReadsOne}
use Rattle.cut_command_line.specs.Line.{GivesNumber}

-- how a number of 32 bits is read from a text
abbrev pub ReadsNumber : List ℕ → Result ℕ ParseIntError → Type 0
ReadsNumber bs r = ParsesUnsigned 32 10 bs r × ExplainsUnsignedError 10 bs r × HasUnsignedDigitsIfOk bs r

-- where no number was read, none is given
pub none_given : (option : Text) (most : ℕ) (rows : List Row) → most < 2 ^ 32
    → ((t : Text) → one_of option rows ≡ Some t → ReadsOne ReadsNumber t None)
    → (n : ℕ) → GivesNumber option most rows n → ⊥
none_given option most rows small reads n given =
    grind arith

-- where a number was read, no other is given
pub same_given : (option : Text) (most : ℕ) (rows : List Row) (m : ℕ)
    → ((t : Text) → one_of option rows ≡ Some t → ReadsOne ReadsNumber t (Some m))
    → (n : ℕ) → GivesNumber option most rows n → n ≡ m
same_given option most rows m reads n given = sym given.is.value ∙ sym (reads given.text given.given).0.1

-- and that one is, where it is in its range
pub is_given : (option : Text) (most : ℕ) (rows : List Row) (m : ℕ) → (one_of option rows ≡ None → ⊥)
    → ((t : Text) → one_of option rows ≡ Some t → ReadsOne ReadsNumber t (Some m)) → 1 ≤ m → m ≤ most
    → GivesNumber option most rows m
is_given option most rows m some reads low high = grind arith
