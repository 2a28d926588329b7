-- What some bytes begin with, as it is found test by test.
use Rattle.std.proofs.Common.{◌≡◌, ◌-◌, ◌<◌, ◌≤◌, ◌++◌, ℕ, List, [], ◌∷◌, length, take, drop}
use Rattle.std.proofs.Common.{get_or, Some, None, sym, ap, arith, length-take-le}
use Rattle.std.proofs.Common.{take-append-drop}
use Rattle.std.specs.Int.{w32, from_be_bytes}
use Rattle.std.proofs.lemmas.Bool.Decides.{nat_tests}
use Rattle.std.proofs.lemmas.Nat.{be_bytes_4}
use Rattle.std.proofs.lemmas.Grind.{get_or_after_one}
use Rattle.cut_messages.specs.declared.kind.Kind.{Kind}
use Rattle.cut_messages.specs.declared.side.Side.{Side}
use Rattle.cut_messages.specs.declared.side.Side.TheVariants.{Requests, Replies}
use Rattle.cut_messages.specs.Kinds.{byte_of, kind_at, length_of}
use Rattle.cut_messages.specs.Frames.{length_fault}
use Rattle.cut_messages.specs.inside.Prefixes.{IsWhole}

-- a kind's letter is the byte that it was found by
kind_byte : (side : Side) (byte : ℕ) (kind : Kind) → kind_at side byte ≡ Some kind → byte_of kind ≡ byte
kind_byte Requests byte kind found = grind (arith, nat_tests)
kind_byte Replies byte kind found = grind (arith, nat_tests)

-- the first byte, the next four, and those after them
parted : (bytes : List ℕ) → 5 ≤ length bytes
    → bytes ≡ get_or bytes 0 0 ∷ (take 4 (drop 1 bytes) ++ drop 5 bytes)
parted [] long = absurd (omega (arith, long))
parted (first ∷ rest) long =
    ap (λ (l : List ℕ). first ∷ l) (sym (take-append-drop 4 rest))

-- a message stands there
pub whole_there : (side : Side) (bytes : List ℕ) (kind : Kind) (n : ℕ)
    → kind_at side (get_or bytes 0 0) ≡ Some kind → 5 ≤ length bytes
    → ((i : ℕ) → get_or (take 4 (drop 1 bytes)) i 0 < 256)
    → n ≡ from_be_bytes w32 (take 4 (drop 1 bytes)) → length_fault (length_of side kind) n ≡ None
    → n ≤ length bytes - 5 → IsWhole side bytes kind n
whole_there side bytes kind n found long small reported right there =
    grind (arith, length-take-le, kind_byte, be_bytes_4, take-append-drop, parted)

-- the four bytes of the length are bytes
pub small_four : (bytes : List ℕ) → ((k : ℕ) → get_or bytes k 0 < 256)
    → (i : ℕ) → get_or (take 4 (drop 1 bytes)) i 0 < 256
small_four bytes small i = grind (arith, get_or_after_one bytes i 0)
