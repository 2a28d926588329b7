-- What passes over a wire of a reader and a writer.
use Rattle.std.proofs.Common.{◌≡◌, ℕ, List, Option, Some, None, length}
use Rattle.std.proofs.Common.{drop, refl, sym, ap, ◌∙◌, subst, arith, length-append}
use Rattle.std.specs.Prelude.{IsSome}
use Rattle.std.specs.Io.KnownBytes.{Appends, Consumes}
use Rattle.std.proofs.Math.Seq.{take-append_seam, drop-append_seam}
use Rattle.cut_wires.specs.Streams.{given_of, taken_of}

-- what a reader whose bytes are known gave is what it consumed
pub given_is : (had has : Option (List ℕ)) (bytes : List ℕ) → IsSome had → Consumes had has bytes → given_of had has
    ≡ bytes
given_is None has bytes reports consumed = cc
given_is (Some xs) None bytes reports consumed = absurd consumed
given_is (Some xs) (Some ys) bytes reports consumed =
    grind (arith, length-append bytes ys, take-append_seam bytes ys)

-- what a writer whose bytes are known took is what was appended
pub taken_is : (held holds : Option (List ℕ)) (bytes : List ℕ) → IsSome held → Appends held holds bytes
    → taken_of held holds ≡ bytes
taken_is None holds bytes reports appended = cc
taken_is (Some xs) None bytes reports appended = absurd appended
taken_is (Some xs) (Some ys) bytes reports appended = ap (λ zs. drop (length xs) zs) appended
    ∙ drop-append_seam xs bytes

-- so both are followed, whether their bytes are known or not
pub consumed : (had has : Option (List ℕ)) (bytes : List ℕ) → Consumes had has bytes
    → Consumes had has (given_of had has)
consumed None has bytes is = tt
consumed (Some xs) has bytes is = subst (Consumes (Some xs) has) (sym (given_is (Some xs) has bytes refl is)) is

pub appended : (held holds : Option (List ℕ)) (bytes : List ℕ) → Appends held holds bytes
    → Appends held holds (taken_of held holds)
appended None holds bytes is = tt
appended (Some xs) holds bytes is = subst (Appends (Some xs) holds) (sym (taken_is (Some xs) holds bytes refl is)) is
