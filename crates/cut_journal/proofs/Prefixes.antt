-- The bytes that a study's file begins with, as they are put together.
use Rattle.std.proofs.Common.{◌≡◌, ◌∙◌, ◌≤◌, ◌+◌, ◌-◌, ◌++◌, ℕ, List, [], ◌∷◌, Ok}
use Rattle.std.proofs.Common.{length, take, drop, ap, arith, append_assoc, length-append}
use Rattle.std.specs.Int.{w32, to_be_bytes}
use Rattle.std.proofs.lemmas.List.{take_rest, take_at, drop_at}
use borrow.Rule.Slice.PartMut.{put_mid}
use Rattle.sha2.proofs.Facts256.{length-sha256}
use Rattle.sha2.specs.Sha256.{sha256}
use Rattle.cut_plan.specs.Failing.{version_of}
use Rattle.cut_plan.specs.Values.{Values}
use Rattle.cut_plan.specs.Accepted.{plan_of}
use Rattle.cut_plan.specs.Canonical.{canonical_text}
use Rattle.cut_journal.specs.File.{open_gate, closed_gate, magic_of, header_of, header_digest, prefix_of}
use Rattle.cut_journal.specs.inside.File.{rest_of}

pub header_made : (v : Values) (a b c d e : List ℕ) → a ≡ [] → b ≡ a ++ open_gate ∷ [] → c ≡ b
    ++ magic_of (version_of v.failing) → d ≡ c ++ to_be_bytes w32 (length (canonical_text v)) → e ≡ d
    ++ canonical_text v → e ≡ open_gate ∷ header_of v
unfolding header_of
header_made v a b c d e none first letters size text =
    grind arith

after_first : (all : List ℕ) (first : ℕ) (rest : List ℕ) → all ≡ first ∷ rest → take (length all - 1) (drop 1 all)
    ≡ rest
after_first all first rest is = take_rest all 1 ∙ ap (drop 1) is

pub digest_made : (v : Values) (e digest : List ℕ) → e ≡ open_gate ∷ header_of v → digest
    ≡ sha256 (take (length e - 1) (drop 1 e)) → digest ≡ header_digest v
unfolding header_digest
digest_made v e digest is made = made ∙ ap sha256 (after_first e open_gate (header_of v) is)

pub prefix_made : (v : Values) (e f digest : List ℕ) → e ≡ open_gate ∷ header_of v → digest ≡ header_digest v → f ≡ e
    ++ digest → f ≡ prefix_of v
unfolding prefix_of
prefix_made v e f digest is right made = made ∙ ap (λ (l : List ℕ). l ++ digest) is
    ∙ ap (λ (l : List ℕ). open_gate ∷ header_of v ++ l) right

pub long_header : (v : Values) → length (header_of v) ≡ length (canonical_text v) + 12
unfolding header_of
long_header v =
    grind arith

pub long_prefix : (v : Values) → length (prefix_of v) ≡ length (canonical_text v) + 45
unfolding prefix_of header_digest
long_prefix v =
    grind (arith, long_header, length-sha256, length-append)

pub rest_made : (v : Values) (prefix a b : List ℕ) → prefix ≡ prefix_of v → a ≡ take (length prefix - 1) (drop 1 prefix)
    → b ≡ a ++ closed_gate ∷ [] → b ≡ rest_of v
unfolding rest_of prefix_of
rest_made v prefix a b is rest more =
    grind (arith, after_first)

-- a plan's text is no longer than a text that is read as a plan
pub short_text : (v : Values) → plan_of (canonical_text v) ≡ Ok v → length (canonical_text v) ≤ 65536
unfolding plan_of
short_text v reads = grind arith

-- a slip's numbers and digest over a closed gate
pub layered : (n : ℕ) (numbers zeros digest : List ℕ) → length numbers ≡ n → put_mid n 32 (numbers ++ zeros) digest
    ≡ (numbers ++ digest) ++ drop 32 zeros
layered n numbers zeros digest long =
    grind (arith, take_at, drop_at, append_assoc)
