use Rattle.std.proofs.lemmas.Grind.{common_steps}
use Rattle.std.proofs.Common.{◌≡◌, ◌∙◌, ℕ, List, Option, Some, None, length, sym, subst, arith, codes}
use Rattle.std.specs.Prelude.{IfNone}
use Rattle.std.specs.List.{position_or_len}
use Rattle.clap.specs.Words.{Row, Text, found_of, first_of, rows_of}
use Rattle.clap.proofs.WalkLemmas.{first_value-rows}
use Rattle.cut_command_line.specs.declared.machines.ShareNumber.{ShareNumber}
use Rattle.cut_command_line.specs.Line.{GivesShare, IsDigitsIn}
use Rattle.cut_command_line.proofs.ShareLemmas.{IsShareText, is_slash, share_text}
use Rattle.cut_command_line.proofs.machines.share_given.Goals as goal

-- the matches give no share
abbrev GivesNone : List Row → Type 0
GivesNone rows = (index shares : ℕ) → GivesShare rows index shares → ⊥

none : (rows : List Row) (o : Option ShareNumber) → o ≡ None → GivesNone rows → IfNone o (GivesNone rows)
none rows o is gives = subst (λ (found : Option ShareNumber). IfNone found (GivesNone rows)) (sym is) gives

-- the text that they give for the share, where it is this one, is what stands before its first slash and after it
split : (rows : List Row) (text : Text) → first_of (codes "share") rows ≡ Some text → (index shares : ℕ)
    → GivesShare rows index shares → IsShareText text index shares
split rows text has index shares gives = grind (arith, share_text)

pub returns-in_err-text-clause-none : goal.returns-in_err-text-clause-none
returns-in_err-text-clause-none c =
    grind (arith, first_value-rows)

pub returns-in_err-first-clause-none : goal.returns-in_err-first-clause-none
returns-in_err-first-clause-none c =
    let rows : List Row = rows_of (found_of c.args.given.now) in
    let has = sym (first_value-rows (found_of c.args.given.now) (codes "share")) ∙ sym c.in_ok-text.ensures in
    let lacks : position_or_len is_slash c.in_ok-text.text.now ≡ length c.in_ok-text.text.now =
    c.in_err-first.ensures.byte (omega arith) (λ w o found. found) in
    none rows c.from_residual-in_err-first.result c.from_residual-in_err-first.ensures (λ index shares gives.
    let is = split rows c.in_ok-text.text.now has index shares gives in
    omega (arith, lacks, is.slash))

pub returns-in_err-index-clause-none : goal.returns-in_err-index-clause-none
returns-in_err-index-clause-none c =
    let rows : List Row = rows_of (found_of c.args.given.now) in
    let has = sym (first_value-rows (found_of c.args.given.now) (codes "share")) ∙ sym c.in_ok-text.ensures in
    let cut = c.in_ok-first.ensures.byte (omega arith) (λ w o found. found) in
    none rows c.from_residual-in_err-index.result c.from_residual-in_err-index.ensures (λ index shares gives.
    let is = split rows c.in_ok-text.text.now has index shares gives in
    c.in_err-index.ensures.none index
    (subst (λ (t : Text). IsDigitsIn 100000 t index) (sym cut.0) is.index_is))

pub returns-in_err-shares-clause-none : goal.returns-in_err-shares-clause-none
returns-in_err-shares-clause-none c =
    let rows : List Row = rows_of (found_of c.args.given.now) in
    let has = sym (first_value-rows (found_of c.args.given.now) (codes "share")) ∙ sym c.in_ok-text.ensures in
    let cut = c.in_ok-first.ensures.byte (omega arith) (λ w o found. found) in
    none rows c.from_residual-in_err-shares.result c.from_residual-in_err-shares.ensures (λ index shares gives.
    let is = split rows c.in_ok-text.text.now has index shares gives in
    c.in_err-shares.ensures.none shares
    (subst (λ (t : Text). IsDigitsIn 100000 t shares) (sym cut.1) is.shares_are))

-- two numbers that one text is are the same
same : (text : Text) (n m : ℕ) → IsDigitsIn 100000 text n → IsDigitsIn 100000 text m → n ≡ m
same text n m one other = sym one.value ∙ other.value

pub returns-then-index-shares-clause-none : goal.returns-then-index-shares-clause-none
returns-then-index-shares-clause-none c = λ index shares gives.
    let rows : List Row = rows_of (found_of c.args.given.now) in
    let has = sym (first_value-rows (found_of c.args.given.now) (codes "share")) ∙ sym c.in_ok-text.ensures in
    let cut = c.in_ok-first.ensures.byte (omega arith) (λ w o found. found) in
    let is = split rows c.in_ok-text.text.now has index shares gives in
    let first = same _ _ _ (subst (λ (t : Text). IsDigitsIn 100000 t index) (sym cut.0) is.index_is)
    c.in_ok-index.ensures.some in
    let second = same _ _ _ (subst (λ (t : Text). IsDigitsIn 100000 t shares) (sym cut.1) is.shares_are)
    c.in_ok-shares.ensures.some in
    omega (arith, first, second, is.within, c.if-index-shares.true)

pub returns-clause-some : goal.returns-clause-some
returns-clause-some c =
    grind (arith, common_steps, first_value-rows)
