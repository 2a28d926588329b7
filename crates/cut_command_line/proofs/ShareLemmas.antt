-- The text of a share, cut at its slash.
use Rattle.std.proofs.Common.{◌≡◌, ◌∙◌, ◌++◌, ◌<◌, ◌≤◌, ◌∷◌, [], ℕ, zero, suc, Bool, List, ◌==◌}
use Rattle.std.proofs.Common.{length, get_or, sym, ap, subst, arith, codes, refl, append_assoc, length-append}
use Rattle.std.specs.Char.{digit_value}
use Rattle.std.specs.List.{position_or_len, before_first, after_first}
use Rattle.std.specs.Str.Parse.{AllDigits}
use Rattle.std.proofs.lemmas.List.{get_or_append_left, get_or_at}
use Rattle.std.proofs.lemmas.List.Sums.{passes_at_first, position_or_len_is, split_at_first}
use Rattle.std.proofs.lemmas.Bool.Decides.{nat_tests}
use Rattle.clap.specs.Words.{Text}
use Rattle.clap.proofs.CutLemmas.{Lacks, after_first-at, before_first-at}
use Rattle.cut_command_line.specs.declared.options.limits.TheConstants.{MOST_SHARES}
use Rattle.cut_command_line.specs.Line.{IsDigitsIn}

-- a byte is a slash
abbrev pub is_slash : ℕ → Bool
is_slash b = b == 47

-- a text is the number of a share, up to its first slash, and how many shares there are, after that
pub record IsShareText (text : Text) (index shares : ℕ) : Type 0 where
  pub slash : position_or_len is_slash text < length text
  pub index_is : IsDigitsIn MOST_SHARES (before_first is_slash text) index
  pub shares_are : IsDigitsIn MOST_SHARES (after_first is_slash text) shares
  pub within : index ≤ shares

-- no digit is a slash
digits_lack : (ds : List ℕ) → AllDigits 10 ds → Lacks 47 ds
digits_lack [] are i low = absurd (omega (arith, low))
digits_lack (d ∷ ds) are zero low = λ bad.
    let small : 36 < 10 = subst (λ (n : ℕ). digit_value n < 10) bad are.0 in absurd (omega (arith, small))
digits_lack (d ∷ ds) are (suc i) low = digits_lack ds are.1 i (omega (arith, low))

-- the first slash after a text that has none
slash_at : (first second : Text) → Lacks 47 first → position_or_len is_slash (first ++ 47 ∷ second) ≡ length first
slash_at first second lacks =
    position_or_len_is is_slash (first ++ 47 ∷ second) (length first) 0
    (omega (arith, length-append first (47 ∷ second)))
    (λ k low. let other = lacks k low in rw get_or_append_left (grind (arith, nat_tests)))
    (λ more. rw (get_or_at first 47 second 0 (length first) refl) refl)

-- a number, a slash and a number are the text of a share
pub share_text : (text : Text) (index shares : ℕ) (first second : Text) → first ++ codes "/" ++ second ≡ text
    → IsDigitsIn MOST_SHARES first index → IsDigitsIn MOST_SHARES second shares → index ≤ shares
    → IsShareText text index shares
share_text text index shares first second is number count within =
    let lacks = digits_lack first number.numeral.1 in
    let at = slash_at first second lacks in
    let whole : first ++ 47 ∷ second ≡ text = sym (append_assoc first (47 ∷ []) second) ∙ is in
    let cut : IsShareText (first ++ 47 ∷ second) index shares = record {
      slash = omega (arith, at, length-append first (47 ∷ second));
      index_is =
          subst (λ (t : Text). IsDigitsIn MOST_SHARES t index) (sym (before_first-at 47 first second lacks)) number;
      shares_are =
          subst (λ (t : Text). IsDigitsIn MOST_SHARES t shares) (sym (after_first-at 47 first second lacks)) count;
      within = within;
    } in
    subst (λ (t : Text). IsShareText t index shares) whole cut

-- a text with a slash is what stands before the first one, a slash, and what stands after it
pub around_slash : (text first second : Text) → position_or_len is_slash text < length text
    → first ≡ before_first is_slash text → second ≡ after_first is_slash text → text ≡ first ++ codes "/" ++ second
around_slash text first second slash before after =
    let passes = passes_at_first is_slash text 0 slash in
    let is : get_or text (position_or_len is_slash text) 0 ≡ 47 = grind (arith, nat_tests) in
    let parts : text ≡ before_first is_slash text ++ 47 ∷ after_first is_slash text =
    split_at_first is_slash text 0 slash
    ∙ ap (λ (c : ℕ). before_first is_slash text ++ c ∷ after_first is_slash text) is in
    parts ∙ ap (λ (t : Text). t ++ 47 ∷ after_first is_slash text) (sym before)
    ∙ ap (λ (t : Text). first ++ 47 ∷ t) (sym after) ∙ sym (append_assoc first (47 ∷ []) second)
