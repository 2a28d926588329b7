-- What a text is, by its length and its bytes.
use Rattle.std.proofs.Common.{◌≡◌, ℕ, ◌≤◌, List, length, false, Err, refl}
use Rattle.std.proofs.lemmas.Bool.{le-ltb, false_from_ne_true}
use Rattle.std.proofs.lemmas.Str.{is_utf8-from_IsUtf8, IsUtf8-from_is_utf8}
use Rattle.std.specs.Str.{is_utf8, IsUtf8}
use Rattle.serde_json.specs.Read.{read}
use Rattle.cut_plan.specs.declared.refusal.Refusal.TheVariants.{NotJson}
use Rattle.cut_plan.specs.Accepted.{plan_of}
use Rattle.cut_plan.specs.inside.Accepted.{found_in}

pub plan_of-text : (text : List ℕ) → length text ≤ 65536 → IsUtf8 text → plan_of text ≡ found_in (read text)
unfolding plan_of
plan_of-text text short utf8 = rw (le-ltb 65536 (length text) short, is_utf8-from_IsUtf8 text utf8) refl

pub plan_of-bytes : (text : List ℕ) → length text ≤ 65536 → (IsUtf8 text → ⊥) → plan_of text ≡ Err NotJson
unfolding plan_of
plan_of-bytes text short other =
    let no_text : is_utf8 text ≡ false = false_from_ne_true (is_utf8 text) (λ e. other (IsUtf8-from_is_utf8 text e)) in
    rw (le-ltb 65536 (length text) short, no_text) refl
