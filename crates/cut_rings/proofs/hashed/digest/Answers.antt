use Rattle.std.proofs.Common.{◌≡◌, ◌++◌, List, ℕ, [], ap, ◌∙◌, w32}
use Rattle.std.specs.Int.{to_be_bytes}
use Rattle.sha2.specs.Sha256.{sha256}
use Rattle.cut_rings.specs.Hashed.{digest_of}
use Rattle.cut_rings.proofs.hashed.digest.Goals as goal

joined : (s t a b x y : List ℕ) → s ≡ t → a ≡ b → x ≡ y → sha256 (s ++ a ++ x) ≡ sha256 (t ++ b ++ y)
joined s t a b x y p q r = cc

pub returns : goal.returns
unfolding digest_of
returns c =
    c.finalize.ensures _ (c.update-3.ensures _ (c.update-2.ensures _ (c.update.ensures [] c.new-hasher.ensures)))
    ∙ joined _ _ _ _ _ _ c.as_slice.ensures (c.to_be_bytes.ensures ∙ ap (to_be_bytes w32) c.from.ensures)
    (c.to_be_bytes-2.ensures ∙ ap (to_be_bytes w32) c.from-2.ensures)
