-- What was sent on a wire, up to a write that failed, if one did.
use Rattle.std.specs.Prelude.{◌≡◌, ◌<◌, ◌⊎◌, ℕ, List, length, take}
use Rattle.cut_wires.specs.Log.{WireLog, wrote, write_failed}

-- some first bytes of a text were written, and not all, when a write failed
abbrev pub IsCutShort : List ℕ → ℕ → WireLog → WireLog → Type 0
IsCutShort text sent old new = (sent < length text) × (new ≡ write_failed (wrote old (take sent text)))

-- exactly this text was written, up to a write that failed, if one did
abbrev pub IsSent : List ℕ → WireLog → WireLog → Type 0
IsSent text old new = (new ≡ wrote old text) ⊎ ((sent : ℕ) × IsCutShort text sent old new)
