-- Where a server keeps the study of a plan.
use Rattle.std.specs.Prelude.{ℕ, List, ◌++◌, ◌∷◌, codes}
use Rattle.hex.specs.Hex.{encode_lower}
use Rattle.sha2.specs.Sha256.{sha256}
use Rattle.cut_plan.specs.Canonical.{canonical_text}
use Rattle.cut_plan.specs.Values.{Values}

-- the name of its file: the digest of its canonical text in 64 hexadecimal digits, and `.cut`
abbrev pub file_name : Values → List ℕ
file_name v = encode_lower (sha256 (canonical_text v)) ++ codes ".cut"

-- its path, in a folder
abbrev pub file_path : List ℕ → Values → List ℕ
file_path folder v = folder ++ 47 ∷ file_name v
