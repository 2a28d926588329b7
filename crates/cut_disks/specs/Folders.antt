-- The folder in which a file has its entry.
use Rattle.std.specs.Prelude.{ℕ, List, [], ◌∷◌, Option, None, Some, codes}

-- the path of the folder, by the parent of the file's path; the current folder if there is no parent
abbrev pub folder_text : Option (List ℕ) → List ℕ
folder_text None = codes "."
folder_text (Some []) = codes "."
folder_text (Some (letter ∷ letters)) = letter ∷ letters
