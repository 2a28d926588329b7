-- The words by which a plan names how processes fail.
use Rattle.std.specs.Prelude.{ℕ, List, [], ◌∷◌, codes, Option}
use Rattle.std.specs.List.{find}
use Rattle.std.specs.Str.{bytes_eq}
use Rattle.cut_plan.specs.declared.dead.Dead.{Dead}
use Rattle.cut_plan.specs.declared.dead.Dead.TheVariants.{Silent, Speak}
use Rattle.cut_plan.specs.declared.faults.Faults.{Faults}
use Rattle.cut_plan.specs.declared.faults.Faults.TheVariants.{Crash, Deaf}

-- the word that names whether crashed observers raise alerts
abbrev pub dead_word : Dead → List ℕ
dead_word Silent = codes "silent"
dead_word Speak = codes "speak"

-- what a word says of crashed observers
abbrev pub dead_of : List ℕ → Option Dead
dead_of word = find (λ dead. bytes_eq word (dead_word dead)) (Silent ∷ Speak ∷ [])

-- the word that names how targets fail
abbrev pub faults_word : Faults → List ℕ
faults_word Crash = codes "crash"
faults_word Deaf = codes "deaf"

-- how targets fail by a word
abbrev pub faults_of : List ℕ → Option Faults
faults_of word = find (λ faults. bytes_eq word (faults_word faults)) (Crash ∷ Deaf ∷ [])
