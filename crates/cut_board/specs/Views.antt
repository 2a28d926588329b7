-- What a seat has done: the numbers that it drew, what it counted, and the counts that it read.
use Rattle.std.specs.Prelude.{ℕ, ◌==◌, List, [], ◌∷◌, ◌++◌, flat_map, max, sum_by, if◌then◌else◌}
use Rattle.cut_board.specs.declared.view.Entry.{Entry}
use Rattle.cut_board.specs.declared.view.Entry.TheVariants as entry
use Rattle.cut_board.specs.declared.view.View.{View}

-- ---- of one entry of a log

-- the number that it drew of a study
abbrev pub drawn_of : ℕ → Entry → List ℕ
drawn_of k (entry.Drew study n) = if study == k then n ∷ [] else []
drawn_of k e = []

-- what it counted of it
abbrev pub counted_of : ℕ → Entry → ℕ
counted_of k (entry.Counted study n) = if study == k then n else 0
counted_of k e = 0

-- the count of it that it read
abbrev pub read_of : ℕ → Entry → ℕ
read_of k (entry.Read study n) = if study == k then n else 0
read_of k e = 0

-- how many numbers it drew, of any study
abbrev pub draws_of : Entry → ℕ
draws_of (entry.Drew study n) = 1
draws_of e = 0

-- what it counted, of any study
abbrev pub amount_of : Entry → ℕ
amount_of (entry.Counted study n) = n
amount_of e = 0

-- ---- of one seat

-- the greatest number that entries have, 0 if there is none
abbrev pub greatest : (Entry → ℕ) → List Entry → ℕ
greatest f [] = 0
greatest f (e ∷ log) = max (f e) (greatest f log)

-- the numbers that a seat drew of a study, in order
abbrev pub drawn_in : ℕ → View → List ℕ
drawn_in study v = flat_map (drawn_of study) v.log

-- what it counted of a study, added up
abbrev pub counted_in : ℕ → View → ℕ
counted_in study v = sum_by (counted_of study) v.log

-- the greatest count of a study that it read
abbrev pub read_in : ℕ → View → ℕ
read_in study v = greatest (read_of study) v.log

-- the greatest count of a study that it has seen: one that it read, or its own, if that is greater
unfoldable pub seen_in : ℕ → View → ℕ
seen_in study v = max (read_in study v) (counted_in study v)

-- how many numbers it drew, of all studies together
abbrev pub draws_in : View → ℕ
draws_in v = sum_by draws_of v.log

-- what it counted, of all studies together
abbrev pub amount_in : View → ℕ
amount_in v = sum_by amount_of v.log

-- ---- of many seats

-- the numbers that they drew of a study
abbrev pub drawn_by : ℕ → List View → List ℕ
drawn_by study views = flat_map (drawn_in study) views

-- what they counted of a study, added up
abbrev pub counted_by : ℕ → List View → ℕ
counted_by study views = sum_by (counted_in study) views

-- ---- what a seat does

-- a seat that has done nothing
abbrev pub idle : ℕ → View
idle parts = record { parts = parts; log = [] }

-- it did one thing more
abbrev pub entered : View → Entry → View
entered v e = record v { log = v.log ++ e ∷ [] }

-- it drew a number of a study
abbrev pub drew : View → ℕ → ℕ → View
drew v study n = entered v (entry.Drew study n)

-- it counted n more
abbrev pub counted : View → ℕ → ℕ → View
counted v study n = entered v (entry.Counted study n)

-- it read a count
abbrev pub read : View → ℕ → ℕ → View
read v study n = entered v (entry.Read study n)
